-- `hear` meets its contract: nothing in its own slot, a good column's frame, or what the file says of a bad one. Assumes nothing.
use mathlib.Core.Path.{◌≡◌, refl, sym, ◌∙◌, ap}
use mathlib.Core.Option.{some}
use Prim.Native.Nat.{ℕ, ◌+◌, ◌-◌, ◌≤◌}
use native.Mathlib.Omega.{arith}
use lib.ListN.{length, take, drop, length-drop}
use lib.Seq.{length-take-le}
use Rattle.code.specs.Settings.{Settings, settings, check_count, value_size}
use Rattle.record.specs.Frame.{header_size, operand_size, frame_size}
use Rattle.column.specs.Call.{after_take}
use Rattle.record.specs.View.{view}
use Rattle.bench_file.specs.Scenario.{Scenario}
use Rattle.bench_file.specs.Steps.Places.{Located, PlacesOf}
use Rattle.bench.specs.Steps.Running.{AfterHearing, frame_bytes}
use Rattle.bench.proofs.Running.Hearing.{heard_own, heard_good, heard_missing, heard_message}
use Rattle.bench_file.proofs.Located.{bytes_at_none, bytes_at_some}
use Rattle.bench_file.proofs.OneCommand.Faults.{small_settings}
use Rattle.bench.proofs.group.hear.Goals as goal
use Rattle.bench.proofs.group.hear.Goals.{After-operand_size-size, In-Some}

pub returns-then-slot-to : goal.returns-then-slot-to
unfolding AfterHearing
returns-then-slot-to c f frames h e = rw (heard_own f frames _ _ _ c.if-slot-to.true) refl

pub operand_size-size-requires : goal.operand_size-size-requires
operand_size-size-requires c = let s = small_settings c.args.places.now.settings in (s.1, s.2)

-- the size is the operand's of the round
size_as :
    (c : After-operand_size-size) (f : Scenario) →
    let a = c.args in Located a.file.now a.places.now f → c.operand_size-size.result ≡ operand_size f.settings a.round
unfolding operand_size value_size check_count settings
size_as c f h = c.operand_size-size.ensures.0 ∙ ap (λ (s : Settings). operand_size s c.args.round) (sym h.settings)

pub returns-then-is_good : goal.returns-then-is_good
unfolding AfterHearing frame_bytes frame_size
returns-then-is_good c f frames h e =
    let a = c.args in
    let size = size_as (goal.at.returns-then-is_good c).After-operand_size-size f h in
    rw (heard_good f frames _ _ _ c.if-slot-to.false (sym (c.is_good.ensures a.file.now f h) ∙ c.if-is_good.true))
    (c.take.ensures ∙ ap (after_take (view a.column.now) a.slot) (ap (λ (k : ℕ). take (header_size + k) a.frame.now.bytes) size ∙ sym e))

pub returns-in_default : goal.returns-in_default
unfolding AfterHearing
returns-in_default c f frames h e =
    let missing = bytes_at_none _ _ _ (rw c.in_default.is at (c.message.ensures c.args.file.now f h)) in
    rw (heard_missing f frames _ _ _ c.if-slot-to.false (sym (c.is_good.ensures _ f h) ∙ c.if-is_good.false) missing) refl

-- a message's bytes are in the file
inside : (c : In-Some) → c.in-Some.at + c.operand_size-size.result ≤ length c.args.file.now
unfolding PlacesOf
inside c =
    let g = c.requires.0 in
    let file = c.args.file.now in
    omega (arith, size_as (goal.at.In-Some c).After-operand_size-size g.0 g.1, (bytes_at_some file _ _ _ (c.in-Some.ensures file g.0 g.1)).0)

pub overflow_add-at : goal.overflow_add-at
overflow_add-at c = omega (arith, inside (goal.at.overflow_add-at c).In-Some)

pub slice_bounds-framed-end : goal.slice_bounds-framed-end
slice_bounds-framed-end c = omega (arith, inside (goal.at.slice_bounds-framed-end c).In-Some)

pub returns : goal.returns
unfolding AfterHearing
returns c f frames h e =
    let a = c.args in
    let file = a.file.now in
    let k = c.operand_size-size.result in
    let at = c.in-Some.at in
    let stands = bytes_at_some file _ _ _ (c.in-Some.ensures file f h) in
    let less : at + k - at ≡ k = omega arith in
    let operand = take (at + k - at) (drop at file) in
    let same : take (operand_size f.settings a.round) (drop at file) ≡ operand = ap (λ (i : ℕ). take i (drop at file)) (sym (less ∙ size_as (goal.at.returns c).After-operand_size-size f h)) in
    let long : length operand ≡ k = ap (λ (i : ℕ). length (take i (drop at file))) less ∙ length-take-le k (drop at file) (omega (arith, length-drop at file, inside (goal.at.returns c).In-Some)) in
    let frame = ap (λ (i : ℕ). take (header_size + i) c.framed-message.result.bytes) (sym long) ∙ c.framed-message.ensures in
    rw (heard_message f frames _ _ _ operand c.if-slot-to.false (sym (c.is_good.ensures file f h) ∙ c.if-is_good.false) (stands.1 ∙ ap some same))
    (c.take-2.ensures ∙ ap (after_take (view a.column.now) a.slot) frame)
