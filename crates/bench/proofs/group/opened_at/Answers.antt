-- `opened_at` meets its contract: an own value stands at its place, and is one to open with. Assumes nothing.
use mathlib.Core.Path.{◌≡◌, refl, sym, ◌∙◌, ap, ap₂}
use mathlib.Core.List.{List}
use mathlib.Core.Option.{Option, some}
use Prim.Native.Nat.{ℕ, ◌+◌, ◌-◌, ◌≤◌}
use native.Mathlib.Omega.{arith}
use lib.ListN.{length, take, drop}
use Rattle.code.specs.Settings.{Settings, settings}
use Rattle.record.specs.Record.{opened}
use Rattle.record.specs.Refusal.{open_refusal}
use Rattle.record.specs.View.{view}
use Rattle.record.proofs.Refusal.{opens_of}
use Rattle.record.proofs.View.{view_opened}
use Rattle.bench.specs.Group.{bench_run}
use Rattle.bench_file.specs.Steps.Places.{BytesAt, PlacesOf}
use Rattle.std.specs.Prelude.{Some}
use Rattle.grading.specs.Value.{Value}
use Rattle.refusal.proofs.Positive.{number-positive}
use Rattle.bench_file.proofs.Located.{bytes_at_none, bytes_at_some, none_some}
use Rattle.bench.proofs.group.opened_at.Goals as goal
use Rattle.bench.proofs.group.opened_at.Goals.{In-Some}

pub returns-in_default : goal.returns-in_default
returns-in_default c f v h e =
    none_some (sym (bytes_at_none _ _ _ (rw c.in_default.is at (c.own.ensures c.args.file.now f h))) ∙ e)

-- an own value's bytes are in the file
inside : (c : In-Some) → c.in-Some.at + c.args.places.now.settings.w ≤ length c.args.file.now
unfolding PlacesOf
inside c = let g = c.requires.0 in (bytes_at_some _ _ _ _ (c.in-Some.ensures c.args.file.now g.0 g.1)).0

pub overflow_add-own : goal.overflow_add-own
overflow_add-own c = omega (arith, inside (goal.at.overflow_add-own c).In-Some, c.size.ensures.value)

pub slice_bounds-own-end : goal.slice_bounds-own-end
slice_bounds-own-end c = omega (arith, inside (goal.at.slice_bounds-own-end c).In-Some, c.size.ensures.value)

-- the slice is the own value
value_is :
    (file : List ℕ) (s : Settings) (w at k : ℕ) (o : Option Value) (v : Value) → BytesAt file w (Some at) o → k ≡ w → o ≡ some v →
    take (at + k - at) (drop at file) ≡ v
value_is file s w at k o v stands size e =
    let less : at + k - at ≡ w = omega (arith, size) in
    let whole : ◌≡◌ {A = Option (List ℕ)} (some (take (at + k - at) (drop at file))) (some v) =
    ap (λ (i : ℕ). some (take i (drop at file))) less ∙ sym (bytes_at_some file w at o stands).1 ∙ e in
    cc

pub returns-in-Ok : goal.returns-in-Ok
unfolding bench_run settings
returns-in-Ok c f v h e =
    let a = c.args in
    let s = a.places.now.settings in
    let value = value_is a.file.now f.settings s.w c.in-Some.at c.size.result _ v (c.in-Some.ensures a.file.now f h) c.size.ensures.value e in
    let made = c.in-Ok.ensures in
    ap view (made.done refl) ∙ view_opened _ _ _ _ _ _ (opens_of _ _ _ (sym made.answered))
    ∙ ap₂ (λ (x : Settings) (u : List ℕ). opened x a.number 0 u) (sym h.settings) value

pub returns-in-Err : goal.returns-in-Err
unfolding settings
returns-in-Err c f v h e =
    let a = c.args in
    let s = a.places.now.settings in
    let value = value_is a.file.now f.settings s.w c.in-Some.at c.size.result _ v (c.in-Some.ensures a.file.now f h) c.size.ensures.value e in
    let fine = c.in-Err.ensures.answered ∙ ap₂ (λ (x : Settings) (u : List ℕ). open_refusal x a.number u) (sym h.settings) value ∙ h.opens a.number v e in
    absurd (omega (arith, fine, number-positive c.in-Err.field-0))
