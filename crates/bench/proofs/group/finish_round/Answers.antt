-- `finish_round` meets its contract: slot by slot, the calls that are left make the whole round's. Assumes nothing.
use mathlib.Core.Path.{◌≡◌, refl, sym, ap, subst}
use Prim.Native.Nat.{ℕ, ◌+◌, ◌-◌}
use native.Mathlib.Omega.{arith}
use Rattle.code.specs.Settings.{Settings as Group}
use Rattle.column.specs.Call.{Run}
use Rattle.record.specs.View.{view}
use Rattle.bench.specs.Group.{heard_in, calls_from, round_calls}
use Rattle.bench.specs.Steps.Running.{frame_bytes, frame_at}
use Rattle.bench_file.proofs.OneCommand.Faults.{small_settings}
use Rattle.bench.proofs.Running.Hearing.{hear_more, calls_next, close_last}
use Rattle.bench.proofs.group.finish_round.Goals as goal

pub loop-slot-init : goal.loop-slot-init
loop-slot-init c f h z run = run

pub hear-requires : goal.hear-requires
hear-requires c = let p = c.requires in (p.0, omega (arith, p, (small_settings c.args.places.now.settings).0))

pub loop-slot-preserved : goal.loop-slot-preserved
unfolding frame_at
loop-slot-preserved c f h z run =
    let l = c.loop-slot in
    let a = c.args in
    let frames = λ (k : ℕ). frame_bytes f.settings a.round (frame_at a.frames.now k) in
    l.invariant f h z
    (rw (calls_next (heard_in f frames a.round a.to) a.places.now.settings.n l.slot (omega arith))
    (hear_more _ _ _ _ z _ (c.hear.ensures f frames h refl) run))

pub returns : goal.returns
unfolding round_calls
returns c f h =
    let l = c.loop-slot in
    let a = c.args in
    let n = a.places.now.settings.n in
    let none : n + 1 - l.slot ≡ 0 = omega arith in
    let all : f.settings.n ≡ n + 1 - 1 = omega (arith, ap (λ (s : Group). s.n) h.settings) in
    let heard = heard_in f (λ k. frame_bytes f.settings a.round (frame_at a.frames.now k)) a.round a.to in
    let last = view c.close.new.column in
    subst (λ (many : ℕ). Run (view a.column.now) (calls_from heard many 1) last) (sym all)
    (l.invariant f h last (close_last heard _ _ _ _ none c.close.ensures.reads))

pub overflow_add-slot-end : goal.overflow_add-slot-end
overflow_add-slot-end c = omega (arith, (small_settings c.args.places.now.settings).0)

pub bounds-frames-slot : goal.bounds-frames-slot
bounds-frames-slot c = omega (arith, (small_settings c.args.places.now.settings).0)
