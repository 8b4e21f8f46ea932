-- `opened` meets its contract: column by column. Assumes nothing.
use mathlib.Core.Path.{◌≡◌, refl, ap}
use mathlib.Core.Option.{some}
use Prim.Native.Nat.{ℕ}
use native.Mathlib.Omega.{arith}
use lib.ListN.{length-set}
use Rattle.code.specs.Settings.{Settings as Group}
use Rattle.record.specs.Record.{opened}
use Rattle.record.specs.View.{view}
use Rattle.record.specs.declared.Column.{Column}
use Rattle.record.proofs.Refusal.{opens_of}
use Rattle.bench_file.specs.Scenario.{own_of}
use Rattle.bench.specs.Group.{bench_run}
use Rattle.bench.specs.Steps.Finished.{column_past, record_of}
use Rattle.bench_file.proofs.OneCommand.Faults.{small_settings}
use Rattle.bench.proofs.Running.Hearing.{set_cases}
use Rattle.bench.proofs.group.opened.Goals as goal

pub loop-number-init : goal.loop-number-init
loop-number-init c = (
  refl,
  λ f k v h less e. let inside = opens_of f.settings k v (h.opens k v e) in absurd (omega (arith, inside.low)),
)

pub opened_at-requires : goal.opened_at-requires
opened_at-requires c = (c.requires, omega arith, omega (arith, (small_settings c.args.places.now.settings).0))

pub loop-number-preserved : goal.loop-number-preserved
unfolding record_of
loop-number-preserved c =
    let l = c.loop-number in
    let s = small_settings c.args.places.now.settings in (
      simp length-set l.invariant.0,
      λ f k v h less e.
          let inside = opens_of f.settings k v (h.opens k v e) in
          set_cases l.columns column_past c.opened_at.result l.number k
          (λ (i : ℕ) (x : Column). own_of f.owns i ≡ some v → view x ≡ opened f.settings i bench_run v) (omega arith) (omega (arith, s.0)) inside.low less
          (c.opened_at.ensures f v h) (λ before. l.invariant.1 f k v h before) e,
    )

pub returns : goal.returns
returns c f k v h e =
    let l = c.loop-number in
    let inside = opens_of f.settings k v (h.opens k v e) in
    l.invariant.1 f k v h (omega (arith, inside.high, ap (λ (s : Group). s.n) h.settings)) e

pub overflow_add-number-end : goal.overflow_add-number-end
overflow_add-number-end c = omega (arith, (small_settings c.args.places.now.settings).0)

pub bounds-columns-number : goal.bounds-columns-number
bounds-columns-number c = omega (arith, (small_settings c.args.places.now.settings).0)
