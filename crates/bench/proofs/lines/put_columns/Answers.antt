-- `put_columns` meets its contract: column by column, until none is left. Assumes nothing.
use mathlib.Core.Path.{◌≡◌, sym, ap}
use mathlib.Core.List.{◌++◌}
use Prim.Native.Nat.{◌+◌, ◌-◌}
use native.Mathlib.Omega.{arith}
use Rattle.code.specs.Settings.{Settings}
use Rattle.bench.specs.Steps.Finished.{AllFinished, record_of}
use Rattle.bench_file.proofs.OneCommand.Faults.{small_settings}
use Rattle.bench.proofs.Listing.Text.{more_put, all_put}
use Rattle.bench.proofs.Listing.Wording.{lines_all, lines_next, lines_none}
use Rattle.bench.proofs.lines.put_columns.Goals as goal

pub loop-number-init : goal.loop-number-init
loop-number-init c =
    record { within = omega arith; lines = λ file f h finished. ap (◌++◌ c.args.text.now) (sym (lines_all f _ c.args.places.now.settings.n)) }

pub put_column-requires : goal.put_column-requires
put_column-requires c = omega (arith, c.requires, c.loop-number.invariant.within, (small_settings c.args.places.now.settings).0)

pub loop-number-preserved : goal.loop-number-preserved
unfolding AllFinished record_of
loop-number-preserved c =
    let a = c.args in
    let l = c.loop-number in
    let put = c.put_column in
    let n = a.places.now.settings.n in
    record {
      within = omega (arith, put.ensures.within, l.invariant.within);
      lines =
          λ file f h finished.
          rw (put.ensures.by_index file f h (finished l.number (omega arith) (omega (arith, ap (λ (s : Settings). s.n) h.settings))))
          (more_put l.text _ _ _ _ (l.invariant.lines file f h finished) (lines_next f _ n l.number (omega arith) (omega arith)));
    }

pub returns : goal.returns
returns c file f h finished =
    let l = c.loop-number in
    let none : c.args.places.now.settings.n + 1 - l.number ≡ 0 = omega arith in
    all_put l.text _ _ (l.invariant.lines file f h finished) (lines_none f _ _ _ none)

pub overflow_add-number-end : goal.overflow_add-number-end
overflow_add-number-end c = omega (arith, (small_settings c.args.places.now.settings).0)

pub bounds-columns-number : goal.bounds-columns-number
bounds-columns-number c = omega (arith, (small_settings c.args.places.now.settings).0)
