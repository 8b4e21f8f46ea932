-- `count_changed` meets its contract: a row more is one place more where it is not all 0. Assumes nothing.
use mathlib.Core.Path.{refl, sym, ◌∙◌}
use native.Mathlib.Omega.{arith}
use Rattle.repair.specs.Steps.Changed.{wrong_rows}
use Rattle.repair.proofs.WrongRows.{wrong_row_more}
use Rattle.repair.proofs.changed.count_changed.Goals as goal
use Rattle.repair.proofs.changed.count_changed.Goals.{then-not-is_zero, else-not-is_zero}

pub loop-k-init : goal.loop-k-init
unfolding wrong_rows
loop-k-init c = (omega arith, refl)

pub loop-k-preserved : goal.loop-k-preserved
loop-k-preserved c =
    let l = c.loop-k in
    let ys = c.args.weighted.now in
    elim c.if-not-is_zero.branch [
      | then-not-is_zero w ↦ (omega arith, omega (arith, wrong_row_more l.k _ ys _ refl (sym c.is_zero.ensures ∙ w.if-not-is_zero.true)))
      | else-not-is_zero w ↦ (omega arith, omega (arith, wrong_row_more l.k _ ys _ refl (sym c.is_zero.ensures ∙ w.if-not-is_zero.false)))
    ]
