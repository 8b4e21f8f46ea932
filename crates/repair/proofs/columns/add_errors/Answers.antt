-- `add_errors` meets its contract: a value without errors is copied. Assumes nothing.
use mathlib.Core.Path.{sym, ◌∙◌}
use Rattle.arrays.proofs.Zeros.{first_zero_at}
use Rattle.lanes.specs.Lanes.{row_width}
use Rattle.repair.proofs.ColumnErrors.{value_kept}
use Rattle.repair.proofs.columns.add_errors.Goals as goal

pub returns-then-is_zero : goal.returns-then-is_zero
returns-then-is_zero c =
    value_kept c.args.constant c.args.value.now c.args.errors.now c.args.output.now _ c.ranges.constant.fits c.requires.0 c.requires.1
    (λ i. (c.type_inv.value i).fits)
    (first_zero_at row_width c.args.errors.now (sym c.is_zero.ensures ∙ c.if-is_zero.true)) c.copy.ensures
