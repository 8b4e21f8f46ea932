-- `add_row` meets its contract: the products are added, and a row of zeros has none. Assumes nothing.
use mathlib.Core.Path.{sym, ◌∙◌}
use Rattle.arrays.proofs.Zeros.{first_zero_at}
use Rattle.lanes.specs.Lanes.{row_width}
use Rattle.sums.proofs.Sums.Terms.{products_of_zeros}
use Rattle.sums.proofs.rows.add_row.Goals as goal

pub returns-then-is_zero : goal.returns-then-is_zero
returns-then-is_zero c =
    products_of_zeros _ _ _ (λ i. (c.slice_known-1.given i).fits)
    (first_zero_at row_width c.args.row.now (sym c.is_zero.ensures ∙ c.if-is_zero.true))
