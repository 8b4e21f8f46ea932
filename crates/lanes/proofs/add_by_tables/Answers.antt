-- `add_by_tables` meets its contract: a row is done by a low and a high multiple, and the rows done before it are kept. Assumes nothing.
use Rattle.lanes.proofs.Multiples.{products_more}
use Rattle.lanes.proofs.add_by_tables.Goals as goal

pub loop-j-preserved : goal.loop-j-preserved
loop-j-preserved c =
    products_more _ _ _ _ _ _ _ _ _ (λ p. (c.type_inv.value p).fits) (c.type_inv.constants c.loop-j.j).fits c.of-multiples.ensures.low c.of-multiples.ensures.high c.loop-j.invariant
    (rw c.from-c.ensures at c.add_multiple.ensures) (rw c.from-c.ensures at c.add_multiple-in-loop-j.ensures)
