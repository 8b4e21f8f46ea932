-- `add_by_bits` meets its contract: a row is done by the doublings of the value, and the rows done before it are kept. Assumes nothing.
use mathlib.Core.Path.{refl}
use Rattle.lanes.proofs.Multiples.{products_next}
use Rattle.lanes.proofs.add_by_bits.Goals as goal

pub loop-j-preserved : goal.loop-j-preserved
loop-j-preserved c = products_next _ _ _ _ _ _ _ c.loop-j.invariant (c.add_product.ensures _ c.doublings-doublings.ensures) (λ p h. refl)
