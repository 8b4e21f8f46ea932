-- `first_rows` meets its contract: zeros, and the bytes of the value after them. Assumes nothing.
use mathlib.Core.Path.{refl}
use Rattle.lanes.proofs.Multiples.{multiples_first}
use Rattle.arrays.proofs.Written.{from_start}
use Rattle.lanes.proofs.first_rows.Goals as goal

pub returns : goal.returns
returns c =
    multiples_first _ _ _ refl refl (λ p h. (c.type_inv.value p).fits)
    (from_start c.args.value.now c.copy.ensures)
