-- `sixteenth_rows` meets its contract: zeros, and twice the eighth multiple after them. Assumes nothing.
use mathlib.Core.Path.{◌≡◌, refl}
use native.Mathlib.Omega.{arith}
use Rattle.arrays.proofs.Written.{written_to}
use Rattle.lanes.specs.Lanes.{row_width}
use Rattle.lanes.proofs.Multiples.{doubled_byte, multiples_first}
use Rattle.lanes.proofs.sixteenth_rows.Goals as goal

pub returns : goal.returns
returns c =
    multiples_first _ _ _ refl refl (λ p h. doubled_byte _) (written_to (let e : c.loop-p.p ≡ row_width = omega arith in e) c.loop-p.invariant)
