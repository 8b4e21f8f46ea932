-- `add_where` meets its contract: a bit that is not set adds 0. Assumes nothing.
use mathlib.Core.Path.{◌≡◌}
use native.Mathlib.Omega.{arith}
use Rattle.lanes.proofs.Bits.{added_not}
use Rattle.lanes.proofs.add_where.Goals as goal

pub returns-else-bit-ne0 : goal.returns-else-bit-ne0
returns-else-bit-ne0 c = added_not _ _ _ _ (let e : c.args.bit ≡ 0 = omega arith in e) (λ i. (c.type_inv.rows i).fits)
