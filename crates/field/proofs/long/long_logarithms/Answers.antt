-- `long_logarithms` meets its contract: after the bytes below a have theirs the others still have the exponent of 0, and at the end
-- only 0 has it. Assumes nothing.
use native.Mathlib.Omega.{arith}
use Rattle.field.proofs.Exponents.{lengthened_all}
use Rattle.field.proofs.long.long_logarithms.Goals as goal

pub returns : goal.returns
returns c = lengthened_all _ _ _ (omega arith) c.requires c.loop-a.invariant
