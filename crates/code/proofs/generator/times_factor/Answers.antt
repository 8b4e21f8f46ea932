-- `times_factor` meets its contract: the coefficients above the loop's place are the product's, and those up to it are still the
-- polynomial's, which are all that the rest of the product needs. Assumes nothing.
use native.Mathlib.Omega.{arith}
use Rattle.code.proofs.Encoding.Factors.{factored_none, factored_whole}
use Rattle.code.proofs.generator.times_factor.Goals as goal

pub loop-i-init : goal.loop-i-init
loop-i-init c = factored_none _ _ _ c.ranges.c.fits c.requires.1 c.requires.2

pub returns : goal.returns
returns c = factored_whole _ _ _ _ _ c.loop-i.invariant (omega arith) c.product-2.ensures
