-- `place_exponent` meets its contract: its test is the one of the definition. Assumes nothing.
use native.Mathlib.Omega.{arith}
use borrow.Author.Tests.{lt-ltb, le-ltb}
use Rattle.locator.specs.Errors.{place_exponent}
use Rattle.sums.proofs.places.place_exponent.Goals as goal

pub returns-then-j-n : goal.returns-then-j-n
unfolding place_exponent
returns-then-j-n c = (omega arith, rw (lt-ltb c.args.j c.args.n (omega arith)) (omega arith))

pub returns : goal.returns
unfolding place_exponent
returns c = (omega arith, rw (le-ltb c.args.j c.args.n (omega arith)) (omega arith))
