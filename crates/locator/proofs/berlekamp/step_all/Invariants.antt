use Rattle.locator.specs.Reached.{AllCome}
use Rattle.locator.proofs.Locator.AllReached.{taking}
use Rattle.locator.proofs.berlekamp.step_all.Given as goal

abbrev pub invariant-loop-p : goal.invariant-loop-p
invariant-loop-p l = AllCome (taking l.k l.p) l.sums l.planes
