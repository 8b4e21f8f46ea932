use Rattle.locator.specs.Reached.{AllLocated}
use Rattle.locator.proofs.berlekamp.locate_all.Given as goal

abbrev pub invariant-loop-k : goal.invariant-loop-k
invariant-loop-k l = AllLocated l.planes l.k l.sums l.all
