use Rattle.errors.proofs.Longest.{LongestTo}
use Rattle.errors.proofs.roots.longest.Given as goal

abbrev pub invariant-loop-size : goal.invariant-loop-size
invariant-loop-size l = LongestTo l.size-index l.fn.roots l.most
