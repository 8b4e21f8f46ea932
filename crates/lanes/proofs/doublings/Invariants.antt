use lib.ListN.{get_or}
use Rattle.lanes.specs.Lanes.{Doublings}
use Rattle.lanes.proofs.doublings.Given as goal

abbrev pub invariant-loop-k : goal.invariant-loop-k
invariant-loop-k l = Doublings l.k (λ p. get_or l.value p 0) l.rows
