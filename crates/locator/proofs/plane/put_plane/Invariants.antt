use lib.ListN.{get_or}
use Rattle.locator.specs.Plane.{LaneWritten}
use Rattle.locator.proofs.plane.put_plane.Given as goal

abbrev pub invariant-loop-j : goal.invariant-loop-j
invariant-loop-j l = LaneWritten l.p l.j (λ k. get_or l.bytes k 0) l.initial.rows l.rows
