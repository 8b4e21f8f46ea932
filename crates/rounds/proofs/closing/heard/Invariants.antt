use Prim.Native.Nat.{◌+◌}
use Rattle.counting.proofs.Placed.{Placed}
use Rattle.rounds.specs.Exchange.{heard_at}
use Rattle.record.specs.View.{inbox}
use Rattle.rounds.proofs.closing.heard.Given as goal

abbrev pub invariant-loop-k : goal.invariant-loop-k
invariant-loop-k l = Placed l.w l.k (λ j. heard_at (inbox l.who 1 l.slots) (j + 1)) l.vector
