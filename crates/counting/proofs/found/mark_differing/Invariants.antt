use lib.ListN.{get_or}
use Rattle.arrays.specs.Array.{Written}
use Rattle.counting.proofs.Alike.{mark_on}
use Rattle.counting.proofs.found.mark_differing.Given as goal

abbrev pub invariant-loop-k : goal.invariant-loop-k
invariant-loop-k l = Written 0 l.k (λ j. mark_on (get_or l.initial.marks j 0) (get_or l.a j 0) (get_or l.b j 0)) l.initial.marks l.marks
