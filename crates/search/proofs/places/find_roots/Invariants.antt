use Rattle.search.specs.Steps.{RootsFound}
use Rattle.search.proofs.places.find_roots.Given as goal

abbrev pub invariant-loop-p : goal.invariant-loop-p
invariant-loop-p l = RootsFound l.p l.at l.values l.initial.left l.left l.initial.marks l.marks
