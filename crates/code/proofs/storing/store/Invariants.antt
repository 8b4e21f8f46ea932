use Rattle.code.specs.Steps.Windows.{Stored}
use Rattle.code.proofs.storing.store.Given as goal

abbrev pub invariant-loop-c : goal.invariant-loop-c
invariant-loop-c l = Stored l.c l.n l.count l.size l.windows l.initial.output l.output
