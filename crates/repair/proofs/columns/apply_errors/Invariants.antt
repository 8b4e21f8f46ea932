use Rattle.repair.proofs.ColumnErrors.{MendedTo}
use Rattle.repair.proofs.columns.apply_errors.Given as goal

abbrev pub invariant-loop-k : goal.invariant-loop-k
invariant-loop-k l = MendedTo l.k l.size l.vector l.weighted l.initial.output l.output
