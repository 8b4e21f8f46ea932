use Rattle.sums.specs.Rows.{ValuesAdded}
use Rattle.sums.proofs.rows.difference.Given as goal

abbrev pub invariant-loop-c : goal.invariant-loop-c
invariant-loop-c l = ValuesAdded l.c l.size l.own l.checks l.rows
