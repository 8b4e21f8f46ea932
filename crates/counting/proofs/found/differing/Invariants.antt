use Rattle.counting.specs.Steps.Tally.{MarksSame}
use Rattle.counting.proofs.found.differing.Given as goal

abbrev pub invariant-loop-p : goal.invariant-loop-p
invariant-loop-p l = MarksSame l.p l.rows.table.now l.i l.c l.marks
