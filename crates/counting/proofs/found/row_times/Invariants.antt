use Rattle.counting.proofs.Alike.{CountedBelow}
use Rattle.counting.proofs.found.row_times.Given as goal

abbrev pub invariant-loop-i : goal.invariant-loop-i
invariant-loop-i l = CountedBelow l.rows.n l.rows.w l.rows.table.now l.c l.i l.times
