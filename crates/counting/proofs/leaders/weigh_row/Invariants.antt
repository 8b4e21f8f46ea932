use Rattle.counting.proofs.Columns.{WeighedBelow}
use Rattle.counting.proofs.leaders.weigh_row.Given as goal

abbrev pub invariant-loop-k : goal.invariant-loop-k
invariant-loop-k l = WeighedBelow l.rows.n l.rows.w l.least l.c l.rows.table.now l.k l.standings
