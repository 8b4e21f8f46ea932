use Rattle.counting.specs.Steps.Tally.{AllWeighed}
use Rattle.counting.proofs.leaders.find.Given as goal

abbrev pub invariant-loop-c : goal.invariant-loop-c
invariant-loop-c l = AllWeighed l.rows.n l.rows.w l.least l.c l.rows.table.now l.standings
