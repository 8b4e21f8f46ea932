use Rattle.rounds.proofs.TableRows.{Put}
use Rattle.rounds.proofs.senders.put_table.Given as goal

abbrev pub invariant-loop-i : goal.invariant-loop-i
invariant-loop-i l = Put l.own l.number l.slots l.initial.told l.i l.table l.told l.last l.row
