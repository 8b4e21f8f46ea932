use Rattle.counting.specs.Steps.Table.{row_plane, RowPut}
use Rattle.counting.proofs.filling.copy_row.Given as goal

abbrev pub invariant-loop-p : goal.invariant-loop-p
invariant-loop-p l = RowPut l.p l.i (row_plane l.initial.table l.j) l.initial.table l.table
