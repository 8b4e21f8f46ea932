use Rattle.counting.specs.Steps.Table.{written_plane, RowPut}
use Rattle.counting.proofs.filling.put_row.Given as goal

abbrev pub invariant-loop-p : goal.invariant-loop-p
invariant-loop-p l = RowPut l.p l.i (written_plane l.n l.w l.row l.initial.table l.i) l.initial.table l.table
