use Rattle.lanes.specs.Lanes.{RowTablesPut}
use Rattle.lanes.proofs.put_row_tables.Given as goal

abbrev pub invariant-loop-m : goal.invariant-loop-m
invariant-loop-m l = RowTablesPut l.first l.m l.rows l.initial.tables l.tables
