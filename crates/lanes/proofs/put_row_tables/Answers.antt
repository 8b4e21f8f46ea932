-- `put_row_tables` meets its contract: each turn puts the tables of one more row. Assumes nothing.
use native.Mathlib.Omega.{arith}
use Rattle.lanes.proofs.Lane.{row_at}
use Rattle.lanes.proofs.Tables.{row_tables_more}
use Rattle.lanes.proofs.put_row_tables.Goals as goal

pub loop-m-preserved : goal.loop-m-preserved
loop-m-preserved c =
    let l = c.loop-m in
    row_tables_more _ l.m _ c.args.rows.now _ _ _ (omega arith) (row_at c.args.rows.now l.m) l.invariant (omega arith) c.put_tables.ensures
