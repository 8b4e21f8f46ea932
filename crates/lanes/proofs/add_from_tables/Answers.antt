-- `add_from_tables` meets its contract: a row of each table, by the halves of the constant. Assumes nothing.
use native.Mathlib.Omega.{arith}
use Rattle.lanes.proofs.Tables.{halves_added}
use Rattle.lanes.proofs.add_from_tables.Goals as goal

pub returns : goal.returns
returns c = λ f byte tables. rw c.from-c.ensures at (halves_added _ _ _ f _ _ _ (omega arith) byte tables c.add_both.ensures)
