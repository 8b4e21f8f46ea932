-- `take` meets its contract. Assumes nothing.
use Rattle.column.proofs.Taken.{take_reads}
use Rattle.bench.proofs.group.take.Goals as goal

pub returns : goal.returns
returns c = take_reads _ _ _ _ _ c.take.ensures
