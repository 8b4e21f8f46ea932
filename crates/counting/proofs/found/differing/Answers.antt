-- `differing` meets its contract: each turn takes one plane more. Assumes nothing.
use Rattle.arrays.proofs.Zeros.{zeros_at}
use Rattle.code.specs.Size.{most_columns}
use Rattle.counting.proofs.Planes.{zero_row}
use Rattle.counting.proofs.Alike.{marks_none, marks_more}
use Rattle.counting.proofs.found.differing.Goals as goal

pub loop-p-init : goal.loop-p-init
loop-p-init c = marks_none _ _ _ zero_row (zeros_at most_columns)

pub loop-p-preserved : goal.loop-p-preserved
loop-p-preserved c = marks_more _ _ _ c.loop-p.p _ _ c.loop-p.invariant c.mark_differing.ensures
