-- `row_times` meets its contract: each turn takes one row more. Assumes nothing.
use mathlib.Core.Path.{refl}
use native.Mathlib.Omega.{arith}
use Rattle.arrays.proofs.Zeros.{zeros_at}
use Rattle.code.specs.Size.{most_columns}
use Rattle.counting.proofs.Planes.{zero_row}
use Rattle.counting.proofs.Alike.{counted_none, counted_more, counted_last}
use Rattle.counting.proofs.found.row_times.Goals as goal

pub loop-i-init : goal.loop-i-init
loop-i-init c = counted_none _ _ _ _ zero_row refl (zeros_at most_columns)

pub loop-i-preserved : goal.loop-i-preserved
loop-i-preserved c =
    counted_more _ _ _ _ c.loop-i.i _ _ _ (omega arith) (omega arith) c.loop-i.invariant c.differing-marks.ensures c.count_same.ensures

pub returns : goal.returns
returns c = counted_last _ _ _ _ _ _ (omega arith) c.loop-i.invariant
