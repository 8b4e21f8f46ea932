-- `store` meets its contract: each turn stores one more check value. Assumes nothing.
use Prim.Native.Nat.{◌+◌, ◌*◌, ◌-◌, ◌≤◌}
use native.Mathlib.Omega.{arith}
use lib.ListN.{length}
use Rattle.arrays.proofs.Part.{part_long}
use Rattle.code.proofs.Vectors.Cut.{value_fits}
use Rattle.code.proofs.Vectors.Storing.{part_written, stored_more}
use Rattle.code.proofs.storing.store.Goals as goal
use Rattle.code.proofs.storing.store.Goals.{At-loop-c}

pub loop-c-preserved : goal.loop-c-preserved
loop-c-preserved c =
    let l = (goal.at.loop-c-preserved c).At-loop-c in
    let a = l.args in
    let at = l.loop-c.c * a.size in
    let fits : at + a.size ≤ length l.loop-c.output = omega (arith, value_fits l.loop-c.c a.count a.size (omega arith)) in
    stored_more _ _ _ _ _ _ _ _ l.loop-c.invariant
    (part_written at a.size (at + a.size - at) _ _ l.loop-c.output _ fits (omega arith) (part_long at a.size l.loop-c.output fits) c.put_value.ensures)
