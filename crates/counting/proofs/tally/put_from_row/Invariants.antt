use Prim.Native.Nat.{◌*◌}
use lib.ListN.{get_or}
use Rattle.arrays.specs.Array.{Written}
use Rattle.counting.specs.Steps.Table.{value_in}
use Rattle.counting.proofs.tally.put_from_row.Given as goal

abbrev pub invariant-loop-p : goal.invariant-loop-p
invariant-loop-p l =
    let w = l.rows.w in Written (l.k * w) l.p (λ q. get_or (value_in w l.rows.table.now l.row l.k) q 0) l.initial.vector l.vector
