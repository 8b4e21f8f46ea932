use Prim.Native.Nat.{◌+◌}
use lib.ListN.{get_or}
use Rattle.arrays.specs.Array.{Written}
use Rattle.field.specs.Field.{plus}
use Rattle.sums.proofs.rows.sum_bytes.Given as goal

abbrev pub invariant-loop-p : goal.invariant-loop-p
invariant-loop-p l =
    Written l.to l.p (λ q. plus (get_or l.a (l.from + q) 0) (get_or l.b (l.from + q) 0)) l.initial.rows l.rows
