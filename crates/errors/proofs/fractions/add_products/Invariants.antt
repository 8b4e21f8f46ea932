use Prim.Native.Nat.{◌+◌}
use lib.ListN.{get_or}
use Rattle.arrays.specs.Array.{Written}
use Rattle.field.specs.Field.{plus, times}
use Rattle.errors.proofs.fractions.add_products.Given as goal

abbrev pub invariant-loop-p : goal.invariant-loop-p
invariant-loop-p l =
    Written l.to l.p (λ q. plus (times (get_or l.a (l.i + q) 0) (get_or l.b (l.k + q) 0)) (get_or l.initial.rows (l.to + q) 0)) l.initial.rows l.rows
