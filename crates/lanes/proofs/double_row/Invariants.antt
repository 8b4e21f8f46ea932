use Prim.Native.Nat.{◌*◌}
use lib.ListN.{get_or}
use Rattle.field.specs.Field.{doubled}
use Rattle.arrays.specs.Array.{Written}
use Rattle.lanes.specs.Lanes.{in_row, row_width}
use Rattle.lanes.proofs.double_row.Given as goal

abbrev pub invariant-loop-p : goal.invariant-loop-p
invariant-loop-p l = Written (row_width * l.to) l.p (λ q. doubled (get_or l.initial.rows (in_row l.j q) 0)) l.initial.rows l.rows
