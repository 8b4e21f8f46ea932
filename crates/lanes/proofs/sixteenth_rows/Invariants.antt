use lib.ListN.{get_or}
use Rattle.field.specs.Field.{doubled}
use Rattle.arrays.specs.Array.{Written}
use Rattle.lanes.specs.Lanes.{in_row, row_width}
use Rattle.lanes.proofs.sixteenth_rows.Given as goal

abbrev pub invariant-loop-p : goal.invariant-loop-p
invariant-loop-p l = Written row_width l.p (λ q. doubled (get_or l.low (in_row 8 q) 0)) l.initial.rows l.rows
