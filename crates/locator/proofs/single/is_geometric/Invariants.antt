use mathlib.Core.Path.{◌≡◌}
use Prim.Native.Nat.{ℕ, ◌-◌, ◌≤◌, ◌<◌}
use lib.ListN.{get_or}
use Rattle.field.specs.Field.{times}
use Rattle.lanes.specs.Lanes.{in_row, row_width}
use Rattle.locator.proofs.single.is_geometric.Given as goal

abbrev pub invariant-loop-i : goal.invariant-loop-i
invariant-loop-i l =
    (1 ≤ l.i) × ((k : ℕ) → k < l.i → 1 ≤ k → get_or l.sums (in_row k l.p) 0 ≡ times l.x (get_or l.sums (in_row k l.p - row_width) 0))
