use mathlib.Core.List.{List}
use Prim.Native.Nat.{ℕ, ◌+◌, ◌<◌}
use lib.ListN.{get_or}
use Rattle.field.specs.Field.{plus}
use Rattle.lanes.specs.Lanes.{RowTables}
use Rattle.code.specs.Steps.Windows.{RowsAdded}
use Rattle.code.proofs.division.feed.Given as goal

abbrev pub invariant-loop-k : goal.invariant-loop-k
invariant-loop-k g l =
    ((i : ℕ) → get_or l.window i 0 < 256)
    × ((hs : List ℕ) → ((i : ℕ) → get_or hs i 0 < 256) → RowTables 0 g.row.ROWS hs l.tables →
    RowsAdded (l.at + 1) l.k (plus l.byte (get_or l.initial.window l.at 0)) hs l.initial.window l.window)
