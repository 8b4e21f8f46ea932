use mathlib.Core.List.{List}
use Prim.Native.Nat.{ℕ, ◌<◌}
use lib.ListN.{get_or}
use Rattle.lanes.specs.Lanes.{RowTables}
use Rattle.code.specs.Steps.Windows.{Shaped, Fed}
use Rattle.code.proofs.division.feed_value.Given as goal

abbrev pub invariant-loop-p : goal.invariant-loop-p
invariant-loop-p g l =
    Shaped l.windows × ((hs : List ℕ) → ((i : ℕ) → get_or hs i 0 < 256) → RowTables 0 g.row.ROWS hs l.tables →
    Fed l.p g.row.ROWS l.s hs l.value l.initial.windows l.windows)
