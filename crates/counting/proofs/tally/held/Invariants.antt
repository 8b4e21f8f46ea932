use mathlib.Core.Path.{◌≡◌}
use Rattle.arrays.specs.Array.{padded}
use Rattle.code.specs.Settings.{settings}
use Rattle.code.specs.Size.{most_columns}
use Rattle.grading.specs.Value.{entries}
use Rattle.grading.specs.Count.{held_at}
use Rattle.counting.specs.Steps.Table.{rows_in}
use Rattle.counting.proofs.tally.held.Given as goal

abbrev pub invariant-loop-k : goal.invariant-loop-k
invariant-loop-k l =
    let rows = rows_in l.rows.n l.rows.w l.rows.table.now in
    l.confidences ≡ padded most_columns (entries l.k 0 (λ j. (held_at (settings l.rows.n l.t l.rows.w) rows j).confidence))
