use mathlib.Core.Path.{◌≡◌}
use Prim.Native.Nat.{ℕ, ◌≤◌, ◌<◌}
use lib.ListN.{length}
use Rattle.code.specs.Size.{most_columns}
use Rattle.bench.specs.Steps.Finished.{record_of}
use Rattle.bench.specs.Steps.Running.{Sends, frame_at}
use Rattle.bench.proofs.group.all_sent.Given as goal

abbrev pub invariant-loop-number : goal.invariant-loop-number
invariant-loop-number l =
    (length l.frames ≡ most_columns) × ((k : ℕ) → 1 ≤ k → k < l.number → Sends (record_of l.columns k) (frame_at l.frames k))
