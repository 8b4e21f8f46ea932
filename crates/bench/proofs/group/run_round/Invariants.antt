use mathlib.Core.Path.{◌≡◌}
use Prim.Native.Nat.{ℕ, ◌≤◌, ◌<◌}
use lib.ListN.{length}
use Rattle.code.specs.Size.{most_columns}
use Rattle.column.specs.Call.{Run}
use Rattle.bench_file.specs.Scenario.{Scenario}
use Rattle.bench.specs.Group.{round_calls}
use Rattle.bench_file.specs.Steps.Places.{Located}
use Rattle.bench.specs.Steps.Finished.{record_of}
use Rattle.bench.specs.Steps.Running.{frame_bytes, frame_at}
use Rattle.bench.proofs.group.run_round.Given as goal

abbrev pub invariant-loop-number : goal.invariant-loop-number
invariant-loop-number l = record {
  room : length l.columns ≡ most_columns;
  before : (k : ℕ) → l.number ≤ k → record_of l.columns k ≡ record_of l.fn.columns k;
  done : (f : Scenario) (k : ℕ) →
      Located l.file l.places f → 1 ≤ k → k < l.number →
      Run (record_of l.fn.columns k) (round_calls f (λ j. frame_bytes f.settings l.round (frame_at l.frames j)) l.round k) (record_of l.columns k);
}
