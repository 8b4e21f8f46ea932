use Rattle.std.proofs.Common.{◌≡◌, ◌++◌, ℕ, List, ◌+◌, ◌*◌, ◌-◌, ◌≤◌, length}
use Rattle.bench_file.specs.Scenario.{Scenario}
use Rattle.bench_file.specs.Steps.Places.{Located}
use Rattle.bench.specs.Listing.{column_lines}
use Rattle.bench.specs.Entry.{line_room}
use Rattle.bench.specs.Steps.Finished.{AllFinished, record_of}
use Rattle.bench.proofs.lines.put_columns.Given as goal

abbrev pub invariant-loop-number : goal.invariant-loop-number
invariant-loop-number l = record {
  within : length l.text + line_room ≤ length l.fn.text + line_room * l.number;
  lines : (file : List ℕ) (f : Scenario) → Located file l.places f → AllFinished f l.columns →
      l.text ++ column_lines f (λ k. (record_of l.columns k).found.held) (l.places.settings.n + 1 - l.number) l.number
      ≡ l.fn.text ++ column_lines f (λ k. (record_of l.columns k).found.held) l.places.settings.n 1;
}
