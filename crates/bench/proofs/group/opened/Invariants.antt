use mathlib.Core.Path.{◌≡◌}
use mathlib.Core.Option.{some}
use Prim.Native.Nat.{ℕ, ◌<◌}
use lib.ListN.{length}
use Rattle.code.specs.Size.{most_columns}
use Rattle.grading.specs.Value.{Value}
use Rattle.record.specs.Record.{opened}
use Rattle.bench_file.specs.Scenario.{Scenario, own_of}
use Rattle.bench.specs.Group.{bench_run}
use Rattle.bench_file.specs.Steps.Places.{Located}
use Rattle.bench.specs.Steps.Finished.{record_of}
use Rattle.bench.proofs.group.opened.Given as goal

abbrev pub invariant-loop-number : goal.invariant-loop-number
invariant-loop-number l =
    (length l.columns ≡ most_columns)
    × ((f : Scenario) (k : ℕ) (v : Value) →
    Located l.file l.places f → k < l.number → own_of f.owns k ≡ some v → record_of l.columns k ≡ opened f.settings k bench_run v)
