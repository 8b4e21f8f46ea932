use mathlib.Core.Path.{◌≡◌}
use mathlib.Core.List.{List}
use Prim.Native.Nat.{ℕ, ◌+◌, ◌-◌, ◌≤◌}
use lib.ListN.{length, drop}
use Rattle.bench_file.specs.Scenario.{Scenario, only_settings}
use Rattle.bench_file.specs.File.{Parse, group_in, commands_from}
use Rattle.bench_file.specs.Steps.Places.{Located}
use Rattle.bench_file.specs.declared.places.Places.{Places}
use Rattle.bench_file.proofs.reading.parse_commands.Given as goal

-- what the file comes to
unfoldable pub whole : List ℕ → Parse
whole file = commands_from (length file) (only_settings (group_in file)) (drop 4 file)

-- what was said so far, and how many commands may still come
pub record SoFar (file : List ℕ) (places : Places) (at : ℕ) : Type 0 where
  pub scenario : Scenario
  pub many : ℕ
  pub located : Located file places scenario
  pub inside : at ≤ length file
  pub enough : length file ≤ many + at
  pub rest : commands_from many scenario (drop at file) ≡ whole file

abbrev pub invariant-loop-next : goal.invariant-loop-next
invariant-loop-next l = SoFar l.file l.places l.at

abbrev pub decreases-loop-next : goal.decreases-loop-next
decreases-loop-next l = length l.file - l.at
