-- `is_good` meets its contract: a column is good where it has an own value. Assumes nothing.
use mathlib.Core.Path.{◌∙◌}
use Rattle.bench_file.specs.Scenario.{is_good}
use Rattle.bench_file.proofs.Located.{bytes_at_taken}
use Rattle.bench_file.proofs.places.Places.is_good.Goals as goal

pub returns : goal.returns
unfolding is_good
returns c file f h = c.is_some.ensures ∙ bytes_at_taken file _ _ _ (c.own.ensures file f h)
