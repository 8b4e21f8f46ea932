-- `index_of_message` meets its contract: round, sender and reader, each counted from 0. Assumes nothing.
use mathlib.Core.Path.{refl}
use native.Mathlib.Omega.{arith}
use Rattle.bench_file.specs.Steps.Places.{message_index}
use Rattle.bench_file.proofs.places.index_of_message.Goals as goal

pub returns : goal.returns
unfolding message_index
returns c = (refl, omega arith)
