-- `mark_differing` meets its contract: each turn takes one column more. Assumes nothing.
use mathlib.Core.Path.{◌≡◌}
use native.Mathlib.Omega.{arith}
use Rattle.arrays.proofs.Written.{written_to}
use Rattle.code.specs.Size.{most_columns}
use Rattle.counting.proofs.Alike.{marked_all}
use Rattle.counting.proofs.found.mark_differing.Goals as goal

pub returns : goal.returns
returns c = marked_all _ _ _ _ (omega arith) (written_to (let e : c.loop-k.k ≡ most_columns = omega arith in e) c.loop-k.invariant)
