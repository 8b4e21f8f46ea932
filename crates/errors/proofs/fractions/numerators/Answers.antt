-- `numerators` meets its contract: row after row. Assumes nothing.
use mathlib.Core.Path.{refl}
use Rattle.errors.proofs.Quotients.{numerators_none}
use Rattle.errors.proofs.fractions.numerators.Goals as goal

pub loop-d-init : goal.loop-d-init
loop-d-init c = numerators_none _ _ _ _ refl refl
