-- `step_back` meets its contract: the powers of 2 repeat after 255. Assumes nothing.
use native.Mathlib.Omega.{arith}
use Rattle.sums.proofs.AtPlace.Powers.{power_around}
use Rattle.sums.proofs.places.step_back.Goals as goal

pub returns-then-exponent-step : goal.returns-then-exponent-step
returns-then-exponent-step c = (λ h. omega arith, power_around c.args.exponent 1 _ (omega arith))
