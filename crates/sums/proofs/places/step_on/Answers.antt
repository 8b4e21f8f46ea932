-- `step_on` meets its contract: where a step would pass 255 it goes back by what the step lacks of 255, and the power of 2 is the same.
-- Assumes nothing.
use mathlib.Core.Path.{sym}
use Prim.Native.Nat.{◌+◌, ◌-◌}
use native.Mathlib.Omega.{arith}
use Rattle.sums.proofs.AtPlace.Powers.{power_around}
use Rattle.sums.proofs.places.step_on.Goals as goal

pub returns : goal.returns
returns c =
    let a = c.args in
    (omega arith, sym (power_around (a.exponent - (255 - a.step)) 1 (a.exponent + a.step) (omega arith)))
