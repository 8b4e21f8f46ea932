-- `start` meets its contract: both arrays are known whole. Assumes nothing.
use mathlib.Core.Path.{refl}
use mathlib.Core.List.{[], ◌∷◌}
use Rattle.code.specs.Polynomial.{scaled}
use Rattle.locator.specs.Locator.{start}
use Rattle.locator.proofs.Locator.Reached.{blank_below}
use Rattle.locator.proofs.locators.Locator.start.Goals as goal

pub returns : goal.returns
unfolding start scaled
returns c =
    record { long = refl; long_before = refl; size = refl; blank = λ i h. blank_below i (1 ∷ []) h; coefficients = refl; scaled_before = refl }
