use mathlib.Core.Path.{◌≡◌}
use lib.ListN.{take}
use Rattle.field.specs.Field.{power}
use Rattle.code.specs.Polynomial.{added, scaled}
use Rattle.locator.proofs.berlekamp.add_scaled.Given as goal

abbrev pub invariant-loop-i : goal.invariant-loop-i
invariant-loop-i l = l.polynomial ≡ added l.initial.polynomial (scaled (power 2 l.exponent) (take l.i l.other))
