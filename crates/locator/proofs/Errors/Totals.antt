-- Weighted errors behind others: the counts of both add up. Assumes nothing.
use mathlib.Core.Path.{◌≡◌}
use mathlib.Core.List.{List, [], ◌∷◌, ◌++◌}
use Prim.Native.Nat.{ℕ, ◌+◌}
use native.Mathlib.Omega.{arith}
use Rattle.locator.specs.Errors.{wrong_places}

pub wrong_places_append : (xs ys : List ℕ) → wrong_places (xs ++ ys) ≡ wrong_places xs + wrong_places ys
unfolding wrong_places
wrong_places_append [] ys = omega arith
wrong_places_append (x ∷ xs) ys = omega (arith, wrong_places_append xs ys)
