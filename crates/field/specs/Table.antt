-- What the two constant tables promise. Assumes nothing: these are definitions.
use Rattle.std.specs.Prelude.{◌≡◌, Bool, true, ◌&&◌, List, [], ◌∷◌, ℕ, ◌≤◌, ◌<◌, eqb, length, get_or}
use Rattle.field.specs.Field.{doubled, power}

-- each entry is twice the one before
unfoldable pub each_doubled : List ℕ → Bool
each_doubled [] = true
each_doubled (x ∷ []) = true
each_doubled (x ∷ y ∷ ys) = eqb y (doubled x) && each_doubled (y ∷ ys)

-- the powers of 2, all 255 of them: 1 first, and the rule over the whole table
pub record Powers (table : List ℕ) : Type 0 where
  pub many : length table ≡ 255
  pub first : get_or table 0 0 ≡ 1
  pub rule : each_doubled table ≡ true

-- at each byte but 0 the exponent below 255 of the power of 2 that it is; what stands at 0 is not used
pub record Logarithms (table : List ℕ) : Type 0 where
  pub many : length table ≡ 256
  pub small : (a : ℕ) → 1 ≤ a → a < 256 → get_or table a 0 < 255
  pub exponent : (a : ℕ) → 1 ≤ a → a < 256 → power 2 (get_or table a 0) ≡ a
