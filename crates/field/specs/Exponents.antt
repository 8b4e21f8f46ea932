-- What the longer tables promise, in which 0 has an exponent too. Assumes nothing: these are definitions, and one lemma.
use Rattle.std.specs.Prelude.{◌≡◌, cond, List, ◌⊎◌, ℕ, ◌*◌, ◌+◌, ◌<◌, ltb, length, get_or}
use Rattle.std.proofs.Common.{inl, inr, ap, arith}
use Rattle.std.proofs.Props.{props}
use Rattle.field.specs.Field.{power}

-- the exponent of 0
abbrev pub no_exponent : ℕ
no_exponent = 510

-- an exponent of a byte
unfoldable pub ExponentOf : (a e : ℕ) → Type 0
ExponentOf a e = ((a ≡ 0) × (e ≡ no_exponent)) ⊎ ((e < 255) × (power 2 e ≡ a))

-- the two cases exclude each other, so that the fact may stand in a struct
pub ExponentOf-prop : (a e : ℕ) → IsProp (ExponentOf a e)
unfolding ExponentOf
ExponentOf-prop a e = λ x y. go x y
  where
    zero_prop : IsProp ((a ≡ 0) × (e ≡ no_exponent))
    zero_prop = hlevel props

    power_prop : IsProp ((e < 255) × (power 2 e ≡ a))
    power_prop = hlevel props

    go : (x y : ((a ≡ 0) × (e ≡ no_exponent)) ⊎ ((e < 255) × (power 2 e ≡ a))) → x ≡ y
    go (inl x) (inl y) = ap inl (zero_prop x y)
    go (inr x) (inr y) = ap inr (power_prop x y)
    go (inl x) (inr y) = absurd (omega (arith, x.1, y.0))
    go (inr x) (inl y) = absurd (omega (arith, x.0, y.1))

-- what stands at an exponent, or at the sum of two
unfoldable pub byte_at : (e : ℕ) → ℕ
byte_at e = cond (ltb e no_exponent) (power 2 e) 0

pub record LongPowers (table : List ℕ) : Type 0 where
  pub many : length table ≡ 2 * no_exponent + 1
  pub entry : (e : ℕ) → get_or table e 0 ≡ byte_at e

pub record LongLogarithms (table : List ℕ) : Type 0 where
  pub many : length table ≡ 256
  pub entry : (a : ℕ) → a < 256 → ExponentOf a (get_or table a 0)
