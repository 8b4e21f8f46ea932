-- Polynomials over the field, the generator, and remainders by it. Assumes nothing: these are definitions.
-- A polynomial is the list of its coefficients, lowest power first; zeros at its end change nothing.
use Rattle.std.specs.Prelude.{◌≡◌, List, [], ◌∷◌, ℕ, zero, suc, ◌+◌, ◌<◌, length, get_or}
use Rattle.field.specs.Field.{plus, times, power}
use Rattle.code.specs.Size.{most_checks}

-- the value at x
unfoldable pub eval : List ℕ → (x : ℕ) → ℕ
eval [] x = 0
eval (p ∷ ps) x = plus p (times x (eval ps x))

unfoldable pub added : (ps qs : List ℕ) → List ℕ
added [] qs = qs
added (p ∷ ps) [] = p ∷ ps
added (p ∷ ps) (q ∷ qs) = plus p q ∷ added ps qs

-- times a constant
unfoldable pub scaled : (c : ℕ) → List ℕ → List ℕ
scaled c [] = []
scaled c (p ∷ ps) = times c p ∷ scaled c ps

unfoldable pub multiplied : (ps qs : List ℕ) → List ℕ
multiplied [] qs = []
multiplied (p ∷ ps) qs = added (scaled p qs) (0 ∷ multiplied ps qs)

-- the roots: the 120th power of 2 and those that follow
abbrev pub first_exponent : ℕ
first_exponent = 120

unfoldable pub root : (i : ℕ) → ℕ
root i = power 2 (first_exponent + i)

-- the table of the twenty roots
pub record Roots (table : List ℕ) : Type 0 where
  pub many : length table ≡ most_checks
  pub entry : (i : ℕ) → i < most_checks → get_or table i 0 ≡ root i

-- times (x − c), which is x + c in this field
unfoldable pub times_factor : (c : ℕ) → List ℕ → List ℕ
times_factor c ps = added (0 ∷ ps) (scaled c ps)

-- the generator for one root fewer, times one more factor; for no roots it is 1
unfoldable pub generator : (roots : ℕ) → List ℕ
generator zero = 1 ∷ []
generator (suc k) = times_factor (root k) (generator k)

-- the remainder by a divisor: shorter than it, and with the divisor times a quotient of bytes the dividend, coefficient by coefficient
pub record Remainder (divisor dividend remainder : List ℕ) : Type 0 where
  pub quotient : List ℕ
  pub quotient_bytes : (i : ℕ) → get_or quotient i 0 < 256
  pub shorter : length remainder < length divisor
  pub adds_up : (i : ℕ) → get_or (added (multiplied quotient divisor) remainder) i 0 ≡ get_or dividend i 0
