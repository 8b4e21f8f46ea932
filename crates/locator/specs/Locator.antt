-- The decoder of one plane as definitions: the locator by Berlekamp and Massey, and the error at a place. They exist to be
-- proved to find what Near says; a reader of the promises needs none of them. Assumes nothing.
use Rattle.std.specs.Prelude.{cond, List, [], ◌∷◌, ℕ, zero, suc, ◌*◌, ◌-◌, leb, eqb}
use Rattle.field.specs.Field.{plus, times, inverse}
use Rattle.code.specs.Polynomial.{eval, added, scaled}

-- the sum of p_m · S_(j + m)
unfoldable pub against : List ℕ → (S : ℕ → ℕ) → (j : ℕ) → ℕ
against [] S j = 0
against (p ∷ ps) S j = plus (times p (S j)) (against ps S (suc j))

-- times x^s
unfoldable pub raised : (s : ℕ) → List ℕ → List ℕ
raised zero ps = ps
raised (suc s) ps = 0 ∷ raised s ps

-- the quotient by x − c
unfoldable pub quotient : (c : ℕ) → List ℕ → List ℕ
quotient c [] = []
quotient c (p ∷ []) = []
quotient c (p ∷ q ∷ ps) = eval (q ∷ ps) c ∷ quotient c (q ∷ ps)

-- the locator, monic of degree `size`, and the last one before it grew, scaled to discrepancy 1
pub record State : Type 0 where
  pub locator : List ℕ
  pub before : List ℕ
  pub size : ℕ

unfoldable pub start : State
start = record { locator = 1 ∷ []; before = []; size = 0 }

unfoldable pub longer : (k discrepancy : ℕ) → State → State
longer k d s =
    record {
      locator = added (raised (suc k - 2 * s.size) s.locator) (scaled d s.before);
      before = scaled (inverse d) s.locator;
      size = suc k - s.size;
    }

unfoldable pub as_long : (k discrepancy : ℕ) → State → State
as_long k d s =
    record { locator = added s.locator (scaled d (raised (2 * s.size - suc k) s.before)); before = s.before; size = s.size }

unfoldable pub changed : (k discrepancy : ℕ) → State → State
changed k d s = cond (eqb d 0) s (cond (leb (2 * s.size) k) (longer k d s) (as_long k d s))

-- the state after the first k power sums
unfoldable pub massey : (S : ℕ → ℕ) → (k : ℕ) → State
massey S zero = start
massey S (suc k) = changed k (against (massey S k).locator S (k - (massey S k).size)) (massey S k)

-- the weighted error at the place x: 0 where x is no root of the locator
unfoldable pub value : (S : ℕ → ℕ) → (locator : List ℕ) → (x : ℕ) → ℕ
value S ps x = cond (eqb (eval ps x) 0) (times (against (quotient x ps) S 0) (inverse (eval (quotient x ps) x))) 0
