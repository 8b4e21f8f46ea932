-- The search of a plane: its places are tried in order, columns 1 to n and then checks 1 to 2t, until all roots looked for are found.
-- Assumes nothing: these are definitions.
use Rattle.std.specs.Prelude.{Bool, cond, List, [], ◌∷◌, ℕ, zero, suc, ◌+◌, ltb, leb, eqb}
use Rattle.field.specs.Field.{power}
use Rattle.code.specs.Settings.{Settings, check_count}
use Rattle.code.specs.Polynomial.{eval}
use Rattle.locator.specs.Locator.{State}
use Rattle.locator.specs.Errors.{place_exponent}

-- the polynomial whose roots are looked for: the locator, or one without roots where that is longer than t bad columns need
unfoldable pub sought : (t : ℕ) → State → List ℕ
sought t state = cond (leb state.size t) state.locator (1 ∷ [])

-- how many roots are looked for: all of the locator's, or one, which the other has not
unfoldable pub roots_sought : (t : ℕ) → State → ℕ
roots_sought t state = cond (leb state.size t) state.size 1

-- the value of a polynomial at each place
unfoldable pub at_place : Settings → List ℕ → (j : ℕ) → ℕ
at_place s ps j = eval ps (power 2 (place_exponent s.n (check_count s) j))

-- how many of the first places are roots, by the values there
unfoldable pub roots_below : (v : ℕ → ℕ) → (places : ℕ) → ℕ
roots_below v zero = 0
roots_below v (suc k) = roots_below v k + cond (eqb (v k) 0) 1 0

-- whether a search for so many roots tries place j: not all of them stand before it
unfoldable pub tries : (many : ℕ) → (v : ℕ → ℕ) → (j : ℕ) → Bool
tries many v j = ltb (roots_below v j) many

-- how many of the first places it tries: its turns
unfoldable pub turns : (many : ℕ) → (v : ℕ → ℕ) → (places : ℕ) → ℕ
turns many v zero = 0
turns many v (suc k) = turns many v k + cond (tries many v k) 1 0

-- the place, from 1, of the last weighted error that is not 0; 0 where all are
unfoldable pub last_wrong : (weighted : List ℕ) → ℕ
last_wrong [] = 0
last_wrong (y ∷ ys) = cond (eqb (last_wrong ys) 0) (cond (eqb y 0) 0 1) (suc (last_wrong ys))
