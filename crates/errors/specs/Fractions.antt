-- The errors at the roots as fractions, from the polynomials in rows and the power sums of the planes. Assumes nothing: these are definitions.
use Rattle.std.specs.Prelude.{◌≡◌, cond, List, ℕ, suc, ◌+◌, ◌*◌, ◌/◌, ◌≤◌, ◌<◌, eqb, length, get_or, drop}
use Rattle.field.specs.Field.{times, power, inverse}
use Rattle.lanes.specs.Lanes.{row_width, in_row, lane}
use Rattle.code.specs.Size.{locator_rows}
use Rattle.code.specs.Polynomial.{eval}
use Rattle.locator.specs.Locator.{against, quotient}
use Rattle.errors.specs.Roots.{polynomial}

-- what a plane's sums and its polynomial tell of a place: the quotient against the sums, divided by the quotient's value
abbrev pub told : (rows sums roots : List ℕ) → (p x : ℕ) → ℕ
told rows sums roots p x =
    times (against (quotient x (polynomial rows roots p)) (λ i. get_or sums (in_row i p) 0) 0) (inverse (eval (quotient x (polynomial rows roots p)) x))

-- of so many rows of numerators the first are in each plane the coefficients behind one against the sums, and the others are zeros
pub record Numerators (done size : ℕ) (rows sums numerators : List ℕ) : Type 0 where
  pub long : length numerators ≡ locator_rows
  pub each :
      (d p : ℕ) → d < done → p < row_width →
      get_or numerators (in_row d p) 0 ≡ against (drop (suc d) (lane p (size + 1) rows)) (λ i. get_or sums (in_row i p) 0) 0
  pub ahead : (i : ℕ) → row_width * done ≤ i → get_or numerators i 0 ≡ 0

-- the first rows are those of the coefficients of odd powers
pub record Slopes (half : ℕ) (rows slopes : List ℕ) : Type 0 where
  pub long : length slopes ≡ locator_rows
  pub each : (k p : ℕ) → k < half → p < row_width → get_or slopes (in_row k p) 0 ≡ get_or rows (in_row (2 * k + 1) p) 0

-- the same by two polynomials, the lower one of the place's square
abbrev pub fraction : (numerators slopes : List ℕ) → (size p exponent : ℕ) → ℕ
fraction numerators slopes size p e =
    times (eval (lane p size numerators) (power 2 e)) (inverse (eval (lane p ((size + 1) / 2) slopes) (power 2 (e + e))))

-- and by the first sum, where no polynomial has more than two coefficients
abbrev pub first_told : (rows sums : List ℕ) → (p : ℕ) → ℕ
first_told rows sums p = cond (eqb (get_or rows (row_width + p) 0) 0) 0 (get_or sums p 0)
