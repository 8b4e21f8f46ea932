-- The errors of the columns as values. Assumes nothing: these are definitions.
use Rattle.std.specs.Prelude.{List, [], ◌∷◌, ℕ, zero, suc, ◌*◌, ◌-◌, take, drop}
use Rattle.field.specs.Field.{power, inverse}
use Rattle.lanes.specs.Lanes.{row_width}
use Rattle.code.specs.Polynomial.{first_exponent, scaled}

-- the errors of so many columns from column k on, as values of so many bytes: a weight is divided out
unfoldable pub column_errors : (columns k size : ℕ) → (weighted : List ℕ) → List (List ℕ)
column_errors zero k w ys = []
column_errors (suc n) k w ys = scaled (inverse (power 2 (first_exponent * (254 - k)))) (take w ys) ∷ column_errors n (suc k) w (drop row_width ys)
