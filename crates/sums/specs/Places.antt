-- The tables by which the polynomials of all planes are evaluated at a place. Assumes nothing: these are definitions.
use Rattle.std.specs.Prelude.{List, ℕ}
use Rattle.lanes.specs.Lanes.{RowTables}

-- both tables of each of the first rows of coefficients but the first, which goes in as it is: the power 0 of every place is 1
abbrev pub CoefficientTables : (many : ℕ) → (coefficients tables : List ℕ) → Type 0
CoefficientTables many coefficients tables = RowTables 1 many coefficients tables
