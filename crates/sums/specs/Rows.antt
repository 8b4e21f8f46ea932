-- What the functions over rows of byte planes leave and answer. Assumes nothing: these are definitions.
use Rattle.std.specs.Prelude.{◌≡◌, List, ℕ, ◌+◌, ◌*◌, ◌-◌, ◌≤◌, ◌<◌, length, get_or}
use Rattle.arrays.specs.Array.{Filled}
use Rattle.field.specs.Field.{plus, power}
use Rattle.code.specs.Size.{most_checks, check_rows}
use Rattle.lanes.specs.Lanes.{row_width, in_row, lane}
use Rattle.code.specs.Polynomial.{first_exponent, root}
use Rattle.code.specs.Plane.{summed}

-- two lists of values of so many bytes added into rows, as many as the first number says; every other byte is 0
pub record ValuesAdded (many size : ℕ) (own checks rows : List ℕ) : Type 0 where
  pub long : length rows ≡ check_rows
  pub sums :
      (c p : ℕ) → c < many → p < size → get_or rows (in_row c p) 0 ≡ plus (get_or own (c * size + p) 0) (get_or checks (c * size + p) 0)
  pub spare : (c p : ℕ) → size ≤ p → p < row_width → get_or rows (in_row c p) 0 ≡ 0
  pub beyond : (i : ℕ) → row_width * many ≤ i → get_or rows i 0 ≡ 0

-- the logarithms of the twenty roots
abbrev pub RootLogarithms : List ℕ → Type 0
RootLogarithms bytes = Filled most_checks most_checks (λ i. first_exponent + i) bytes

-- exponents below 255, one for each of the first roots
pub record Exponents (many : ℕ) (bytes : List ℕ) : Type 0 where
  pub long : length bytes ≡ most_checks
  pub small : (i : ℕ) → i < many → get_or bytes i 0 < 255

-- and those of the powers of 2 that the powers e of these roots are
pub record RootExponents (many e : ℕ) (bytes : List ℕ) : Type 0 where
  pub exponents : Exponents many bytes
  pub same : (i : ℕ) → i < many → power 2 (get_or bytes i 0) ≡ power (root i) e

-- every exponent of the old ones has gone back by its root's logarithm, 255 coming round to 0
pub record Lowered (many : ℕ) (old now : List ℕ) : Type 0 where
  pub long : length now ≡ most_checks
  pub small : (i : ℕ) → i < many → get_or old i 0 < 255 → get_or now i 0 < 255
  pub back : (i : ℕ) → i < many → power 2 (get_or now i 0 + (first_exponent + i)) ≡ power 2 (get_or old i 0)
  pub rest : (i : ℕ) → many ≤ i → get_or now i 0 ≡ get_or old i 0

-- row i is at each plane the sum at root i of the first rows of checks, of which there are `count`
pub record CheckSums (many count : ℕ) (checks sums : List ℕ) : Type 0 where
  pub long : length sums ≡ check_rows
  pub each : (i p : ℕ) → i < count → p < row_width → get_or sums (in_row i p) 0 ≡ summed (root i) (count - 1) (lane p many checks)
