-- What is found and written in one plane of the rows. Assumes nothing: these are definitions.
use Rattle.std.specs.Prelude.{◌≡◌, Bool, true, false, List, ℕ, ◌-◌, ◌≤◌, ◌<◌, length, get_or}
use Rattle.field.specs.Field.{times}
use Rattle.lanes.specs.Lanes.{row_width, in_row}

-- whether each of the first sums of plane p but the first is x times the one before it, and where not, one that is not
unfoldable pub GeometricAs : (answer : Bool) → (p x many : ℕ) → (sums : List ℕ) → Type 0
GeometricAs true p x many sums = (i : ℕ) → 1 ≤ i → i < many → get_or sums (in_row i p) 0 ≡ times x (get_or sums (in_row i p - row_width) 0)
GeometricAs false p x many sums = (i : ℕ) × (i < many) × (get_or sums (in_row i p) 0 ≡ times x (get_or sums (in_row i p - row_width) 0) → ⊥)

-- plane p of the first rows is f, and every other byte is kept
pub record LaneWritten (p many : ℕ) (f : ℕ → ℕ) (rows rows_now : List ℕ) : Type 0 where
  pub long : length rows_now ≡ length rows
  pub new : (j : ℕ) → j < many → get_or rows_now (in_row j p) 0 ≡ f j
  pub rest : (i : ℕ) → ((j : ℕ) → j < many → i ≡ in_row j p → ⊥) → get_or rows_now i 0 ≡ get_or rows i 0
