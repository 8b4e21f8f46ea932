-- The errors in rows, one for each place, where the marks of the roots found stood. Assumes nothing: these are definitions.
use Rattle.std.specs.Prelude.{◌≡◌, cond, List, ℕ, ◌+◌, ◌*◌, ◌≤◌, ◌<◌, eqb, length, get_or}
use Rattle.arrays.specs.Array.{Written}
use Rattle.lanes.specs.Lanes.{row_width, in_row}
use Rattle.code.specs.Size.{value_room}

-- a mark gives way to the error at the place, and no mark to none
unfoldable pub error_told : (mark error : ℕ) → ℕ
error_told m e = cond (eqb m 0) 0 e

-- so it is of the first planes at one place
abbrev pub ErrorsPut : (planes at : ℕ) → (error : ℕ → ℕ) → (marks weighted : List ℕ) → Type 0
ErrorsPut planes at error marks weighted = Written at planes (λ p. error_told (get_or marks (at + p) 0) (error p)) marks weighted

-- and at the first places; every other byte is kept
pub record ErrorsTold (done : ℕ) (error : (j p : ℕ) → ℕ) (marks weighted : List ℕ) : Type 0 where
  pub long : length weighted ≡ length marks
  pub bytes : (i : ℕ) → get_or weighted i 0 < 256
  pub each : (j p : ℕ) → j < done → p < value_room → get_or weighted (in_row j p) 0 ≡ error_told (get_or marks (in_row j p) 0) (error j p)
  pub ahead : (i : ℕ) → row_width * done ≤ i → get_or weighted i 0 ≡ get_or marks i 0
  pub behind : (j p : ℕ) → value_room ≤ p → p < row_width → get_or weighted (in_row j p) 0 ≡ get_or marks (in_row j p) 0

-- of the first planes none that looks for a root has found them all
abbrev pub NoneFound : (planes : ℕ) → (roots left : List ℕ) → Type 0
NoneFound planes roots left = (p : ℕ) → p < planes → get_or left p 0 ≡ 0 → get_or roots p 0 ≡ 0

-- a plane that looks for no root has no mark
abbrev pub Unsought : (roots marks : List ℕ) → Type 0
Unsought roots marks = (j p : ℕ) → p < value_room → get_or roots p 0 ≡ 0 → get_or marks (in_row j p) 0 ≡ 0

-- the errors of the planes that have found all their roots
pub record ErrorsFound (done : ℕ) (error : (j p : ℕ) → ℕ) (left marks weighted : List ℕ) : Type 0 where
  pub long : length weighted ≡ length marks
  pub bytes : (i : ℕ) → get_or weighted i 0 < 256
  pub each :
      (j p : ℕ) → j < done → p < value_room → get_or left p 0 ≡ 0 → get_or weighted (in_row j p) 0 ≡ error_told (get_or marks (in_row j p) 0) (error j p)
  pub ahead : (i : ℕ) → row_width * done ≤ i → get_or weighted i 0 ≡ get_or marks i 0
  pub behind : (j p : ℕ) → value_room ≤ p → p < row_width → get_or weighted (in_row j p) 0 ≡ get_or marks (in_row j p) 0
