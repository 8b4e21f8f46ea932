-- The places that have an error in some plane. Assumes nothing: these are definitions.
use Rattle.std.specs.Prelude.{cond, List, ℕ, zero, suc, ◌+◌, take, drop}
use Rattle.arrays.specs.Array.{all_zero}
use Rattle.lanes.specs.Lanes.{row_width}

-- how many of the first rows have a byte that is not 0
unfoldable pub wrong_rows : (rows : ℕ) → (weighted : List ℕ) → ℕ
wrong_rows zero ys = 0
wrong_rows (suc k) ys = cond (all_zero (take row_width ys)) 0 1 + wrong_rows k (drop row_width ys)
