-- What the planes look for: roots of polynomials in rows, and how many. Assumes nothing: these are definitions.
use Rattle.std.specs.Prelude.{◌≡◌, List, ℕ, ◌+◌, ◌≤◌, ◌<◌, length, get_or}
use Rattle.lanes.specs.Lanes.{in_row, lane}
use Rattle.code.specs.Size.{value_room}

-- the least number that none of the numbers is above
pub record Longest (numbers : List ℕ) (most : ℕ) : Type 0 where
  pub above : (p : ℕ) → get_or numbers p 0 ≤ most
  pub least : (k : ℕ) → ((p : ℕ) → get_or numbers p 0 ≤ k) → most ≤ k

-- no plane looks for more than t roots or has coefficients past them
pub record Fits (t : ℕ) (rows roots : List ℕ) : Type 0 where
  pub many : length roots ≡ value_room
  pub small : (p : ℕ) → get_or roots p 0 ≤ t
  pub past : (p m : ℕ) → p < value_room → get_or roots p 0 < m → get_or rows (in_row m p) 0 ≡ 0

-- the polynomial of plane p, as long as it has roots to find
abbrev pub polynomial : (rows roots : List ℕ) → (p : ℕ) → List ℕ
polynomial rows roots p = lane p (get_or roots p 0 + 1) rows
