-- What the search finds in all planes. Assumes nothing: these are definitions.
use Rattle.std.specs.Prelude.{◌≡◌, List, ◌⊎◌, ℕ, ◌+◌, ◌≤◌, ◌<◌, length, get_or, replicate}
use Rattle.lanes.specs.Lanes.{row_width, in_row, lane}
use Rattle.code.specs.Size.{value_room, place_rows}
use Rattle.code.specs.Settings.{Settings, check_count}
use Rattle.code.specs.Repair.{Near}
use Rattle.locator.specs.Errors.{NearErrors}
use Rattle.locator.specs.Search.{last_wrong}
use Rattle.errors.specs.Roots.{Longest}

-- a plane of zeros and the checks cs: no root is left to find, and the errors are those of the codeword near and were found where the
-- last of them is; or roots are left, no codeword is near, and all places were tried
unfoldable pub PlaneFound : Settings → (cs weighted : List ℕ) → (left tried : ℕ) → Type 0
PlaneFound s cs ys l k =
    ((l ≡ 0) × NearErrors s cs ys × (k ≡ last_wrong ys))
    ⊎ ((l ≡ 0 → ⊥) × ((us ds : List ℕ) → Near s (replicate s.n 0) cs us ds → ⊥) × (k ≡ s.n + check_count s))

-- a search through so many places ended with the plane that tried most, and wrote nothing behind that place
pub record Ended (places : ℕ) (tried rows : List ℕ) (turns : ℕ) : Type 0 where
  pub within : turns ≤ places
  pub most : Longest tried turns
  pub ahead : (j p : ℕ) → turns ≤ j → p < row_width → get_or rows (in_row j p) 0 ≡ 0

-- what is found of the first planes of a difference of checks in rows: weighted errors in rows, one for each place, and for each plane
-- how many roots are left and how many places were tried; zeros for the other planes
pub record Decoded (planes : ℕ) (s : Settings) (difference left tried weighted : List ℕ) (turns : ℕ) : Type 0 where
  pub long : length weighted ≡ place_rows
  pub bytes : (i : ℕ) → get_or weighted i 0 < 256
  pub left_long : length left ≡ value_room
  pub tried_long : length tried ≡ value_room
  pub each :
      (p : ℕ) → p < planes →
      PlaneFound s (lane p (check_count s) difference) (lane p (s.n + check_count s) weighted) (get_or left p 0) (get_or tried p 0)
  pub others : (j p : ℕ) → planes ≤ p → p < row_width → get_or weighted (in_row j p) 0 ≡ 0
  pub rest : (p : ℕ) → planes ≤ p → (get_or left p 0 ≡ 0) × (get_or tried p 0 ≡ 0)
  pub ended : Ended (s.n + check_count s) tried weighted turns
