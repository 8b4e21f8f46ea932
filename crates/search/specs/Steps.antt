-- What the steps of the search find and leave: a reader of the promises needs none of it. Assumes nothing: these are definitions.
use Rattle.std.specs.Prelude.{◌≡◌, cond, List, [], ◌∷◌, ℕ, ◌+◌, ◌*◌, ◌-◌, ◌≤◌, ◌<◌, eqb, length, get_or}
use Rattle.arrays.specs.Array.{Written}
use Rattle.lanes.specs.Lanes.{row_width, in_row, lane}
use Rattle.code.specs.Size.{value_room, place_rows, locator_rows}
use Rattle.code.specs.Settings.{Settings, settings}
use Rattle.code.specs.Polynomial.{eval}
use Rattle.locator.specs.Locator.{massey}
use Rattle.locator.specs.Plane.{LaneWritten}
use Rattle.locator.specs.Search.{sought, roots_sought, at_place, roots_below, tries, turns}
use Rattle.errors.specs.Roots.{polynomial}
use Rattle.search.specs.Planes.{Ended}
use Rattle.search.specs.declared.Found.{Found}

-- the power sums of plane p, as a sequence
abbrev pub plane_sums : (p count : ℕ) → (sums : List ℕ) → ℕ → ℕ
plane_sums p count sums i = get_or (lane p count sums) i 0

-- the coefficients of a polynomial are put into plane p of the rows
abbrev pub LanePut : (p : ℕ) → (list rows rows_now : List ℕ) → Type 0
LanePut p list rows rows_now = LaneWritten p (length list) (λ j. get_or list j 0) rows rows_now

-- the locator of a geometric progression, by its first number and its ratio, and how many roots it has
pub record ShortPut (p first ratio roots : ℕ) (rows rows_now : List ℕ) : Type 0 where
  pub none : first ≡ 0 → (roots ≡ 0) × LanePut p (1 ∷ []) rows rows_now
  pub one : (first ≡ 0 → ⊥) → (roots ≡ 1) × LanePut p (ratio ∷ 1 ∷ []) rows rows_now

-- a locator and all of its roots, or where these are more than t, one root of the polynomial 1
pub record FoundPut (p t : ℕ) (locator : List ℕ) (roots : ℕ) (rows rows_now : List ℕ) : Type 0 where
  pub short : length locator ≤ t + 1 → (roots + 1 ≡ length locator) × LanePut p locator rows rows_now
  pub long : t + 1 < length locator → (roots ≡ 1) × LanePut p (1 ∷ []) rows rows_now

-- what plane p looks for
pub record Seeks (p count t : ℕ) (sums : List ℕ) (roots : ℕ) (rows rows_now : List ℕ) : Type 0 where
  pub size : roots ≡ roots_sought t (massey (plane_sums p count sums) count)
  pub small : roots ≤ t
  pub put : LanePut p (sought t (massey (plane_sums p count sums) count)) rows rows_now

-- what the first planes look for, the coefficients in rows, and zeros for the other planes
pub record AllSought (planes count t : ℕ) (sums roots rows : List ℕ) : Type 0 where
  pub many : length roots ≡ value_room
  pub long : length rows ≡ locator_rows
  pub size : (p : ℕ) → p < planes → get_or roots p 0 ≡ roots_sought t (massey (plane_sums p count sums) count)
  pub small : (p : ℕ) → p < planes → get_or roots p 0 ≤ t
  pub coefficient : (p m : ℕ) → p < planes → get_or rows (in_row m p) 0 ≡ get_or (sought t (massey (plane_sums p count sums) count)) m 0
  pub others : (p : ℕ) → planes ≤ p → get_or roots p 0 ≡ 0
  pub blank : (p m : ℕ) → planes ≤ p → p < row_width → get_or rows (in_row m p) 0 ≡ 0

-- the first planes look for this whatever t is
abbrev pub ShortAll : (planes count : ℕ) → (sums roots rows : List ℕ) → Type 0
ShortAll planes count sums roots rows = (t : ℕ) → 1 ≤ t → AllSought planes count t sums roots rows

-- so many coefficients give every polynomial its own values: those past it are 0
unfoldable pub SameValues : (many : ℕ) → (rows roots : List ℕ) → Type 0
SameValues many rows roots = (p x : ℕ) → p < value_room → x < 256 → eval (lane p many rows) x ≡ eval (polynomial rows roots p) x

-- each plane with a root left has tried one place more
abbrev pub PlaceCounted : (left tried tried_now : List ℕ) → Type 0
PlaceCounted left tried tried_now = Written 0 value_room (λ p. get_or tried p 0 + cond (eqb (get_or left p 0) 0) 0 1) tried tried_now

-- 1 where a plane finds a root, by the roots left and the value at the place: only as long as one is left
unfoldable pub root_found : (left here : ℕ) → ℕ
root_found l v = cond (eqb l 0) 0 (cond (eqb v 0) 1 0)

-- at a place each of the first planes that finds a root marks it and has one fewer; every other byte is kept
pub record RootsFound (planes at : ℕ) (values left left_now marks marks_now : List ℕ) : Type 0 where
  pub fewer : Written 0 planes (λ p. get_or left p 0 - root_found (get_or left p 0) (get_or values p 0)) left left_now
  pub marked : Written at planes (λ p. root_found (get_or left p 0) (get_or values p 0)) marks marks_now

-- the mark that the walk leaves at place j of plane p: 1 where the place is tried and a root
abbrev pub mark : Settings → (rows roots : List ℕ) → (j p : ℕ) → ℕ
mark s rows roots j p =
    cond (tries (get_or roots p 0) (at_place s (polynomial rows roots p)) j) (cond (eqb (at_place s (polynomial rows roots p) j) 0) 1 0) 0

-- the walk through the first places: each plane's roots left, its turns and its marks; zeros ahead and behind the planes
pub record Walked (done : ℕ) (s : Settings) (rows roots left tried marks : List ℕ) : Type 0 where
  pub left_long : length left ≡ value_room
  pub tried_long : length tried ≡ value_room
  pub long : length marks ≡ place_rows
  pub left_at : (p : ℕ) → p < value_room → get_or left p 0 ≡ get_or roots p 0 - roots_below (at_place s (polynomial rows roots p)) done
  pub tried_at : (p : ℕ) → p < value_room → get_or tried p 0 ≡ turns (get_or roots p 0) (at_place s (polynomial rows roots p)) done
  pub mark_at : (j p : ℕ) → j < done → p < value_room → get_or marks (in_row j p) 0 ≡ mark s rows roots j p
  pub ahead : (j p : ℕ) → done ≤ j → p < row_width → get_or marks (in_row j p) 0 ≡ 0
  pub behind : (j p : ℕ) → value_room ≤ p → p < row_width → get_or marks (in_row j p) 0 ≡ 0

-- the whole walk, which ended with the plane that tried most
pub record WalkedThrough (n t : ℕ) (rows roots : List ℕ) (found : Found) : Type 0 where
  pub walked : Walked (n + 2 * t) (settings n t value_room) rows roots found.left found.tried found.rows
  pub ended : Ended (n + 2 * t) found.tried found.rows found.turns
