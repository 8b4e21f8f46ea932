-- Repair of a vector by check values. Assumes nothing: these are definitions.
use Rattle.std.specs.Prelude.{◌≡◌, true, cond, List, [], ◌∷◌, ◌++◌, ◌⊎◌, ℕ, suc, ◌+◌, ◌≤◌, ◌<◌, eqb, length, get_or}
use Rattle.code.specs.Settings.{Settings, check_count, value_size}
use Rattle.code.specs.Size.{value_room}
use Rattle.code.specs.Plane.{is_codeword, differ}
use Rattle.code.specs.Vector.{plane, is_vector, are_checks, differ_values}

-- a codeword us, ds that differs from the n + 2t bytes bs, cs in at most t places, checks counted as places
pub record Near (s : Settings) (bs cs us ds : List ℕ) : Type 0 where
  pub codeword : is_codeword s us ds ≡ true
  pub within : differ bs us + differ cs ds ≤ s.t

-- every plane has one: the n values us and the 2t check values ds
pub record Repaired (s : Settings) (vs cs us ds : List (List ℕ)) : Type 0 where
  pub vector : is_vector s us ≡ true
  pub checks : are_checks s ds ≡ true
  pub planes : (p : ℕ) → p < value_size s → Near s (plane p vs) (plane p cs) (plane p us) (plane p ds)

-- how many of the n + 2t places a repair changed: a place is a value or a check value, and counts once, in however many planes it changed
unfoldable pub changed_places : (vs cs us ds : List (List ℕ)) → ℕ
changed_places vs cs us ds = differ_values vs us + differ_values cs ds

-- some plane has none: "none"
pub record NoRepair (s : Settings) (vs cs : List (List ℕ)) : Type 0 where
  pub at_plane : ℕ
  pub inside : at_plane < value_size s
  pub none_near : (us ds : List ℕ) → Near s (plane at_plane vs) (plane at_plane cs) us ds → ⊥

-- the place, from 1, of the last difference between two words; 0 where they do not differ
unfoldable pub last_difference : (word codeword : List ℕ) → ℕ
last_difference [] us = 0
last_difference (b ∷ bs) [] = 0
last_difference (b ∷ bs) (u ∷ us) = cond (eqb (last_difference bs us) 0) (cond (eqb b u) 0 1) (suc (last_difference bs us))

-- `tried` (Ask 5): how many places of the plane bs, cs its search tries, columns 1 to n and then checks 1 to 2t. It ends at the last
-- one that differs from the codeword near, and goes through all n + 2t where none is near
unfoldable pub Tried : Settings → (bs cs : List ℕ) → (tried : ℕ) → Type 0
Tried s bs cs k =
    ((us : List ℕ) × (ds : List ℕ) × Near s bs cs us ds × (k ≡ last_difference (bs ++ cs) (us ++ ds)))
    ⊎ (((us ds : List ℕ) → Near s bs cs us ds → ⊥) × (k ≡ s.n + check_count s))

-- the same of each plane, whatever the others have, in an array with room for every plane that there can be: the rest of it is 0
pub record TriedPlanes (s : Settings) (vs cs : List (List ℕ)) (tried : List ℕ) : Type 0 where
  pub long : length tried ≡ value_room
  pub each : (p : ℕ) → p < value_size s → Tried s (plane p vs) (plane p cs) (get_or tried p 0)
  pub others : (p : ℕ) → value_size s ≤ p → get_or tried p 0 ≡ 0
