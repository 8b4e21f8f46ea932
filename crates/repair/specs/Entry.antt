-- What the repair calls answer and leave in the lent output. Assumes nothing: these are definitions.
use Rattle.std.specs.Prelude.{◌≡◌, ◌||◌, not, cond, List, ◌⊎◌, ℕ, zero, suc, ◌*◌, ltb, eqb, length, replicate}
use Rattle.arrays.specs.Array.{in_front}
use Rattle.code.specs.Settings.{Settings, settings, settings_refusal, check_count, value_size}
use Rattle.code.specs.Vector.{glued}
use Rattle.code.specs.Repair.{Repaired, changed_places, NoRepair, TriedPlanes}
use Rattle.code.specs.Size.{value_room}
use Rattle.code.specs.Entry.{values_in}
use Rattle.repair.specs.Difference.{plus_values, zeros}

-- the answer "none"; every other answer but 0 is a refusal's number
unfoldable pub none_found : ℕ
none_found = 256

-- 1 to 3; 18 where the vector is not n values long, the checks are not 2t, or the output has no room for n
unfoldable pub repair_refusal : Settings → (vector checks room : ℕ) → ℕ
repair_refusal s v c k =
    cond (not (eqb (settings_refusal s) 0)) (settings_refusal s)
    (cond (not (eqb v (s.n * value_size s)) || (not (eqb c (check_count s * value_size s)) || ltb k (s.n * value_size s))) 18 0)

-- the repaired vector in front of the output and how many places were changed, or none, no place and the output as it was
unfoldable pub Done : Settings → (vs cs : List (List ℕ)) → (answer changed : ℕ) → (out out_now : List ℕ) → Type 0
Done s vs cs r m o z =
    ((r ≡ 0)
    × ((us : List (List ℕ)) × (ds : List (List ℕ)) × Repaired s vs cs us ds × (m ≡ changed_places vs cs us ds) × (z ≡ in_front (glued us) o)))
    ⊎ ((r ≡ none_found) × (m ≡ 0) × NoRepair s vs cs × (z ≡ o))

-- no place of any plane is tried
unfoldable pub none_tried : List ℕ
none_tried = replicate value_room 0

unfoldable pub RepairAs : (number : ℕ) → Settings → (vector checks : List ℕ) → (answer changed : ℕ) → (tried out out_now : List ℕ) → Type 0
RepairAs zero s vs cs r m k o z =
    Done s (values_in s s.n vs) (values_in s (check_count s) cs) r m o z
    × TriedPlanes s (values_in s s.n vs) (values_in s (check_count s) cs) k
RepairAs (suc n) s vs cs r m k o z = (r ≡ suc n) × (m ≡ 0) × (k ≡ none_tried) × (z ≡ o)

-- the contract of `repair`
unfoldable pub RepairSays : (n t w : ℕ) → (vector checks : List ℕ) → (answer changed : ℕ) → (tried out out_now : List ℕ) → Type 0
RepairSays n t w vs cs r m k o z =
    RepairAs (repair_refusal (settings n t w) (length vs) (length cs) (length o)) (settings n t w) vs cs r m k o z

-- repair by the difference of two lists of check values: the vector of zeros is repaired by the difference, and the vector lent
-- changed by what it becomes; the places counted are those of that repair
unfoldable pub DoneBy : Settings → (vs own cs : List (List ℕ)) → (answer changed : ℕ) → (out out_now : List ℕ) → Type 0
DoneBy s vs own cs r m o z =
    ((r ≡ 0)
    × ((es : List (List ℕ)) × (ds : List (List ℕ)) × Repaired s (zeros s) (plus_values own cs) es ds
    × (m ≡ changed_places (zeros s) (plus_values own cs) es ds) × (z ≡ in_front (glued (plus_values vs es)) o)))
    ⊎ ((r ≡ none_found) × (m ≡ 0) × NoRepair s (zeros s) (plus_values own cs) × (z ≡ o))

-- and the places tried are those of that repair too
unfoldable pub TriedBy : Settings → (own cs : List (List ℕ)) → (tried : List ℕ) → Type 0
TriedBy s own cs k = TriedPlanes s (zeros s) (plus_values own cs) k

-- as for `repair`, and 18 also where the own checks are not 2t values
unfoldable pub repair_by_refusal : Settings → (vector own checks room : ℕ) → ℕ
repair_by_refusal s v d c k =
    cond (not (eqb (repair_refusal s v c k) 0)) (repair_refusal s v c k) (cond (eqb d (check_count s * value_size s)) 0 18)

unfoldable pub RepairByAs : (number : ℕ) → Settings → (vector own checks : List ℕ) → (answer changed : ℕ) → (tried out out_now : List ℕ) → Type 0
RepairByAs zero s vs own cs r m k o z =
    DoneBy s (values_in s s.n vs) (values_in s (check_count s) own) (values_in s (check_count s) cs) r m o z
    × TriedBy s (values_in s (check_count s) own) (values_in s (check_count s) cs) k
RepairByAs (suc n) s vs own cs r m k o z = (r ≡ suc n) × (m ≡ 0) × (k ≡ none_tried) × (z ≡ o)

-- the contract of `repair_by`, whatever the own checks are
unfoldable pub RepairBySays : (n t w : ℕ) → (vector own checks : List ℕ) → (answer changed : ℕ) → (tried out out_now : List ℕ) → Type 0
RepairBySays n t w vs own cs r m k o z =
    RepairByAs (repair_by_refusal (settings n t w) (length vs) (length own) (length cs) (length o)) (settings n t w) vs own cs r m k o z
