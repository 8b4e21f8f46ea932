-- What is promised of the code. Each statement is a type, and proofs/ has its proof. Assumes nothing.
use Rattle.std.specs.Prelude.{◌≡◌, true, List, ℕ, ◌≤◌, ◌<◌, length}
use Rattle.code.specs.Settings.{Settings, settings_refusal, check_count, value_size}
use Rattle.code.specs.Polynomial.{generator, Remainder}
use Rattle.code.specs.Plane.{is_codeword, byte_list, data_polynomial, check_polynomial}
use Rattle.code.specs.Vector.{plane, is_vector, has_checks, differ_values}
use Rattle.code.specs.Repair.{Near, Repaired, changed_places, Tried}

-- two ways to say that bytes are the checks of a plane: zero at the roots, and the remainder by the generator
unfoldable pub ChecksRemain : Type 0
ChecksRemain =
    (s : Settings) (bs cs : List ℕ) → settings_refusal s ≡ 0 → length bs ≡ s.n → length cs ≡ check_count s → byte_list bs ≡ true → byte_list cs ≡ true →
    (is_codeword s bs cs ≡ true → Remainder (generator (check_count s)) (data_polynomial bs) (check_polynomial cs))
    × (Remainder (generator (check_count s)) (data_polynomial bs) (check_polynomial cs) → is_codeword s bs cs ≡ true)

-- a vector has exactly one list of check values
unfoldable pub ChecksThere : Type 0
ChecksThere =
    (s : Settings) (vs : List (List ℕ)) → settings_refusal s ≡ 0 → is_vector s vs ≡ true →
    (cs : List (List ℕ)) × (has_checks s vs cs ≡ true) × ((ds : List (List ℕ)) → has_checks s vs ds ≡ true → ds ≡ cs)

-- no plane has two codewords within t places
unfoldable pub OneNear : Type 0
OneNear =
    (s : Settings) (bs cs us ds xs ys : List ℕ) → settings_refusal s ≡ 0 → length bs ≡ s.n → length cs ≡ check_count s →
    Near s bs cs us ds → Near s bs cs xs ys → (us ≡ xs) × (ds ≡ ys)

-- the search of a plane tries one number of places
unfoldable pub OneTried : Type 0
OneTried =
    (s : Settings) (bs cs : List ℕ) (k l : ℕ) → settings_refusal s ≡ 0 → length bs ≡ s.n → length cs ≡ check_count s → Tried s bs cs k → Tried s bs cs l →
    k ≡ l

-- a vector and check values have at most one repair, in its values and in its check values
unfoldable pub OneRepair : Type 0
OneRepair =
    (s : Settings) (vs cs us ds xs ys : List (List ℕ)) → settings_refusal s ≡ 0 → length vs ≡ s.n → length cs ≡ check_count s →
    Repaired s vs cs us ds → Repaired s vs cs xs ys → (us ≡ xs) × (ds ≡ ys)

-- values whose planes each have a codeword near are a repair: the checks of these codewords, put together, are its check values
unfoldable pub PlanesRepair : Type 0
PlanesRepair =
    (s : Settings) (vs cs us : List (List ℕ)) → is_vector s us ≡ true →
    ((p : ℕ) → p < value_size s → (ds : List ℕ) × Near s (plane p vs) (plane p cs) (plane p us) ds) → (ds : List (List ℕ)) × Repaired s vs cs us ds

-- the check values of a vector repair any other vector that differs from it in at most t values, and change these places alone
unfoldable pub Repairs : Type 0
Repairs =
    (s : Settings) (vs us cs : List (List ℕ)) → settings_refusal s ≡ 0 → is_vector s vs ≡ true → is_vector s us ≡ true → has_checks s us cs ≡ true →
    differ_values vs us ≤ s.t → Repaired s vs cs us cs × (changed_places vs cs us cs ≡ differ_values vs us)
