-- What a column ends with about each column. Assumes nothing: these are definitions.
use Rattle.std.specs.Prelude.{List, [], ◌∷◌, ℕ, get_or}
use Rattle.code.specs.Settings.{Settings}
use Rattle.code.specs.Entry.{values_in}
use Rattle.grading.specs.Value.{Value, Vector, entries}

-- what a column ends with about a column: a value and its confidence, 2, 1 or 0
pub record Held : Type 0 where
  pub value : Value
  pub confidence : ℕ

-- a value held at a confidence
unfoldable pub held_as : Value → (confidence : ℕ) → Held
held_as v c = record { value = v; confidence = c }

-- values, and as many confidences, as what a column ends with
unfoldable pub held_in : Settings → (values confidences : List ℕ) → List Held
held_in s vs cs = entries s.n 0 (λ j. held_as (get_or (values_in s s.n vs) j []) (get_or cs j 0))

-- the values that a column ends with
unfoldable pub held_values : List Held → Vector
held_values [] = []
held_values (h ∷ hs) = h.value ∷ held_values hs

-- their confidences
unfoldable pub held_confidences : List Held → List ℕ
held_confidences [] = []
held_confidences (h ∷ hs) = h.confidence ∷ held_confidences hs
