-- Counting the values of a table of rows: the most often found one, Y, values and confidences. Assumes nothing: these are definitions.
use Rattle.std.specs.Prelude.{Bool, ◌&&◌, ◌||◌, not, cond, List, [], ◌∷◌, ℕ, ◌+◌, ◌*◌, ◌-◌, ltb, leb, eqb, get_or}
use Rattle.code.specs.Settings.{Settings}
use Rattle.code.specs.Vector.{same}
use Rattle.grading.specs.Value.{Value, Vector, Rows, blank, is_blank, bytes_before, entries}
use Rattle.grading.specs.Held.{Held, held_as}

-- how often a value is found in a column of a table; places in a row count from 0, so that place j is column j + 1's
unfoldable pub found : (j : ℕ) → Value → Rows → ℕ
found j v [] = 0
found j v (row ∷ rows) = cond (same (get_or row j []) v) 1 0 + found j v rows

-- whether a value goes before the best so far, by how often each is found: it is no blank, and there is none so far, or it is found more
-- often, or as often with the smaller bytes
unfoldable pub better_by : (times best_times : ℕ) → (v best : Value) → Bool
better_by c d v b = not (is_blank v) && (is_blank b || (ltb d c || (eqb d c && bytes_before v b)))

-- whether it does in a column of a table
unfoldable pub better : (j : ℕ) → Rows → (v best : Value) → Bool
better j rows v b = better_by (found j v rows) (found j b rows) v b

-- the best after one more value
unfoldable pub next_best : (j : ℕ) → Rows → (v best : Value) → Value
next_best j rows v b = cond (better j rows v b) v b

-- the best of the values in a column of a table, from the best so far on
unfoldable pub most_from : (j : ℕ) → (all rest : Rows) → (best : Value) → Value
most_from j all [] b = b
most_from j all (row ∷ rows) b = most_from j all rows (next_best j all (get_or row j []) b)

-- m: the most often found value in a column, blank left out, the smallest bytes first on a tie; blank where there is no other
unfoldable pub most : Settings → (j : ℕ) → Rows → Value
most s j rows = most_from j rows rows (blank s)

-- how often a value of Y is found at least; that is more than half of the rows
unfoldable pub agreed_least : Settings → ℕ
agreed_least s = s.n - s.t

-- how often a value held at confidence 2 is found at least
unfoldable pub sure_least : Settings → ℕ
sure_least s = 2 * s.t + 1

-- how often one held at confidence 1 is
unfoldable pub likely_least : Settings → ℕ
likely_least s = s.t + 1

-- Y at a place: the value found at least n − t times, which is then m, else blank
unfoldable pub agreed_at : Settings → Rows → (j : ℕ) → Value
agreed_at s rows j = let m = most s j rows in cond (leb (agreed_least s) (found j m rows)) m (blank s)

-- Y
unfoldable pub agreed_vector : Settings → Rows → Vector
agreed_vector s rows = entries s.n 0 (agreed_at s rows)

-- a value and its confidence: found 2t + 1 times or more, m at 2; t + 1 to 2t times, m at 1; else blank at 0
unfoldable pub held_of : Settings → Value → (times : ℕ) → Held
held_of s v c =
    cond (is_blank v) (held_as (blank s) 0)
    (cond (leb (sure_least s) c) (held_as v 2) (cond (leb (likely_least s) c) (held_as v 1) (held_as (blank s) 0)))

-- value and confidence at a place of the last table
unfoldable pub held_at : Settings → Rows → (j : ℕ) → Held
held_at s rows j = let m = most s j rows in held_of s m (found j m rows)

-- values and confidences of all columns
unfoldable pub held_list : Settings → Rows → List Held
held_list s rows = entries s.n 0 (held_at s rows)
