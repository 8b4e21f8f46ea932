-- What is promised of counting over tables of rows, however the rows came. The statement is a type, and proofs/ has its proof. Assumes
-- nothing.
use Rattle.std.specs.Prelude.{◌≡◌, Bool, true, false, ◌&&◌, ◌||◌, not, cond, List, [], ◌∷◌, ℕ, zero, suc, ◌+◌, ◌*◌, ◌-◌, ◌≤◌, ◌<◌, eqb, length, get_or}
use Rattle.code.specs.Settings.{Settings}
use Rattle.grading.specs.Value.{Value, Vector, Rows, is_blank}
use Rattle.grading.specs.Held.{held_as}
use Rattle.grading.specs.Count.{agreed_at, held_at}

-- whether a number is in a list
unfoldable pub member : ℕ → List ℕ → Bool
member v [] = false
member v (x ∷ xs) = eqb x v || member v xs

-- numbers of their own: no two are the same
unfoldable pub all_different : List ℕ → Bool
all_different [] = true
all_different (x ∷ xs) = not (member x xs) && all_different xs

-- how many of the numbers from i on, so many of them, are not in a list
unfoldable pub unlisted : List ℕ → (many i : ℕ) → ℕ
unlisted ns zero i = 0
unlisted ns (suc l) i = cond (member i ns) 0 1 + unlisted ns l (suc i)

-- how far two confidences are apart
unfoldable pub apart : (a b : ℕ) → ℕ
apart a b = (a - b) + (b - a)

-- the numbers of the good columns: different ones of 1 to n, and all but t
pub record Numbered (s : Settings) (ns : List ℕ) : Type 0 where
  pub different : all_different ns ≡ true
  pub inside : (m : ℕ) → member m ns ≡ true → (1 ≤ m) × (m ≤ s.n)
  pub many : s.n ≤ length ns + s.t
  pub enough : 3 * s.t + 1 ≤ s.n

-- a table in which a good sender's row is that sender's vector
pub record Carries (s : Settings) (ns : List ℕ) (said : ℕ → Vector) (rows : Rows) : Type 0 where
  pub many : length rows ≡ s.n
  pub row : (m : ℕ) → member m ns ≡ true → get_or rows (m - 1) [] ≡ said m

-- Y of a column, from a table X with the good columns' V as rows
pub record AgreedFrom (s : Settings) (ns : List ℕ) (heard : ℕ → Vector) (ys : Vector) : Type 0 where
  pub rows : Rows
  pub carries : Carries s ns heard rows
  pub entry : (j : ℕ) → j < s.n → get_or ys j [] ≡ agreed_at s rows j

-- good columns after round two: own values that are no blanks, V of each with every good column's own value, Y of each from V of all
pub record Second (s : Settings) (ns : List ℕ) (own : ℕ → Value) (heard agreed : ℕ → Vector) : Type 0 where
  pub filled : (m : ℕ) → member m ns ≡ true → is_blank (own m) ≡ false
  pub heard_own : (m : ℕ) → member m ns ≡ true → (k : ℕ) → member k ns ≡ true → get_or (heard m) (k - 1) [] ≡ own k
  pub agreed_from : (m : ℕ) → member m ns ≡ true → AgreedFrom s ns heard (agreed m)

-- what two tables Z with the good columns' Y as rows give
pub record Graded (s : Settings) (ns : List ℕ) (own : ℕ → Value) (xs ys : Rows) : Type 0 where
  pub near : (j : ℕ) → j < s.n → apart (held_at s xs j).confidence (held_at s ys j).confidence ≤ 1
  pub values : (j : ℕ) → j < s.n → 1 ≤ (held_at s xs j).confidence → 1 ≤ (held_at s ys j).confidence → (held_at s xs j).value ≡ (held_at s ys j).value
  pub own_held : (m : ℕ) → member m ns ≡ true → held_at s xs (m - 1) ≡ held_as (own m) 2

-- however the rows came: two tables Z of good columns, whose good rows are the good columns' Y, are graded alike
unfoldable pub GradesAgree : Type 0
GradesAgree =
    (s : Settings) (ns : List ℕ) (own : ℕ → Value) (heard agreed : ℕ → Vector) (xs ys : Rows) → Numbered s ns → Second s ns own heard agreed →
    Carries s ns agreed xs → Carries s ns agreed ys → Graded s ns own xs ys
