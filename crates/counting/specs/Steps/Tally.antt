-- Values counted in all columns at once: what is kept of a column while the rows are gone through, and when it is settled. Assumes
-- nothing: these are definitions.
use Rattle.std.specs.Prelude.{◌≡◌, true, false, cond, ◌&&◌, List, ℕ, ◌+◌, ◌*◌, ◌≤◌, ◌<◌, leb, eqb, length, get_or, drop, replicate}
use Rattle.code.specs.Settings.{settings}
use Rattle.code.specs.Size.{most_columns}
use Rattle.code.specs.Vector.{same}
use Rattle.grading.specs.Value.{Value, Rows, is_blank}
use Rattle.grading.specs.Count.{found, most, most_from}
use Rattle.counting.specs.Steps.Table.{Planes, value_in, rows_in}
use Rattle.counting.specs.declared.leaders.Counted.{Counted}
use Rattle.counting.specs.declared.leaders.Standing.{Standing}

-- marks of columns after one more plane of two rows: a mark stays 0 where the rows have the same byte
pub record Marked (a b marks marks_now : List ℕ) : Type 0 where
  pub long : length marks_now ≡ most_columns
  pub each : (k : ℕ) → k < most_columns → eqb (get_or marks_now k 0) 0 ≡ (eqb (get_or marks k 0) 0 && eqb (get_or a k 0) (get_or b k 0))

-- the columns in which two rows have the same value are marked 0
abbrev pub MarksSame : (w : ℕ) → Planes → (i c : ℕ) → List ℕ → Type 0
MarksSame w x i c marks = (k : ℕ) → k < most_columns → eqb (get_or marks k 0) 0 ≡ same (value_in w x i k) (value_in w x c k)

-- counts of columns after one more row: those that are marked 0 count one more
pub record CountedOn (marks times times_now : List ℕ) : Type 0 where
  pub long : length times_now ≡ most_columns
  pub each : (k : ℕ) → k < most_columns → get_or times_now k 0 ≡ get_or times k 0 + cond (eqb (get_or marks k 0) 0) 1 0

-- how often the value of row c is found in each column
abbrev pub FoundInColumns : (n w : ℕ) → Planes → (c : ℕ) → List ℕ → Type 0
FoundInColumns n w x c times = (k : ℕ) → k < n → get_or times k 0 ≡ found k (value_in w x c k) (rows_in n w x)

-- how often a value is found in a column; a blank is not counted
unfoldable pub counted : (k : ℕ) → Value → Rows → ℕ
counted k v rows = cond (is_blank v) 0 (found k v rows)

-- m of a column: of the settings only w has a part in it
unfoldable pub best_in : (n w : ℕ) → Planes → (k : ℕ) → Value
best_in n w x k = most (settings 0 0 w) k (rows_in n w x)

-- the value that leads a column, by its row and how often it is found: blank where that is 0, which no value's count is
unfoldable pub leading : (w : ℕ) → Planes → (k row times : ℕ) → Value
leading w x k row times = cond (eqb times 0) (replicate w 0) (value_in w x row k)

-- a column that is live after c rows: from the value that leads it on, the rows that are left lead to m
pub record Live (n w c : ℕ) (x : Planes) (k row times : ℕ) : Type 0 where
  pub inside : row < n
  pub count : times ≡ counted k (leading w x k row times) (rows_in n w x)
  pub rest : most_from k (rows_in n w x) (drop c (rows_in n w x)) (leading w x k row times) ≡ best_in n w x k

-- a column that is settled for a count: the value that leads it is m, if it is found so often, and else m is found less often too
pub record Settled (n w least : ℕ) (x : Planes) (k row times : ℕ) : Type 0 where
  pub inside : row < n
  pub value : least ≤ times → value_in w x row k ≡ best_in n w x k
  pub count : least ≤ times → times ≡ counted k (best_in n w x k) (rows_in n w x)
  pub seldom : times < least → counted k (best_in n w x k) (rows_in n w x) < least

-- a column before any row: no value leads it
abbrev pub unweighed : Standing
unweighed = record { leads = record { row = 0; times = 0 }; settled = false }

-- a column after c rows, settled or live
pub record Weighed (n w least c : ℕ) (x : Planes) (k : ℕ) (s : Standing) : Type 0 where
  pub going : s.settled ≡ false → Live n w c x k s.leads.row s.leads.times
  pub stays : s.settled ≡ true → Settled n w least x k s.leads.row s.leads.times

-- all n columns
abbrev pub AllWeighed : (n w least c : ℕ) → Planes → List Standing → Type 0
AllWeighed n w least c x standings = (k : ℕ) → k < n → Weighed n w least c x k (get_or standings k unweighed)

-- all n of them are settled
abbrev pub AllSettled : (n w least : ℕ) → Planes → List Standing → Type 0
AllSettled n w least x standings =
    (k : ℕ) → k < n → let v = (get_or standings k unweighed).leads in Settled n w least x k v.row v.times

-- the value that leads a column, blank where it is found fewer than `least` times
unfoldable pub value_from : (w least : ℕ) → Planes → (k : ℕ) → Counted → Value
value_from w least x k v = cond (leb least v.times) (value_in w x v.row k) (replicate w 0)

-- the confidence in a value that is found so often
unfoldable pub confidence_by : (t times : ℕ) → ℕ
confidence_by t times = cond (leb (2 * t + 1) times) 2 (cond (leb (t + 1) times) 1 0)
