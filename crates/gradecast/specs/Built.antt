-- An exchange among columns as built: lists of calls on the program's own record, whose every step is what the promise of the call says.
-- Assumes nothing: these are definitions.
use Rattle.std.specs.Prelude.{◌≡◌, true, List, [], ◌∷◌, map, ℕ, ◌+◌, ◌-◌, ◌≤◌, length, get_or, replicate}
use Rattle.code.specs.Settings.{Settings}
use Rattle.code.specs.Size.{most_columns}
use Rattle.grading.specs.Value.{Value}
use Rattle.grading.specs.Held.{Held, held_in}
use Rattle.grading.specs.Promise.{all_different}
use Rattle.column.specs.Call.{Call, taking, sending, closing, asking}
use Rattle.record.specs.View.{view}
use Rattle.record.specs.Stored.{empty_slots}
use Rattle.column.specs.Entry.{OpenSays, TakeSays, SendSays, CloseSays, ResultSays}
use Rattle.record.specs.declared.Column.{Column}
use Rattle.record.specs.declared.Holdings.{Holdings}
use Rattle.gradecast.specs.Promise.{Among, Good, numbers, none_held, Fair, bad_count, FewTold, Agree}

-- a call on a record, its answer and the record after it, refused or not: what `take`, `send`, `close` and `result` say; `send` and
-- `result` give no record back, so that the one lent stays
pub data BuiltStep : Column → Call → (answer : ℕ) → Column → Type 0 where
  takes : (c d : Column) (slot answer : ℕ) (frame : List ℕ) → TakeSays c slot frame answer d → BuiltStep c (taking slot frame) answer d
  sends :
      (c : Column) (answer : ℕ) (buffer buffer_now : List ℕ) → SendSays c buffer answer buffer_now → BuiltStep c (sending (length buffer)) answer c
  closes : (c d : Column) (answer : ℕ) → CloseSays c answer d → BuiltStep c closing answer d
  asks : (c : Column) (h : Holdings) → ResultSays c h → BuiltStep c asking h.answer c

-- a list of calls and their answers, each on the record as the call before left it
pub data BuiltRun : Column → List Call → (answers : List ℕ) → Column → Type 0 where
  no_step : (c : Column) → BuiltRun c [] [] c
  one_step :
      (c d e : Column) (x : Call) (xs : List Call) (answer : ℕ) (answers : List ℕ) → BuiltStep c x answer d → BuiltRun d xs answers e →
      BuiltRun c (x ∷ xs) (answer ∷ answers) e

-- a good column as built: its number, the own value it was opened with, the record that `open` gave, its list of calls, what they
-- answered, and the record after them
pub record Built : Type 0 where
  pub number : ℕ
  pub own : Value
  pub first : Column
  pub calls : List Call
  pub answers : List ℕ
  pub last : Column

-- opened without refusal, and the calls
pub record BuiltRan (s : Settings) (run : ℕ) (b : Built) : Type 0 where
  pub opening : OpenSays s.n s.t s.w b.number run b.own 0 b.first
  pub steps : BuiltRun b.first b.calls b.answers b.last

-- the same column in the definitions' run of its list
unfoldable pub defined : Built → Good
defined b = record { number = b.number; own = b.own; calls = b.calls; last = view b.last }

-- the conditions of demand 3, of columns as built; the frames that are handed over are those of the definitions' run of each list
pub record BuiltConditions (s : Settings) (run : ℕ) (bs : List Built) : Type 0 where
  pub different : all_different (numbers (map defined bs)) ≡ true
  pub enough : s.n ≤ length bs + s.t
  pub ran : (a : Built) → Among a bs → BuiltRan s run a
  pub fair : (a b : Built) → Among a bs → Among b bs → (a.number ≡ b.number → ⊥) → Fair s run (defined a) (defined b)

-- the value and confidence about a column that `result` answered
unfoldable pub answered : Settings → Holdings → (column : ℕ) → Held
answered s h k = get_or (held_in s h.values h.confidences) (k - 1) none_held

-- demand 3 of the calls as built: `result` refuses none of two good columns that have finished, and what it answers of both agrees
unfoldable pub BuiltGradecast : Type 0
BuiltGradecast =
    (s : Settings) (run : ℕ) (bs : List Built) (g h x : Built) → BuiltConditions s run bs → Among g bs → Among h bs → Among x bs →
    g.last.round ≡ 4 → h.last.round ≡ 4 → (p q : Holdings) → ResultSays g.last p → ResultSays h.last q →
    (p.answer ≡ 0) × (q.answer ≡ 0) × Agree s.n (answered s p) (answered s q) x.number x.own

-- what rounds two and three told, of the calls as built: `result` does not refuse a good column that has finished, and what it answers is
-- 0 of itself, and of a good one no mark, and at most as many places as there are bad columns
unfoldable pub BuiltTold : Type 0
BuiltTold =
    (s : Settings) (run : ℕ) (bs : List Built) (g x : Built) → BuiltConditions s run bs → Among g bs → Among x bs → g.last.round ≡ 4 →
    (p : Holdings) → ResultSays g.last p →
    (p.answer ≡ 0) × FewTold (bad_count s (map defined bs)) p.told_two g.number x.number
    × FewTold (bad_count s (map defined bs)) p.told_three g.number x.number

-- a round tells nothing before it is closed: until then its list is zeros to the byte
unfoldable pub NothingTold : Type 0
NothingTold =
    (s : Settings) (run : ℕ) (b : Built) → BuiltRan s run b →
    (b.last.round ≤ 2 → b.last.found.told_two ≡ replicate most_columns 0) × (b.last.round ≤ 3 → b.last.found.told_three ≡ replicate most_columns 0)

-- in round three nothing follows: from then on the early slots of a column are empty to the byte, and at the end all of its slots are
unfoldable pub NothingFollows : Type 0
NothingFollows =
    (s : Settings) (run : ℕ) (b : Built) → BuiltRan s run b →
    (3 ≤ b.last.round → b.last.early ≡ empty_slots) × (4 ≤ b.last.round → b.last.slots ≡ empty_slots)
