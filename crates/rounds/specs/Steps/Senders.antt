-- The rows of a round's table as the program makes them. Assumes nothing: these are definitions.
use Rattle.std.specs.Prelude.{◌≡◌, Bool, true, false, cond, List, ◌⊎◌, ℕ, ◌+◌, ◌*◌, ◌<◌, eqb, length, get_or, take, Option, Some, None}
use Rattle.std.proofs.Math.Option.{some}
use Rattle.arrays.specs.Array.{in_front}
use Rattle.code.specs.Settings.{Settings, settings, check_count, value_size}
use Rattle.code.specs.Size.{vector_room, checks_room}
use Rattle.code.specs.Entry.{values_in}
use Rattle.grading.specs.Value.{Vector, blanks}
use Rattle.counting.specs.Steps.Table.{Planes, Shaped, row_in}
use Rattle.record.specs.Frame.{operand_in}
use Rattle.record.specs.Record.{told_missing, told_none}
use Rattle.repair.specs.declared.RepairAnswer.{RepairAnswer}
use Rattle.rounds.specs.Exchange.{Row}
use Rattle.record.specs.View.{frame_in}
use Rattle.record.specs.Steps.Due.{slot_past}
use Rattle.record.specs.declared.Slot.{Slot}
use Rattle.rounds.specs.declared.coded.Coded.{Coded}
use Rattle.rounds.specs.declared.senders.Last.{Last}

-- the settings of a coded vector
unfoldable pub coded_settings : Coded → Settings
coded_settings c = settings c.settings.n c.settings.t c.settings.w

-- the vector as values
unfoldable pub coded_vector : Coded → Vector
coded_vector c = values_in (coded_settings c) c.settings.n c.vector

-- the row of a slot and what it tells: the column's own is its vector, another's the vector repaired by the checks of its frame, or blanks
unfoldable pub SlotRow : Settings → (own : Vector) → (mine : Bool) → Slot → (row : Vector) → (told : ℕ) → Type 0
SlotRow s vs true x row m = (row ≡ vs) × (m ≡ 0)
SlotRow s vs false x row m = Row s vs (frame_in (check_count s * value_size s) x) row m

-- what repair answered as it is told of the sender: how many places were changed, or the mark of "none"
unfoldable pub told_of : RepairAnswer → ℕ
told_of a = cond (eqb a.answer 0) a.changed told_none

-- how many bytes the check values have
abbrev pub checks_size : Settings → ℕ
checks_size s = check_count s * value_size s

-- the row by the checks x: no answer where they are the last ones, and the array as it was; else the row in the array, and what it tells
unfoldable pub RepairedAgain : Settings → (own : Vector) → (x last_checks : List ℕ) → Option RepairAnswer → (row row_now : List ℕ) → Type 0
RepairedAgain s vs x ls None row now = (x ≡ ls) × (now ≡ row)
RepairedAgain s vs x ls (Some a) row now = (a.changed < told_missing) × Row s vs (some x) (values_in s s.n now) (told_of a)

-- the same of a slot's frame, where the checks stand in front of an array, and its checks come there
pub record SlotRepaired (s : Settings) (vs : Vector) (x : Slot) (ls ls_now : List ℕ) (answer : Option RepairAnswer) (row row_now : List ℕ) : Type 0 where
  pub long : length ls_now ≡ length ls
  pub kept : take (checks_size s) ls_now ≡ take (checks_size s) (operand_in x.bytes)
  pub found : RepairedAgain s vs (take (checks_size s) (operand_in x.bytes)) (take (checks_size s) ls) answer row row_now

-- row i of a table
abbrev pub row_of : Settings → Planes → (i : ℕ) → Vector
row_of s x i = row_in s.n (value_size s) x i

-- the last repair, by the checks in front of its array: its answer, and the row of the table that it gave
pub record LastRow (s : Settings) (vs : Vector) (last : Last) (x : Planes) : Type 0 where
  pub long : length last.checks ≡ checks_room
  pub few : last.answer.changed < told_missing
  pub row : Row s vs (some (take (checks_size s) last.checks)) (row_of s x last.at) (told_of last.answer)

-- an array for a row of blanks
pub record EmptyRow (s : Settings) (row : List ℕ) : Type 0 where
  pub long : length row ≡ vector_room
  pub blank : values_in s s.n row ≡ blanks s

-- a slot's row put into a table as row i, and what it tells: every other row is kept, and the last repair is this one, or the one before
pub record SlotPut (s : Settings) (vs : Vector) (slot : Slot) (i : ℕ) (last last_now : Last) (told : ℕ) (row_now : List ℕ) (x x_now : Planes) : Type 0 where
  pub shape : Shaped x_now
  pub here : SlotRow s vs false slot (row_of s x_now i) told
  pub others : (j : ℕ) → (j ≡ i → ⊥) → row_of s x_now j ≡ row_of s x j
  pub memo : LastRow s vs last_now x_now
  pub at : (last_now.at ≡ last.at) ⊎ (last_now.at ≡ i)
  pub empty : EmptyRow s row_now

-- a table whose rows are blanks
abbrev pub BlankRows : Settings → Planes → Type 0
BlankRows s x = (j : ℕ) → j < s.n → row_of s x j ≡ blanks s

-- a table with the rows of all slots, and what each tells
pub record SlotRows (s : Settings) (own : Vector) (number : ℕ) (slots : List Slot) (x : Planes) (told : List ℕ) : Type 0 where
  pub many : length told ≡ s.n
  pub each : (j : ℕ) → j < s.n → SlotRow s own (eqb (j + 1) number) (get_or slots j slot_past) (row_of s x j) (get_or told j 0)

-- the same, where what each row tells goes to the front of an array
unfoldable pub SlotsTold : Settings → (own : Vector) → (number : ℕ) → List Slot → Planes → (array array_now : List ℕ) → Type 0
SlotsTold s vs k slots x old now = (told : List ℕ) × SlotRows s vs k slots x told × (now ≡ in_front told old)
