-- What is promised of an exchange among columns. Each statement is a type, and proofs/ has its proof. Assumes nothing.
use Rattle.std.specs.Prelude.{◌≡◌, true, List, [], ◌∷◌, map, ℕ, ◌+◌, ◌-◌, ◌≤◌, length, get_or}
use Rattle.code.specs.Settings.{Settings}
use Rattle.grading.specs.Value.{Value}
use Rattle.grading.specs.Held.{Held, held_as}
use Rattle.grading.specs.Promise.{all_different, unlisted, apart}
use Rattle.record.specs.Frame.{header_size, run_in}
use Rattle.record.specs.Record.{Rec, told_missing, told_none, opened, InTime}
use Rattle.record.specs.Refusal.{open_refusal}
use Rattle.column.specs.Call.{Call, taking, Run, Passes, FrameOf}

-- one of a list
pub data Among {A : Type 0} (x : A) : List A → Type 0 where
  first : (xs : List A) → Among x (x ∷ xs)
  other : (y : A) (xs : List A) → Among x xs → Among x (y ∷ xs)

-- a good column: its number, the own value it was opened with, its list of calls, and the record after them
pub record Good : Type 0 where
  pub number : ℕ
  pub own : Value
  pub calls : List Call
  pub last : Rec

-- the numbers of good columns
unfoldable pub numbers : List Good → List ℕ
numbers gs = map (λ g. g.number) gs

-- an opening that is not refused, and a list of calls that leads to the last record
pub record Ran (s : Settings) (run : ℕ) (g : Good) : Type 0 where
  pub opens : open_refusal s g.number g.own ≡ 0
  pub leads : Run (opened s g.number run g.own) g.calls g.last

-- the records that a column's list passes through, each with the calls still to come
abbrev pub On : Settings → (run : ℕ) → Good → (at : Rec) → (rest : List Call) → Type 0
On s run g at rest = Passes (opened s g.number run g.own) g.calls at rest

-- the frame of a column's round, which its list reaches
pub record RoundFrame (s : Settings) (run : ℕ) (sender : Good) (round : ℕ) (bytes : List ℕ) : Type 0 where
  pub at : Rec
  pub rest : List Call
  pub on : On s run sender at rest
  pub in_round : at.round ≡ round
  pub frame : FrameOf at bytes

-- handed: the bytes stand in a taking call of the reader's list, with the sender's number as slot
pub record Handed (s : Settings) (run : ℕ) (reader sender : Good) (bytes : List ℕ) : Type 0 where
  pub at : Rec
  pub rest : List Call
  pub on : On s run reader at (taking sender.number bytes ∷ rest)

-- the sender's frame of each round is handed to the reader in time, while it is in that round or in the one before, and nothing else under
-- its slot with that run number
pub record Fair (s : Settings) (run : ℕ) (reader sender : Good) : Type 0 where
  pub sends :
      (round : ℕ) → 1 ≤ round → round ≤ 3 →
      (bytes : List ℕ) × RoundFrame s run sender round bytes × ((h : Handed s run reader sender bytes) × InTime h.at.round round)
  pub only :
      (bytes : List ℕ) → Handed s run reader sender bytes → header_size ≤ length bytes → run_in bytes ≡ run →
      (its_round : ℕ) × RoundFrame s run sender its_round bytes

-- the conditions of demand 3: good columns with numbers of their own, at most t numbers left over, each of which ran, and whose frames
-- reach each other
pub record Conditions (s : Settings) (run : ℕ) (gs : List Good) : Type 0 where
  pub different : all_different (numbers gs) ≡ true
  pub enough : s.n ≤ length gs + s.t
  pub ran : (a : Good) → Among a gs → Ran s run a
  pub fair : (a b : Good) → Among a gs → Among b gs → (a.number ≡ b.number → ⊥) → Fair s run a b

-- what stands for a column that there is not
unfoldable pub none_held : Held
none_held = held_as [] 0

-- the value and confidence that a good column holds about a column
unfoldable pub holds : Good → (column : ℕ) → Held
holds g k = get_or g.last.found.held (k - 1) none_held

-- what two good columns hold about columns 1 to n: confidences at most one apart, equal values where both are above 0, and about a good
-- column with this number both hold its own value at confidence 2
pub record Agree (n : ℕ) (g h : (column : ℕ) → Held) (number : ℕ) (own : Value) : Type 0 where
  pub near : (k : ℕ) → 1 ≤ k → k ≤ n → apart (g k).confidence (h k).confidence ≤ 1
  pub values : (k : ℕ) → 1 ≤ k → k ≤ n → 1 ≤ (g k).confidence → 1 ≤ (h k).confidence → (g k).value ≡ (h k).value
  pub own_value : (g number ≡ held_as own 2) × (h number ≡ held_as own 2)

-- the count of bad columns: the numbers from 1 to n that no good column has
unfoldable pub bad_count : Settings → List Good → ℕ
bad_count s gs = unlisted (numbers gs) s.n 1

-- what a round told a column of itself, 0, and of a sender: a number of places, no mark, and at most so many. A list that has nothing of
-- one would say that its frame was missing; that it is no mark follows where so many are fewer than 254
pub record FewTold (most : ℕ) (told : List ℕ) (own sender : ℕ) : Type 0 where
  pub itself : get_or told (own - 1) told_missing ≡ 0
  pub not_missing : get_or told (sender - 1) told_missing ≡ told_missing → ⊥
  pub not_none : get_or told (sender - 1) told_missing ≡ told_none → ⊥
  pub few : get_or told (sender - 1) told_missing ≤ most

-- what rounds two and three told a good column that has finished of itself, and of a good one: at most as many places as there are bad
-- columns; the two may also be one and the same
unfoldable pub GoodTold : Type 0
GoodTold =
    (s : Settings) (run : ℕ) (gs : List Good) (g x : Good) → Conditions s run gs → Among g gs → Among x gs → g.last.round ≡ 4 →
    FewTold (bad_count s gs) g.last.found.told_two g.number x.number
    × FewTold (bad_count s gs) g.last.found.told_three g.number x.number

-- demand 3: any two good columns that have finished agree; two may also be one and the same
unfoldable pub Gradecast : Type 0
Gradecast =
    (s : Settings) (run : ℕ) (gs : List Good) (g h x : Good) → Conditions s run gs → Among g gs → Among h gs → Among x gs →
    g.last.round ≡ 4 → h.last.round ≡ 4 → Agree s.n (holds g) (holds h) x.number x.own
