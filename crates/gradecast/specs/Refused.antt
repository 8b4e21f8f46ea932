-- Whose frames were refused: what the counts of a column say after a list of calls, as built. Each statement is a type, and proofs/ has
-- its proof. Assumes nothing.
use Rattle.std.specs.Prelude.{◌≡◌, Bool, false, cond, ◌&&◌, List, [], ◌∷◌, ◌⊎◌, ℕ, ◌+◌, ◌≤◌, ◌<◌, min, eqb, length}
use Rattle.code.specs.Settings.{Settings}
use Rattle.record.specs.Record.{count_top, count_at}
use Rattle.record.specs.Refusal.{frame_fault}
use Rattle.record.specs.declared.Column.{Column}
use Rattle.column.specs.Call.{Call, taking, sending, closing, asking}
use Rattle.gradecast.specs.Built.{BuiltRun, Built, BuiltRan}

-- how many of the answers are 9 to 15, a frame's fault
unfoldable pub faults : (answers : List ℕ) → ℕ
faults [] = 0
faults (a ∷ rest) = cond (frame_fault a) 1 0 + faults rest

-- whether a call hands in a frame in a slot
unfoldable pub hands_in : (slot : ℕ) → Call → Bool
hands_in k (taking j bytes) = eqb j k
hands_in k (sending room) = false
hands_in k closing = false
hands_in k asking = false

-- how many of the answers to frames of a slot are 9 to 15
unfoldable pub faults_of : (slot : ℕ) → List Call → (answers : List ℕ) → ℕ
faults_of k [] answers = 0
faults_of k (x ∷ xs) [] = 0
faults_of k (x ∷ xs) (a ∷ answers) = cond (hands_in k x && frame_fault a) 1 0 + faults_of k xs answers

-- the sum of counts
unfoldable pub sum : List ℕ → ℕ
sum [] = 0
sum (c ∷ cs) = c + sum cs

-- the count of a slot of the record
abbrev pub refused_of : Column → (slot : ℕ) → ℕ
refused_of c k = count_at c.refused k

-- none of n slots' counts has reached its top
abbrev pub NoneAtTop : (n : ℕ) → Column → Type 0
NoneAtTop n c = (k : ℕ) → 1 ≤ k → k ≤ n → refused_of c k < count_top

-- what the counts of a column with this number say after its calls: each is the number of the answers 9 to 15 to frames of its slot, or the
-- top where these are more, so that one at its top was reached by at least so many refusals; those of the own slot, and of slots that
-- there are not, are 0; and as long as none has reached its top, their sum is the number of all answers 9 to 15
pub record CountsSay (s : Settings) (number : ℕ) (calls : List Call) (answers : List ℕ) (c : Column) : Type 0 where
  pub by_slot : (k : ℕ) → refused_of c k ≡ min (faults_of k calls answers) count_top
  pub nobody : (k : ℕ) → (k ≡ number) ⊎ (s.n < k) → refused_of c k ≡ 0
  pub total : NoneAtTop s.n c → sum c.refused ≡ faults answers

-- from an opening on, of the calls as built
unfoldable pub RefusedCounted : Type 0
RefusedCounted = (s : Settings) (run : ℕ) (b : Built) → BuiltRan s run b → CountsSay s b.number b.calls b.answers b.last

-- a list of fewer calls than a count can count brings none to its top
unfoldable pub ShortBelowTop : Type 0
ShortBelowTop = (s : Settings) (run : ℕ) (b : Built) → BuiltRan s run b → length b.calls < count_top → NoneAtTop s.n b.last

-- a count at its top stays, whatever is called, and from whatever record on
unfoldable pub TopStays : Type 0
TopStays =
    (c d : Column) (calls : List Call) (answers : List ℕ) → BuiltRun c calls answers d → (k : ℕ) → refused_of c k ≡ count_top →
    refused_of d k ≡ count_top
