-- A column's record: plain data with its round. Assumes nothing: these are definitions.
use Rattle.std.specs.Prelude.{◌≡◌, Bool, true, false, cond, not, List, [], ◌⊎◌, ℕ, zero, suc, ◌-◌, ltb, eqb, get_or, set, replicate}
use Rattle.std.proofs.Math.Option.{Option, none, some}
use Rattle.code.specs.Settings.{Settings}
use Rattle.grading.specs.Value.{Value, Vector}
use Rattle.grading.specs.Held.{Held}

-- who a column is: its settings, own number, run number and own value
pub record Who : Type 0 where
  pub settings : Settings
  pub number : ℕ
  pub run : ℕ
  pub own : Value

-- the same from its parts
unfoldable pub who_as : Settings → (number run : ℕ) → (own : Value) → Who
who_as s k run v = record { settings = s; number = k; run = run; own = v }

-- What a round of checks told of a sender is how many places were changed when its row was repaired, or one of two marks, which are no
-- numbers of places.
-- the mark of a missing frame
abbrev pub told_missing : ℕ
told_missing = 254

-- the mark of "none"
abbrev pub told_none : ℕ
told_none = 255

-- what a column has found: V from round two on, Y from round three on, values and confidences in round four; and what round two told of
-- each sender, from round three on, and round three, in round four
pub record Found : Type 0 where
  pub heard : Vector
  pub agreed : Vector
  pub held : List Held
  pub told_two : List ℕ
  pub told_three : List ℕ

-- the same from its parts
unfoldable pub found_as : (heard agreed : Vector) → List Held → (told_two told_three : List ℕ) → Found
found_as vs ys hs two three = record { heard = vs; agreed = ys; held = hs; told_two = two; told_three = three }

-- nothing found yet
unfoldable pub nothing_found : Found
nothing_found = found_as [] [] [] [] []

-- the record: who the column is; what came in, by slot, as operands: the frames of this round, and those of the round that follows, which
-- came early; what it has found; its round, 1 to 4, where 4 is finished; and how many frames it has refused, by the slot that they came in
pub record Rec : Type 0 where
  pub who : Who
  pub frames : List (Option (List ℕ))
  pub early : List (Option (List ℕ))
  pub found : Found
  pub round : ℕ
  pub refused : List ℕ

-- no frame there, in any of n slots
unfoldable pub no_frames : Settings → List (Option (List ℕ))
no_frames s = replicate s.n none

-- nothing refused yet, of any of n slots
unfoldable pub none_refused : Settings → List ℕ
none_refused s = replicate s.n 0

-- a record as opening makes it: round one, and every count of refused frames 0
unfoldable pub opened : Settings → (number run : ℕ) → (own : Value) → Rec
opened s k run v =
    record { who = who_as s k run v; frames = no_frames s; early = no_frames s; found = nothing_found; round = 1; refused = none_refused s }

-- the frame in a slot, if there is one; slots count from 1
unfoldable pub taken_at : List (Option (List ℕ)) → (slot : ℕ) → Option (List ℕ)
taken_at fs zero = none
taken_at fs (suc k) = get_or fs k none

-- whether there is one
unfoldable pub is_taken : Option (List ℕ) → Bool
is_taken none = false
is_taken (some x) = true

-- the frames of a round that are there: of this round, of the one that follows, and of no other
unfoldable pub frames_of : Rec → (round : ℕ) → List (Option (List ℕ))
frames_of r m = cond (eqb m r.round) r.frames (cond (eqb m (suc r.round)) r.early [])

-- a sender's frame of a round, if it is there
unfoldable pub frame_at : Rec → (round slot : ℕ) → Option (List ℕ)
frame_at r m k = taken_at (frames_of r m) k

-- a frame of a round comes in time: the reader is in that round, or in the one before
abbrev pub InTime : (reader its_round : ℕ) → Type 0
InTime m p = (p ≡ m) ⊎ (p ≡ suc m)

-- the frame of a sender that counts in this round, whether it came in it or early
unfoldable pub counted : Rec → (slot : ℕ) → Option (List ℕ)
counted r k = taken_at r.frames k

-- the top of a count, which has 32 bits
abbrev pub count_top : ℕ
count_top = 4294967295

-- one more in a count that stays at its top
unfoldable pub raised : ℕ → ℕ
raised n = cond (ltb n count_top) (suc n) n

-- the count of a slot; slots count from 1
unfoldable pub count_at : (counts : List ℕ) → (slot : ℕ) → ℕ
count_at cs zero = 0
count_at cs (suc k) = get_or cs k 0

-- counts by slot with one more in this one
unfoldable pub one_more : (counts : List ℕ) → (slot : ℕ) → List ℕ
one_more cs k = set cs (k - 1) (raised (count_at cs k))

-- the record with one more frame refused, that came in this slot
unfoldable pub with_refused : Rec → (slot : ℕ) → Rec
with_refused r k =
    record { who = r.who; frames = r.frames; early = r.early; found = r.found; round = r.round; refused = one_more r.refused k }

-- frames by slot with the operand of one more, if it is one of theirs
unfoldable pub with_operand : (theirs : Bool) → List (Option (List ℕ)) → (slot : ℕ) → (operand : List ℕ) → List (Option (List ℕ))
with_operand b fs k x = cond b (set fs (k - 1) (some x)) fs

-- the record with the operand of a frame of a round, this one or the one that follows, that came in this slot
unfoldable pub with_frame : Rec → (round slot : ℕ) → (operand : List ℕ) → Rec
with_frame r m k x =
    record {
      who = r.who;
      frames = with_operand (eqb m r.round) r.frames k x;
      early = with_operand (not (eqb m r.round)) r.early k x;
      found = r.found;
      round = r.round;
      refused = r.refused;
    }

-- the record one round on, with what it has found then: frames that came early count, and none has come early yet
unfoldable pub next_round : Rec → Found → Rec
next_round r f =
    record { who = r.who; frames = r.early; early = no_frames r.who.settings; found = f; round = suc r.round; refused = r.refused }
