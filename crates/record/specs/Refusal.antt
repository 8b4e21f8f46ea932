-- Where a call is turned down: a line for each number of the table. A call goes down the lines that concern it, and the first that
-- applies is its answer. Assumes nothing: these are definitions.
use Rattle.std.specs.Prelude.{Bool, ◌&&◌, ◌||◌, not, cond, List, [], ◌∷◌, ℕ, suc, ltb, leb, eqb, length}
use Rattle.code.specs.Settings.{Settings, settings_refusal}
use Rattle.grading.specs.Value.{Value, is_blank}
use Rattle.record.specs.Frame.{header_size, frame_size, round_in, sender_in, run_in}
use Rattle.record.specs.Record.{Who, Rec, is_taken, frame_at}

-- a line of the table: its number where it applies, else 0, which is no refusal
unfoldable pub line : (number : ℕ) → (applies : Bool) → ℕ
line n b = cond b n 0

-- the first of some lines that applies
unfoldable pub first_of : List ℕ → ℕ
first_of [] = 0
first_of (a ∷ rest) = cond (eqb a 0) (first_of rest) a

-- 1, 2 and 3, of the settings, are the code's `settings_refusal`

-- 4: own number not 1 to n
unfoldable pub number_refusal : (n number : ℕ) → ℕ
number_refusal n k = line 4 (not (leb 1 k && leb k n))

-- 5: own value not w bytes long
unfoldable pub size_refusal : (w : ℕ) → (own : Value) → ℕ
size_refusal w v = line 5 (not (eqb (length v) w))

-- 6: own value blank
unfoldable pub blank_refusal : (own : Value) → ℕ
blank_refusal v = line 6 (is_blank v)

-- 7: round not 1, 2 or 3
unfoldable pub round_refusal : (round : ℕ) → ℕ
round_refusal m = line 7 (not (leb 1 m && leb m 3))

-- 8: slot not 1 to n, or the column's own
unfoldable pub slot_refusal : (n number slot : ℕ) → ℕ
slot_refusal n own k = line 8 (not (leb 1 k && leb k n) || eqb k own)

-- 9: fewer than 4 bytes
unfoldable pub short_refusal : (bytes : List ℕ) → ℕ
short_refusal bs = line 9 (ltb (length bs) header_size)

-- 10: unknown command
unfoldable pub command_refusal : (bytes : List ℕ) → ℕ
command_refusal bs = line 10 (eqb (round_in bs) 0)

-- 11: whole length not the table's
unfoldable pub length_refusal : Settings → (bytes : List ℕ) → ℕ
length_refusal s bs = line 11 (not (eqb (length bs) (frame_size s (round_in bs))))

-- 12: sender byte is not the slot
unfoldable pub sender_refusal : (slot : ℕ) → (bytes : List ℕ) → ℕ
sender_refusal k bs = line 12 (not (eqb (sender_in bs) k))

-- 13: other run number
unfoldable pub run_refusal : (run : ℕ) → (bytes : List ℕ) → ℕ
run_refusal run bs = line 13 (not (eqb (run_in bs) run))

-- 14: the frame's round is closed, or two ahead
unfoldable pub other_round_refusal : (round its_round : ℕ) → ℕ
other_round_refusal m p = line 14 (ltb p m || ltb (suc m) p)

-- 15: this sender's frame of that round is there already, taken in its round or early
unfoldable pub repeated_refusal : (there : Bool) → ℕ
repeated_refusal there = line 15 there

-- 16: lent buffer shorter than the frame
unfoldable pub room_refusal : Settings → (round room : ℕ) → ℕ
room_refusal s m room = line 16 (ltb room (frame_size s m))

-- 17: round is not 4
unfoldable pub unfinished_refusal : (round : ℕ) → ℕ
unfinished_refusal m = line 17 (not (eqb m 4))

-- opening: 1 to 6
unfoldable pub open_refusal : Settings → (number : ℕ) → (own : Value) → ℕ
open_refusal s k v = first_of (settings_refusal s ∷ number_refusal s.n k ∷ size_refusal s.w v ∷ blank_refusal v ∷ [])

-- the record, again at each call: 1 to 4, 6
unfoldable pub record_refusal : Who → ℕ
record_refusal w = first_of (settings_refusal w.settings ∷ number_refusal w.settings.n w.number ∷ blank_refusal w.own ∷ [])

-- a frame, whose sender's frame of that round is there already or not: 9 to 15
unfoldable pub frame_refusal : Settings → (run round slot : ℕ) → (there : Bool) → (bytes : List ℕ) → ℕ
frame_refusal s run m k there bs =
    first_of
    (short_refusal bs ∷ command_refusal bs ∷ length_refusal s bs ∷ sender_refusal k bs ∷ run_refusal run bs ∷ other_round_refusal m (round_in bs)
    ∷ repeated_refusal there ∷ [])

-- taking a frame: the record's, 7, 8, the frame's
unfoldable pub take_refusal : Rec → (slot : ℕ) → (bytes : List ℕ) → ℕ
take_refusal r k bs =
    first_of
    (record_refusal r.who ∷ round_refusal r.round ∷ slot_refusal r.who.settings.n r.who.number k
    ∷ frame_refusal r.who.settings r.who.run r.round k (is_taken (frame_at r (round_in bs) k)) bs ∷ [])

-- sending: the record's, 7, 16
unfoldable pub send_refusal : Rec → (room : ℕ) → ℕ
send_refusal r room = first_of (record_refusal r.who ∷ round_refusal r.round ∷ room_refusal r.who.settings r.round room ∷ [])

-- closing: the record's, 7
unfoldable pub close_refusal : Rec → ℕ
close_refusal r = first_of (record_refusal r.who ∷ round_refusal r.round ∷ [])

-- asking for the result: the record's, 17
unfoldable pub ask_refusal : Rec → ℕ
ask_refusal r = first_of (record_refusal r.who ∷ unfinished_refusal r.round ∷ [])

-- the refusals that are the frame's fault, which are counted: 9 to 15
unfoldable pub frame_fault : ℕ → Bool
frame_fault n = leb 9 n && leb n 15
