-- Every byte of the record that the program holds: as opening makes it, with one more frame, with one more frame refused, one round on.
-- Bytes that hold nothing are 0. Assumes nothing: these are definitions.
use Rattle.std.specs.Prelude.{Bool, cond, not, List, [], ℕ, ◌+◌, ◌-◌, eqb, set, replicate}
use Rattle.arrays.specs.Array.{padded}
use Rattle.code.specs.Size.{most_columns, value_room, vector_room}
use Rattle.code.specs.Vector.{glued}
use Rattle.grading.specs.Held.{held_values, held_confidences}
use Rattle.record.specs.Frame.{longest_frame, round_in}
use Rattle.record.specs.Record.{Found, one_more}
use Rattle.record.specs.Refusal.{frame_fault}
use Rattle.record.specs.declared.Identity.{Identity}
use Rattle.record.specs.declared.Slot.{Slot}
use Rattle.record.specs.declared.Findings.{Findings}
use Rattle.record.specs.declared.Column.{Column}
use Rattle.record.specs.declared.Holdings.{Holdings}

-- an empty slot: every byte is 0
unfoldable pub no_slot : Slot
no_slot = record { taken = 0; bytes = replicate longest_frame 0 }

-- slots in which nothing came
abbrev pub empty_slots : List Slot
empty_slots = replicate most_columns no_slot

-- counts of refused frames, of which there is none
abbrev pub empty_counts : List ℕ
empty_counts = replicate most_columns 0

-- a slot with a frame: zeros behind it
unfoldable pub frame_slot : (frame : List ℕ) → Slot
frame_slot bs = record { taken = 1; bytes = padded longest_frame bs }

-- nothing found: every byte is 0
unfoldable pub no_findings : Findings
no_findings =
    record {
      heard = replicate vector_room 0;
      agreed = replicate vector_room 0;
      values = replicate vector_room 0;
      confidences = replicate most_columns 0;
      told_two = replicate most_columns 0;
      told_three = replicate most_columns 0;
    }

-- nothing to answer a request for the result with: every byte is 0 but those of the refusal's number
unfoldable pub no_holdings : (answer : ℕ) → Holdings
no_holdings a =
    record {
      answer = a;
      values = replicate vector_room 0;
      confidences = replicate most_columns 0;
      told_two = replicate most_columns 0;
      told_three = replicate most_columns 0;
    }

-- who a column is: zeros behind its own value
unfoldable pub identity : (n t w number run : ℕ) → (own : List ℕ) → Identity
identity n t w k run v = record { n = n; t = t; w = w; number = k; run = run; own = padded value_room v }

-- no column: every byte is 0, so that each call on it is refused
unfoldable pub no_column : Column
no_column =
    record { who = identity 0 0 0 0 0 []; slots = empty_slots; early = empty_slots; found = no_findings; round = 0; refused = empty_counts }

-- a column as opening makes it
unfoldable pub opened_column : Identity → Column
opened_column i = record { who = i; slots = empty_slots; early = empty_slots; found = no_findings; round = 1; refused = empty_counts }

-- slots with one more frame, if it is one of theirs
unfoldable pub slots_with : (theirs : Bool) → List Slot → (slot : ℕ) → (frame : List ℕ) → List Slot
slots_with b slots k bs = cond b (set slots (k - 1) (frame_slot bs)) slots

-- a column with a frame in a slot: of its round, or early, by the frame's command
unfoldable pub with_slot : Column → (slot : ℕ) → (frame : List ℕ) → Column
with_slot c k bs =
    record {
      who = c.who;
      slots = slots_with (eqb (round_in bs) c.round) c.slots k bs;
      early = slots_with (not (eqb (round_in bs) c.round)) c.early k bs;
      found = c.found;
      round = c.round;
      refused = c.refused;
    }

-- a column with other counts of refused frames
unfoldable pub with_counts : Column → (refused : List ℕ) → Column
with_counts c cs = record { who = c.who; slots = c.slots; early = c.early; found = c.found; round = c.round; refused = cs }

-- a column after a frame that came in a slot is refused: as before, but for the slot's count under 9 to 15
unfoldable pub after_refusal : (answer slot : ℕ) → Column → Column
after_refusal a k c = cond (frame_fault a) (with_counts c (one_more c.refused k)) c

-- what a closing writes of what is found then: V in round one, Y in two, values and confidences in three, and what rounds two and three
-- told when they are closed; every other array is as before
unfoldable pub found_now : (round : ℕ) → (before : Findings) → (now : Found) → Findings
found_now m f q =
    record {
      heard = cond (eqb m 1) (padded vector_room (glued q.heard)) f.heard;
      agreed = cond (eqb m 2) (padded vector_room (glued q.agreed)) f.agreed;
      values = cond (eqb m 3) (padded vector_room (glued (held_values q.held))) f.values;
      confidences = cond (eqb m 3) (padded most_columns (held_confidences q.held)) f.confidences;
      told_two = cond (eqb m 2) (padded most_columns q.told_two) f.told_two;
      told_three = cond (eqb m 3) (padded most_columns q.told_three) f.told_three;
    }

-- a column one round on, with what it has found then: the frames that came early are in its slots, and none has come early yet
unfoldable pub one_on : Column → Findings → Column
one_on c f = record { who = c.who; slots = c.early; early = empty_slots; found = f; round = c.round + 1; refused = c.refused }
