-- The record that the program holds, read as a record of the definitions. What a round has not made yet is not read. Assumes nothing:
-- these are definitions.
use Rattle.std.specs.Prelude.{cond, List, [], map, ℕ, suc, ltb, eqb, take}
use Rattle.std.proofs.Math.Option.{Option, none, some}
use Rattle.code.specs.Settings.{Settings, settings, value_size}
use Rattle.code.specs.Entry.{values_in}
use Rattle.grading.specs.Held.{held_in}
use Rattle.record.specs.Frame.{operand_size, operand_in}
use Rattle.record.specs.Record.{Who, Found, Rec, who_as, found_as, nothing_found}
use Rattle.record.specs.declared.Identity.{Identity}
use Rattle.record.specs.declared.Slot.{Slot}
use Rattle.record.specs.declared.Findings.{Findings}
use Rattle.record.specs.declared.Column.{Column}

-- the settings of a column
unfoldable pub settings_of : Identity → Settings
settings_of i = settings i.n i.t i.w

-- who it is
unfoldable pub who_in : Identity → Who
who_in i = who_as (settings_of i) i.number i.run (take (value_size (settings_of i)) i.own)

-- the frame of a slot, as an operand of so many bytes, if one was taken
unfoldable pub frame_in : (size : ℕ) → Slot → Option (List ℕ)
frame_in size s = cond (eqb s.taken 0) none (some (take size (operand_in s.bytes)))

-- the frames of the slots of a round
unfoldable pub frames_in : Settings → (round : ℕ) → List Slot → List (Option (List ℕ))
frames_in s m slots = map (frame_in (operand_size s m)) (take s.n slots)

-- what it has found: V is read from round two on, Y and what round two told from three on, all else in round four
unfoldable pub found_in : Settings → (round : ℕ) → Findings → Found
found_in s m f =
    found_as (cond (ltb 1 m) (values_in s s.n f.heard) []) (cond (ltb 2 m) (values_in s s.n f.agreed) [])
    (cond (ltb 3 m) (held_in s f.values f.confidences) []) (cond (ltb 2 m) (take s.n f.told_two) [])
    (cond (ltb 3 m) (take s.n f.told_three) [])

-- the record
unfoldable pub view : Column → Rec
view c =
    let s = settings_of c.who in
    record {
      who = who_in c.who;
      frames = frames_in s c.round c.slots;
      early = frames_in s (suc c.round) c.early;
      found = found_in s c.round c.found;
      round = c.round;
      refused = take s.n c.refused;
    }

-- a record by what came in alone: who the column is, its round and its slots
unfoldable pub inbox : Identity → (round : ℕ) → List Slot → Rec
inbox i m slots =
    record { who = who_in i; frames = frames_in (settings_of i) m slots; early = []; found = nothing_found; round = m; refused = [] }
