-- Whether a frame is there already. Assumes nothing: these are definitions.
use Rattle.std.specs.Prelude.{Bool, cond, [], ℕ, eqb}
use Rattle.record.specs.declared.Slot.{Slot}

-- what stands for a slot past the last
abbrev pub slot_past : Slot
slot_past = record { taken = 0; bytes = [] }

-- whether a frame of its round is there: of the column's round, or else the early one
unfoldable pub there_by : (round : ℕ) → (taken early : Bool) → (its_round : ℕ) → Bool
there_by m taken early p = cond (eqb p m) taken early
