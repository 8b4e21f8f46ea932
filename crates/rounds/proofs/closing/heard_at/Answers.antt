-- `heard_at` meets its contract: a value taken, or none. Assumes nothing.
use mathlib.Core.Path.{◌≡◌, ◌∙◌, ap}
use Prim.Native.Nat.{ℕ, ◌+◌, ◌≤◌}
use native.Mathlib.Omega.{arith}
use lib.ListN.{length, take, drop, length-drop}
use lib.Seq.{length-take-le}
use borrow.Author.Rules.{rules}
use Rattle.arrays.proofs.Front.{copied_part, front_value}
use Rattle.code.specs.Settings.{settings, value_size}
use Rattle.code.specs.Size.{value_room}
use Rattle.grading.specs.Value.{blank}
use Rattle.grading.proofs.Value.{take_replicate}
use Rattle.record.specs.Frame.{header_size, longest_frame, operand_in}
use Rattle.rounds.specs.Exchange.{value_or_blank}
use Rattle.record.specs.View.{settings_of}
use Rattle.record.proofs.View.{frame_of_empty, frame_of_taken}
use Rattle.rounds.proofs.closing.heard_at.Goals as goal

pub returns-then-slot-ne0 : goal.returns-then-slot-ne0
unfolding value_or_blank operand_in
returns-then-slot-ne0 c =
    let w = c.args.who.now.w in
    let bytes = c.args.slot.now.bytes in
    let long : length bytes ≡ longest_frame = search rules in
    let room : header_size + w ≤ length bytes = omega arith in
    rw (c.if-mine.false, frame_of_taken w c.args.slot.now c.if-slot-ne0.true)
    (ap (take w) (copied_part w header_size bytes _ _ room c.requires c.copy.ensures)
    ∙ front_value _ _ w (length-take-le w (drop header_size bytes) (omega (arith, length-drop header_size bytes))))

pub returns-else-slot-ne0 : goal.returns-else-slot-ne0
unfolding value_or_blank blank settings_of settings value_size
returns-else-slot-ne0 c =
    rw (c.if-mine.false, frame_of_empty c.args.who.now.w c.args.slot.now c.if-slot-ne0.false)
    (take_replicate {A = ℕ} c.args.who.now.w value_room 0 c.requires)
