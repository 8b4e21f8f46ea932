-- The frame of a round as it is written: a header of the column's round, number and run number, and behind it the round's operand.
-- Read off the definitions. Assumes nothing.
use mathlib.Core.Path.{◌≡◌, refl, sym, subst}
use mathlib.Core.Bool.{true}
use mathlib.Core.List.{List, ◌++◌}
use Prim.Native.Nat.{ℕ, zero, suc, ◌≤◌}
use native.Mathlib.Omega.{arith}
use lib.ListN.{length}
use Rattle.code.specs.Vector.{has_checks}
use Rattle.code.specs.Entry.{values_in}
use Rattle.record.specs.Frame.{operand_size, frame_size, header, operand_in, checks_in}
use Rattle.record.specs.Record.{Who, Found, Rec, found_as}
use Rattle.record.specs.View.{found_in, view}
use Rattle.record.specs.declared.Findings.{Findings}
use Rattle.rounds.specs.Steps.Closing.{checked_in}
use Rattle.record.specs.Refusal.{send_refusal}
use Rattle.record.specs.declared.Column.{Column}
use Rattle.column.specs.Call.{Operand, FrameOf}
use Rattle.column.specs.Entry.{SendSays}
use Rattle.column.specs.Steps.Sending.{speaking}

-- the operand of each round
pub operand_own : (m : ℕ) (w : Who) (f : Found) (xs : List ℕ) → m ≡ 1 → xs ≡ w.own → Operand m w f xs
unfolding Operand
operand_own m w f xs e g = subst (λ (k : ℕ). Operand k w f xs) (sym e) g

pub operand_checked :
    (m : ℕ) (w : Who) (f : Findings) (xs : List ℕ) → 2 ≤ m → m ≤ 3 →
    (let s = w.settings in has_checks s (values_in s s.n (checked_in m f)) (checks_in s xs) ≡ true) → Operand m w (found_in w.settings m f) xs
unfolding Operand checked_in found_in found_as
operand_checked zero w f xs h l g = absurd (omega arith)
operand_checked (suc zero) w f xs h l g = absurd (omega arith)
operand_checked (suc (suc zero)) w f xs h l g = g
operand_checked (suc (suc (suc zero))) w f xs h l g = g
operand_checked (suc (suc (suc (suc m)))) w f xs h l g = absurd (omega arith)

-- the frame
pub frame_sent :
    (r : Rec) (xs : List ℕ) → length xs ≡ operand_size r.who.settings r.round → Operand r.round r.who r.found xs →
    FrameOf r (header r.round r.who.number r.who.run ++ xs)
unfolding FrameOf header operand_in frame_size
frame_sent r xs e o = (refl, omega arith, o)

-- of a record no more goes into a frame than who the column is, its round and what it has found
pub spoken_by : (c : Column) (buffer : List ℕ) (z : ℕ) (now : List ℕ) → SendSays (speaking c.who c.round c.found) buffer z now → SendSays c buffer z now
unfolding view send_refusal FrameOf
spoken_by c buffer z now s = record { answered = s.answered; done = s.done; refused = s.refused }
