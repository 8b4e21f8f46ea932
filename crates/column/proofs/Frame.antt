-- A frame written and read again. Its header gives back round, sender and run number, so it fits any other column of that run that is in
-- that round or in the one before, which takes it if no frame of that round of the sender's is there, and keeps its operand. Assumes
-- nothing.
use mathlib.Core.Path.{◌≡◌, refl, sym, ◌∙◌, ap, ap₂}
use mathlib.Core.Bool.{cond}
use mathlib.Core.List.{List, [], ◌∷◌}
use mathlib.Core.Logic.{inl}
use mathlib.Core.Option.{Option, none, some}
use Prim.Native.Nat.{ℕ, zero, suc, ◌-◌, ◌/◌, ◌%◌, ◌<◌, ◌≤◌}
use native.Mathlib.Omega.{arith}
use lib.Dec.{eqb}
use lib.ListN.{length, get_or, length-drop}
use lib.Seq.{get_or-take}
use Rattle.code.specs.Settings.{Settings}
use Rattle.record.specs.Frame.{command, operand_size, frame_size, header, command_round, round_in, sender_in, run_in, operand_in}
use Rattle.record.specs.Record.{Who, Found, Rec, taken_at, is_taken, frame_at, InTime, with_frame, with_refused}
use Rattle.record.specs.Refusal.{line, record_refusal, repeated_refusal, take_refusal, frame_fault}
use Rattle.column.specs.Call.{after_take, Operand, FrameOf}
use Rattle.column.specs.Promise.{FrameTaken}
use Rattle.record.proofs.Refusal.{record_number}
use Rattle.record.proofs.InTime.{in_time_low}
use Rattle.record.proofs.FrameRefusal.{Fits, take_refusal_last}
use Rattle.record.proofs.There.{frames_now, frame_now, frame_here}

-- commands
pub command_round_of : (m : ℕ) → 1 ≤ m → m ≤ 3 → command_round (command m) ≡ m
unfolding command_round command
command_round_of zero a b = absurd (omega arith)
command_round_of (suc zero) a b = refl
command_round_of (suc (suc zero)) a b = refl
command_round_of (suc (suc (suc zero))) a b = refl
command_round_of (suc (suc (suc (suc m)))) a b = absurd (omega arith)

-- only the rounds 1, 2 and 3 have a frame
pub operand_round : (m : ℕ) (w : Who) (f : Found) (x : List ℕ) → Operand m w f x → (1 ≤ m) × (m ≤ 3)
unfolding Operand
operand_round zero w f x e = absurd e
operand_round (suc zero) w f x e = (omega arith, omega arith)
operand_round (suc (suc zero)) w f x e = (omega arith, omega arith)
operand_round (suc (suc (suc zero))) w f x e = (omega arith, omega arith)
operand_round (suc (suc (suc (suc m)))) w f x e = absurd e

-- a frame read again
pub frame_operand : (z : Rec) (bs : List ℕ) → FrameOf z bs → Operand z.round z.who z.found (operand_in bs)
unfolding FrameOf
frame_operand z bs f = f.2

pub frame_round : (z : Rec) (bs : List ℕ) → FrameOf z bs → (1 ≤ z.round) × (z.round ≤ 3)
frame_round z bs f = operand_round z.round z.who z.found (operand_in bs) (frame_operand z bs f)

pub frame_fits_its_round : (z : Rec) (bs : List ℕ) → FrameOf z bs → Fits z.who.settings z.who.run z.round z.who.number bs
unfolding FrameOf header round_in sender_in run_in
frame_fits_its_round z bs f =
    let inside = frame_round z bs f in
    let high : get_or bs 2 0 ≡ z.who.run / 256 = at 2 (omega arith) in
    let low : get_or bs 3 0 ≡ z.who.run % 256 = at 3 (omega arith) in
    record {
      round = ap command_round (at 0 (omega arith)) ∙ command_round_of z.round inside.0 inside.1;
      size = f.1;
      sender = at 1 (omega arith);
      same_run = omega arith;
    }
  where
    at : (i : ℕ) → i < 4 → get_or bs i 0 ≡ get_or (command z.round ∷ z.who.number ∷ (z.who.run / 256) ∷ (z.who.run % 256) ∷ []) i 0
    at i h = sym (get_or-take 4 bs i 0 h) ∙ ap (λ (l : List ℕ). get_or l i 0) f.0

pub fits_alike : {s u : Settings} {a b m p k l : ℕ} {bs : List ℕ} → s ≡ u → a ≡ b → m ≡ p → k ≡ l → Fits s a m k bs → Fits u b p l bs
fits_alike e f g h x =
    record { round = x.round ∙ g; size = x.size ∙ ap₂ frame_size e g; sender = x.sender ∙ h; same_run = x.same_run ∙ f }

pub operand_length : (s : Settings) (m : ℕ) (bs : List ℕ) → length bs ≡ frame_size s m → length (operand_in bs) ≡ operand_size s m
unfolding operand_in frame_size
operand_length s m bs e = length-drop 4 bs ∙ (let q : length bs - 4 ≡ operand_size s m = omega arith in q)

-- the record after a frame that is not turned down
pub after_take_taken : (r : Rec) (k : ℕ) (bs : List ℕ) → take_refusal r k bs ≡ 0 → after_take r k bs ≡ with_frame r (round_in bs) k (operand_in bs)
unfolding after_take
after_take_taken r k bs e = ap (λ (n : ℕ). cond (eqb n 0) (with_frame r (round_in bs) k (operand_in bs)) (cond (frame_fault n) (with_refused r k) r)) e

-- a frame that comes in time, where none of its round is there, is not turned down
pub frame_fresh :
    (r z : Rec) (bs : List ℕ) → record_refusal r.who ≡ 0 → record_refusal z.who ≡ 0 → r.who.settings ≡ z.who.settings →
    r.who.run ≡ z.who.run → InTime r.round z.round → 1 ≤ r.round → FrameOf z bs → (r.who.number ≡ z.who.number → ⊥) →
    frame_at r z.round z.who.number ≡ none → take_refusal r z.who.number bs ≡ 0
unfolding is_taken repeated_refusal line
frame_fresh r z bs er ez es eu due low f other empty =
    let inside = record_number z.who ez in
    let round = frame_round z bs f in
    take_refusal_last r z.round z.who.number bs er low (omega (arith, in_time_low due, round.1)) inside.0 (rw es inside.1) (λ e. other (sym e)) round.0 due
    (fits_alike (sym es) (sym eu) refl refl (frame_fits_its_round z bs f))
    ∙ ap (λ (x : Option (List ℕ)). repeated_refusal (is_taken x)) empty

pub frame_taken : FrameTaken
unfolding FrameTaken
frame_taken r z bs er ez es eu due low f other long empty =
    let fresh = frame_fresh r z bs er ez es eu due low f other empty in
    let inside = record_number z.who ez in
    let high : z.who.number ≤ r.who.settings.n = rw es inside.1 in (
      fresh,
      ap (λ (q : Rec). frame_at q z.round z.who.number) (after_take_taken r z.who.number bs fresh)
          ∙ ap (λ (p : ℕ). frame_at (with_frame r p z.who.number (operand_in bs)) z.round z.who.number) (frame_fits_its_round z bs f).round
          ∙ frame_here r z.round z.who.number (operand_in bs) due inside.0 (rw long high),
    )

-- of a column in that round, as the statement was before frames could come early
pub frame_taken_in_round :
    (r z : Rec) (bs : List ℕ) → record_refusal r.who ≡ 0 → record_refusal z.who ≡ 0 → r.who.settings ≡ z.who.settings →
    r.who.run ≡ z.who.run → r.round ≡ z.round → FrameOf z bs → (r.who.number ≡ z.who.number → ⊥) →
    length r.frames ≡ r.who.settings.n → taken_at r.frames z.who.number ≡ none →
    (take_refusal r z.who.number bs ≡ 0) × (taken_at (after_take r z.who.number bs).frames z.who.number ≡ some (operand_in bs))
unfolding FrameTaken with_frame
frame_taken_in_round r z bs er ez es eu em f other long empty =
    let same = sym em in
    let k = z.who.number in
    let taken =
    frame_taken r z bs er ez es eu (inl same) (rw em (frame_round z bs f).0) f other (ap length (frames_now r z.round same) ∙ long)
    (ap (λ (m : ℕ). frame_at r m k) same ∙ frame_now r k ∙ empty) in
    let round = ap (λ (q : Rec). q.round) (after_take_taken r k bs taken.0) in
    (taken.0, sym (frame_now (after_take r k bs) k) ∙ ap (λ (m : ℕ). frame_at (after_take r k bs) m k) (round ∙ em) ∙ taken.1)
