-- `take` meets its contract: the lines before the frame's own leave the record, the frame's own leave it with one more refused, and a
-- frame that is not refused stands in its slot. Assumes nothing.
use mathlib.Core.Path.{◌≡◌, refl, sym, ◌∙◌, ap}
use mathlib.Core.Bool.{Bool, true, false, cond, not}
use mathlib.Core.List.{List, [], ◌∷◌}
use Prim.Native.Nat.{ℕ, ◌-◌, ◌≤◌, ◌<◌}
use native.Mathlib.Omega.{arith}
use lib.Dec.{eqb}
use borrow.Author.Tests.{eq-eqb, ne_eqb}
use lib.ListN.{get_or, set}
use Rattle.std.proofs.lemmas.Result.{err_from_is_err_and}
use Rattle.refusal.specs.Number.{number_of}
use Rattle.refusal.proofs.Positive.{number-positive}
use Rattle.code.specs.Settings.{Settings, settings, settings_refusal}
use Rattle.code.specs.Size.{most_columns}
use Rattle.code.proofs.ValidSettings.{sizes}
use Rattle.record.specs.Frame.{round_in}
use Rattle.record.specs.Record.{raised, who_as, one_more}
use Rattle.record.specs.Refusal.{first_of, record_refusal, round_refusal, slot_refusal, frame_refusal, take_refusal, frame_fault}
use Rattle.record.specs.Steps.Due.{there_by, slot_past}
use Rattle.record.specs.View.{settings_of, who_in, view}
use Rattle.record.specs.Stored.{frame_slot, slots_with, with_slot, with_counts}
use Rattle.record.specs.declared.Slot.{Slot}
use Rattle.record.specs.declared.Column.{Column}
use Rattle.record.proofs.Checked.{settings_are}
use Rattle.record.proofs.Refusal.{first_of_zero, first_of_here, first_of_next, first_of_last, slot_inside, record_settings}
use Rattle.record.proofs.FrameRefusal.{taken_of, take_lines, frame_refusal_there}
use Rattle.record.proofs.FrameFaults.{refusal_keeps, refusal_counts, before_frame, frame_counts}
use Rattle.record.proofs.Size.{frame_fits_slot}
use Rattle.record.proofs.View.{slot_there, count_there}
use Rattle.column.proofs.take.Goals as goal
use Rattle.column.proofs.take.Goals.{After-check_frame, In-Ok, In_ok-settings}

pub returns-in_err-settings : goal.returns-in_err-settings
unfolding view who_in who_as settings_of settings
returns-in_err-settings c =
    let p = err_from_is_err_and c.from_residual.result c.from_residual.ensures.1 in
    let a = c.args in
    let e = c.in_err-settings.ensures.answer in
    let number : number_of c.in_err-settings.field-0.0 ≡ 0 → ⊥ = λ z. omega (arith, number-positive c.in_err-settings.field-0.0) in
    rw (p.1, p.2)
    (record {
      answered = sym (take_lines (view a.column.now) a.slot a.frame.now ∙ first_of_here _ (sym e) number);
      done = λ z. absurd (number z);
      refused = λ z. sym (refusal_keeps _ _ a.column.now (rw e (before_frame (who_in a.column.now.who) a.column.now.round a.slot)));
    })

record Passed (c : In_ok-settings) : Type 0 where
  lines :
      first_of
      (record_refusal (who_in c.args.column.now.who) ∷ round_refusal c.args.column.now.round
      ∷ slot_refusal c.args.column.now.who.n c.args.column.now.who.number c.args.slot ∷ [])
      ≡ 0
  fine : settings_refusal (settings_of c.args.column.now.who) ≡ 0
  low : 1 ≤ c.args.slot
  high : c.args.slot ≤ c.args.column.now.who.n
  few : c.args.column.now.who.n ≤ most_columns

passed : (c : In_ok-settings) → Passed c
unfolding who_in who_as settings_of settings
passed c =
    let zero = sym c.in_ok-settings.ensures.answer in
    let record_line = first_of_zero _ _ zero in
    let round_line = first_of_zero _ _ record_line.1 in
    let slot_line = first_of_zero _ _ round_line.1 in
    let inside = slot_inside _ _ _ slot_line.0 in
    let fine = record_settings (who_in c.args.column.now.who) record_line.0 in
    record { lines = zero; fine = fine; low = inside.0; high = inside.1; few = (sizes _ fine).few_columns }

pub overflow_sub-k : goal.overflow_sub-k
overflow_sub-k c = (passed c).low

-- the places of the slot
inside : (c : In_ok-settings) → c.args.slot - 1 < 32
inside c = omega (arith, passed c)

pub bounds-column-k : goal.bounds-column-k
bounds-column-k c = inside (goal.at.bounds-column-k c).In_ok-settings

pub bounds-column-k-2 : goal.bounds-column-k-2
bounds-column-k-2 c = inside (goal.at.bounds-column-k-2 c).In_ok-settings

pub bounds-column-k-then-sent-column : goal.bounds-column-k-then-sent-column
bounds-column-k-then-sent-column c = inside (goal.at.bounds-column-k-then-sent-column c).In_ok-settings

pub bounds-column-k-else-sent-column : goal.bounds-column-k-else-sent-column
bounds-column-k-else-sent-column c = inside (goal.at.bounds-column-k-else-sent-column c).In_ok-settings

pub bounds-column-k-in-Err : goal.bounds-column-k-in-Err
bounds-column-k-in-Err c = inside (goal.at.bounds-column-k-in-Err c).In_ok-settings

pub bounds-column-k-in-Err-2 : goal.bounds-column-k-in-Err-2
bounds-column-k-in-Err-2 c = inside (goal.at.bounds-column-k-in-Err-2 c).In_ok-settings

-- whether a frame is there, as the record tells it
abbrev there : (c : After-check_frame) → Bool
there c =
    let column = c.args.column.now in
    let k = c.args.slot - 1 in
    there_by column.round (not (eqb (get_or column.slots k slot_past).taken 0)) (not (eqb (get_or column.early k slot_past).taken 0)) (round_in c.args.frame.now)

-- what the frame's own lines give is what taking gives
answered :
    (c : After-check_frame) (x : ℕ) →
    (let column = c.args.column.now in
    let s = c.in_ok-settings.settings in
    x ≡ frame_refusal (settings s.n s.t s.w) column.who.run column.round c.args.slot (there c) c.args.frame.now) →
    x ≡ take_refusal (view c.args.column.now) c.args.slot c.args.frame.now
unfolding view who_in who_as settings_of settings
answered c x e =
    let a = c.args in
    let h = passed (goal.at.After-check_frame c).In_ok-settings in
    let column = a.column.now in
    let who = column.who in
    e ∙ ap (λ (s : Settings). frame_refusal s who.run column.round a.slot (there c) a.frame.now) (settings_are who.n who.t who.w c.in_ok-settings.settings c.in_ok-settings.ensures.same)
    ∙ sym (take_lines (view column) a.slot a.frame.now ∙ first_of_next _ h.lines (first_of_last _)
    ∙ frame_refusal_there _ _ _ _ _ _ a.frame.now (slot_there column (round_in a.frame.now) a.slot slot_past refl h.low h.high))

pub returns-in-Err : goal.returns-in-Err
unfolding with_counts one_more
returns-in-Err c =
    let a = c.args in
    let e = c.in-Err.ensures.answer in
    let number : number_of c.in-Err.refusal ≡ 0 → ⊥ = λ z. omega (arith, number-positive c.in-Err.refusal) in
    let counts : frame_fault (number_of c.in-Err.refusal) ≡ true = rw e (frame_counts _ _ _ _ _ _ (λ z. number (e ∙ z))) in
    let low = (passed (goal.at.returns-in-Err c).In_ok-settings).low in
    record {
      answered = answered (goal.at.returns-in-Err c).After-check_frame _ e;
      done = λ z. absurd (number z);
      refused =
          λ z.
          ap (λ (n : ℕ). with_counts a.column.now (set a.column.now.refused (a.slot - 1) n))
          (c.raised.ensures ∙ ap raised (sym (count_there a.column.now.refused a.slot low)))
          ∙ sym (refusal_counts _ a.slot a.column.now counts);
    }

-- nothing is refused
taken : (c : In-Ok) → take_refusal (view c.args.column.now) c.args.slot c.args.frame.now ≡ 0
taken c = sym (answered (goal.at.In-Ok c).After-check_frame 0 c.in-Ok.ensures.answer)

pub filled-filled-requires : goal.filled-filled-requires
unfolding view
filled-filled-requires c =
    let a = c.args in
    let h = taken_of (view a.column.now) a.slot a.frame.now (taken c) in
    omega (arith, h.fits.size, frame_fits_slot (view a.column.now).who.settings (round_in a.frame.now) h.fine)

-- a column with a frame of its round, or an early one
abbrev stored : (now : Bool) → Column → (k : ℕ) → Slot → Column
stored b c k x =
    record {
      who = c.who;
      slots = cond b (set c.slots (k - 1) x) c.slots;
      early = cond (not b) (set c.early (k - 1) x) c.early;
      found = c.found;
      round = c.round;
      refused = c.refused;
    }

stored_is : (b : Bool) (c : Column) (k : ℕ) (bs : List ℕ) (x : Slot) → eqb (round_in bs) c.round ≡ b → x ≡ frame_slot bs → stored b c k x ≡ with_slot c k bs
unfolding with_slot slots_with
stored_is b c k bs x e f = ap (stored b c k) f ∙ ap (λ (q : Bool). stored q c k (frame_slot bs)) (sym e)

pub returns-then-sent-column : goal.returns-then-sent-column
returns-then-sent-column c =
    let a = c.args in
    record {
      answered = sym (taken (goal.at.returns-then-sent-column c).In-Ok);
      done = λ z. stored_is true a.column.now a.slot a.frame.now _ (eq-eqb _ _ (sym c.in-Ok.ensures.same ∙ c.if-sent-column.true)) c.filled-filled.ensures;
      refused = λ z. absurd (z refl);
    }

pub returns-else-sent-column : goal.returns-else-sent-column
returns-else-sent-column c =
    let a = c.args in
    record {
      answered = sym (taken (goal.at.returns-else-sent-column c).In-Ok);
      done = λ z. stored_is false a.column.now a.slot a.frame.now _ (ne_eqb _ _ (λ q. c.if-sent-column.false (c.in-Ok.ensures.same ∙ q))) c.filled-filled.ensures;
      refused = λ z. absurd (z refl);
    }
