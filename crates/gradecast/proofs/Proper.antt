-- What holds of every record of a list of calls after an opening: the column stays the same, the round is 1 to 4, there are n slots,
-- and operands, V and Y have the sizes they should have. It holds of an opened record, and each step keeps it. Of such a record every
-- call leaves just one behind, since a table has one content. Assumes nothing.
use mathlib.Core.Path.{◌≡◌, refl, sym, ◌∙◌, ap, subst}
use mathlib.Core.Bool.{Bool, true, false, cond, not}
use mathlib.Core.List.{List, []}
use mathlib.Core.Logic.{◌⊎◌, inl, inr}
use mathlib.Core.Option.{Option, none, some}
use Prim.Native.Nat.{ℕ, zero, suc, ◌+◌, ◌-◌, ◌<◌, ◌≤◌}
use native.Mathlib.Nat.{eq-or-lt_of_le}
use native.Mathlib.Omega.{arith}
use lib.Dec.{eqb}
use lib.ListN.{length, length-set, length-replicate}
use borrow.Author.Tests.{eqb-true, not-true}
use Rattle.code.specs.Settings.{Settings, value_size}
use Rattle.grading.specs.Value.{Value, Rows}
use Rattle.grading.specs.Count.{agreed_at, agreed_vector}
use Rattle.grading.proofs.Value.{blank_size, entries_length, entries_at}
use Rattle.record.specs.Frame.{operand_size, round_in, operand_in}
use Rattle.record.specs.Record.{Who, Rec, who_as, no_frames, opened, taken_at, counted, InTime, with_operand, with_frame}
use Rattle.record.specs.Refusal.{record_refusal, close_refusal}
use Rattle.rounds.specs.Exchange.{value_or_blank, heard_at, heard_vector, Table}
use Rattle.column.specs.Call.{Call, taking, sending, closing, asking, AfterClose, Leads}
use Rattle.grading.proofs.Grade.{agreed_is}
use Rattle.record.proofs.Refusal.{Opens, record_fine}
use Rattle.record.proofs.InTime.{in_time_next}
use Rattle.record.proofs.FrameRefusal.{taken_of}
use Rattle.record.proofs.There.{none_taken, each_with}
use Rattle.column.proofs.Frame.{operand_length}
use Rattle.rounds.proofs.Rows.{Sized, table_sized, closed_unique}
use Rattle.column.proofs.Step.{Unchanged, Closes, Step, stays, takes, closes}

pub record Proper (s : Settings) (k run : ℕ) (v : Value) (r : Rec) : Type 0 where
  pub settings : r.who.settings ≡ s
  pub number : r.who.number ≡ k
  pub runs : r.who.run ≡ run
  pub own : r.who.own ≡ v
  pub low : 1 ≤ r.round
  pub high : r.round ≤ 4
  pub slots : length r.frames ≡ s.n
  pub early_slots : length r.early ≡ s.n
  pub operands : (j : ℕ) (x : List ℕ) → taken_at r.frames j ≡ some x → length x ≡ operand_size s r.round
  pub early_operands : (j : ℕ) (x : List ℕ) → taken_at r.early j ≡ some x → length x ≡ operand_size s (suc r.round)
  pub heard : 2 ≤ r.round → Sized s r.found.heard
  pub agreed : 3 ≤ r.round → Sized s r.found.agreed

no_frames_length : (s : Settings) → length (no_frames s) ≡ s.n
unfolding no_frames
no_frames_length s = length-replicate s.n none

-- no frame is left that was taken
pub none_there : {A : Type 0} (s : Settings) (fs : List (Option (List ℕ))) (j : ℕ) (x : List ℕ) → fs ≡ no_frames s → taken_at fs j ≡ some x → A
none_there s fs j x e f =
    absurd
    (let both : none ≡ some x = sym (none_taken s j) ∙ sym (ap (λ (gs : List (Option (List ℕ))). taken_at gs j) e) ∙ f in
    let z : ◌≡◌ {A = ℕ} 0 1 = cc in
    omega arith)

-- the sizes of V and Y
operand_one : (s : Settings) → operand_size s 1 ≡ value_size s
unfolding operand_size
operand_one s = refl

heard_sized :
    (r : Rec) → length r.who.own ≡ value_size r.who.settings →
    ((j : ℕ) (x : List ℕ) → taken_at r.frames j ≡ some x → length x ≡ value_size r.who.settings) → Sized r.who.settings (heard_vector r)
unfolding heard_vector heard_at value_or_blank counted
heard_sized r own operands =
    record {
      many = entries_length r.who.settings.n 1 (heard_at r);
      each = λ j h. ap length (entries_at r.who.settings.n 1 j (heard_at r) [] h) ∙ go (1 + j) (eqb (1 + j) r.who.number) (taken_at r.frames (1 + j)) refl;
    }
  where
    go : (j : ℕ) (q : Bool) (f : Option (List ℕ)) → taken_at r.frames j ≡ f → length (cond q r.who.own (value_or_blank r.who.settings f)) ≡ value_size r.who.settings
    go j true f g = own
    go j false none g = blank_size r.who.settings
    go j false (some x) g = operands j x g

agreed_sized : (r : Rec) (rows : Rows) (told : List ℕ) → 1 ≤ r.who.number → Sized r.who.settings r.found.heard → Table r r.found.heard rows told → Sized r.who.settings (agreed_vector r.who.settings rows)
unfolding agreed_vector
agreed_sized r rows told low v t =
    record {
      many = entries_length r.who.settings.n 0 (agreed_at r.who.settings rows);
      each =
          λ j h.
          ap length (entries_at r.who.settings.n 0 j (agreed_at r.who.settings rows) [] h)
          ∙ agreed_is (λ u. length u ≡ value_size r.who.settings) r.who.settings rows (0 + j) (blank_size r.who.settings)
          (λ i l. (table_sized r r.found.heard rows told low v t i (rw t.many at l)).each (0 + j) (omega arith));
    }

module _ (s : Settings) (k run : ℕ) (v : Value) (o : Opens s k v) where
  pub proper_open : Proper s k run v (opened s k run v)
  unfolding opened who_as
  proper_open =
      record {
        settings = refl;
        number = refl;
        runs = refl;
        own = refl;
        low = omega arith;
        high = omega arith;
        slots = no_frames_length s;
        early_slots = no_frames_length s;
        operands = λ j x e. none_there s _ j x refl e;
        early_operands = λ j x e. none_there s _ j x refl e;
        heard = λ h. absurd (omega arith);
        agreed = λ h. absurd (omega arith);
      }

  pub proper_fine : (r : Rec) → Proper s k run v r → record_refusal r.who ≡ 0
  proper_fine r p = record_fine r.who (rw (p.settings, p.number, p.own) o)

  proper_unchanged : (r q : Rec) → Proper s k run v r → Unchanged r q → Proper s k run v q
  proper_unchanged r q p u =
      record {
        settings = ap (λ (w : Who). w.settings) u.who ∙ p.settings;
        number = ap (λ (w : Who). w.number) u.who ∙ p.number;
        runs = ap (λ (w : Who). w.run) u.who ∙ p.runs;
        own = ap (λ (w : Who). w.own) u.who ∙ p.own;
        low = omega (arith, u.round, p.low);
        high = omega (arith, u.round, p.high);
        slots = ap length u.frames ∙ p.slots;
        early_slots = ap length u.early ∙ p.early_slots;
        operands =
            λ j x e. p.operands j x (sym (ap (λ (fs : List (Option (List ℕ))). taken_at fs j) u.frames) ∙ e) ∙ ap (operand_size s) (sym u.round);
        early_operands =
            λ j x e. p.early_operands j x (sym (ap (λ (fs : List (Option (List ℕ))). taken_at fs j) u.early) ∙ e) ∙ ap (λ (m : ℕ). operand_size s (suc m)) (sym u.round);
        heard = λ h. rw u.found (p.heard (omega (arith, u.round)));
        agreed = λ h. rw u.found (p.agreed (omega (arith, u.round)));
      }

  slots_with_length : (b : Bool) (fs : List (Option (List ℕ))) (j : ℕ) (y : List ℕ) → length (with_operand b fs j y) ≡ length fs
  unfolding with_operand
  slots_with_length true fs j y = length-set fs (j - 1) (some y)
  slots_with_length false fs j y = refl

  proper_takes : (r : Rec) (q j : ℕ) (y : List ℕ) → Proper s k run v r → 1 ≤ j → InTime r.round q → length y ≡ operand_size s q → Proper s k run v (with_frame r q j y)
  unfolding with_frame
  proper_takes r q j y p low due e =
      record {
        settings = p.settings;
        number = p.number;
        runs = p.runs;
        own = p.own;
        low = p.low;
        high = p.high;
        slots = slots_with_length (eqb q r.round) r.frames j y ∙ p.slots;
        early_slots = slots_with_length (not (eqb q r.round)) r.early j y ∙ p.early_slots;
        operands = each_with (λ x. length x ≡ operand_size s r.round) (eqb q r.round) r.frames j y low (λ f. e ∙ ap (operand_size s) (eqb-true _ _ f)) p.operands;
        early_operands =
            each_with (λ x. length x ≡ operand_size s (suc r.round)) (not (eqb q r.round)) r.early j y low (λ f. e ∙ ap (operand_size s) (in_time_next due (not-true _ f))) p.early_operands;
        heard = p.heard;
        agreed = p.agreed;
      }

  own_size : (r : Rec) → Proper s k run v r → length r.who.own ≡ value_size r.who.settings
  unfolding value_size
  own_size r p = ap length p.own ∙ o.size ∙ ap (λ (u : Settings). u.w) (sym p.settings)

  proper_closes : (r q : Rec) → Proper s k run v r → Closes r q → Proper s k run v q
  proper_closes r q p x =
      record {
        settings = ap (λ (w : Who). w.settings) x.who ∙ p.settings;
        number = ap (λ (w : Who). w.number) x.who ∙ p.number;
        runs = ap (λ (w : Who). w.run) x.who ∙ p.runs;
        own = ap (λ (w : Who). w.own) x.who ∙ p.own;
        low = omega (arith, x.round);
        high = omega (arith, x.round, x.high);
        slots = ap length x.frames ∙ p.early_slots;
        early_slots = ap length x.early ∙ no_frames_length r.who.settings ∙ ap (λ (u : Settings). u.n) p.settings;
        operands =
            λ j y e. p.early_operands j y (sym (ap (λ (fs : List (Option (List ℕ))). taken_at fs j) x.frames) ∙ e) ∙ ap (operand_size s) (sym x.round);
        early_operands = λ j y e. none_there r.who.settings q.early j y x.early e;
        heard = λ h. heard (eq-or-lt_of_le x.low);
        agreed = λ h. agreed (eq-or-lt_of_le (let two : 2 ≤ r.round = omega (arith, x.round) in two));
      }
    where
      heard : (1 ≡ r.round) ⊎ (1 < r.round) → Sized s q.found.heard
      heard (inl e) =
          rw (x.one (sym e))
          (subst (λ (u : Settings). Sized u (heard_vector r)) p.settings
          (heard_sized r (own_size r p)
          (λ j y f. p.operands j y f ∙ ap (operand_size s) (sym e) ∙ operand_one s ∙ ap value_size (sym p.settings))))
      heard (inr e) = rw (x.heard_kept e) (p.heard e)

      agreed : (2 ≡ r.round) ⊎ (2 < r.round) → Sized s q.found.agreed
      agreed (inl e) =
          let t = x.two (sym e) in
          rw t.2
          (subst (λ (u : Settings). Sized u (agreed_vector r.who.settings t.0)) p.settings
          (agreed_sized r t.0 q.found.told_two (rw p.number o.low) (rw p.settings (p.heard (omega (arith, e)))) t.1))
      agreed (inr e) = rw (x.agreed_kept e) (p.agreed e)

  pub proper_step : (c : Call) (r q : Rec) → Proper s k run v r → Step r q c → Proper s k run v q
  proper_step c r q p (stays d u) = proper_unchanged r q p u
  proper_step c r q p (takes j bs e g) =
      let t = taken_of r j bs e in
      subst (Proper s k run v) (sym g)
      (proper_takes r (round_in bs) j (operand_in bs) p t.low t.due
      (operand_length r.who.settings (round_in bs) bs t.fits.size ∙ ap (λ (u : Settings). operand_size u (round_in bs)) p.settings))
  proper_step c r q p (closes x) = proper_closes r q p x

  -- one record after each call
  pub leads_unique : (c : Call) (r q z : Rec) → Proper s k run v r → Leads c r q → Leads c r z → q ≡ z
  unfolding Leads AfterClose
  leads_unique (taking j bs) r q z p a b = a ∙ sym b
  leads_unique (sending n) r q z p a b = a ∙ sym b
  leads_unique asking r q z p a b = a ∙ sym b
  leads_unique closing r q z p a b = go (close_refusal r) a b
    where
      go : (n : ℕ) → AfterClose n r q → AfterClose n r z → q ≡ z
      go zero a b =
          closed_unique r.round r q z (rw p.settings o.fine) (rw p.number o.low) (λ e. rw p.settings (p.heard (omega (arith, e))).many)
          (λ e. rw p.settings (p.agreed (omega (arith, e))).many) a b
      go (suc n) a b = a ∙ sym b
