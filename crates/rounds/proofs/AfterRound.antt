-- What closing makes of a column's record, read as a record of the definitions: V of its slots, a table of its slots' rows, and what
-- the column has found after each of the three rounds. Read off the definitions, part by part. Assumes nothing.
use mathlib.Core.Path.{◌≡◌, refl, sym, ◌∙◌, ap, subst}
use mathlib.Core.Bool.{Bool, true, false, cond}
use mathlib.Core.List.{List, []}
use mathlib.Core.Option.{Option}
use Prim.Native.Nat.{ℕ, ◌+◌, ◌*◌, ◌-◌, ◌≤◌, ◌<◌}
use native.Mathlib.Omega.{arith}
use lib.Dec.{eqb}
use lib.ListN.{length, get_or, take, replicate}
use borrow.Author.Tests.{eq-eqb, ne_eqb}
use Rattle.arrays.specs.Array.{padded}
use Rattle.arrays.proofs.Front.{front_value}
use Rattle.code.specs.Settings.{Settings, settings, settings_refusal, check_count, value_size}
use Rattle.code.specs.Size.{most_columns, value_room, vector_room}
use Rattle.code.specs.Vector.{glued}
use Rattle.code.specs.Entry.{values_in}
use Rattle.code.proofs.ValidSettings.{sizes}
use Rattle.grading.specs.Value.{Vector, Rows}
use Rattle.counting.specs.Stored.{Stores, StoresHeld}
use Rattle.grading.specs.Count.{agreed_vector, held_list}
use Rattle.counting.specs.Steps.Table.{Planes, row_in, rows_in}
use Rattle.counting.proofs.Planes.{rows_length, row_at}
use Rattle.record.specs.Frame.{operand_size}
use Rattle.record.specs.Record.{Found, Rec, who_as, found_as, counted, taken_at, next_round}
use Rattle.record.specs.Refusal.{record_refusal}
use Rattle.rounds.specs.Exchange.{value_or_blank, heard_at, heard_vector, Row, Table, Closed}
use Rattle.record.specs.View.{settings_of, who_in, frame_in, frames_in, found_in, view, inbox}
use Rattle.record.specs.Stored.{found_now, one_on}
use Rattle.rounds.specs.Steps.Senders.{SlotRow, SlotRows}
use Rattle.record.specs.Steps.Due.{slot_past}
use Rattle.rounds.specs.Steps.Closing.{Finds}
use Rattle.record.specs.declared.Identity.{Identity}
use Rattle.record.specs.declared.Slot.{Slot}
use Rattle.record.specs.declared.Findings.{Findings}
use Rattle.record.specs.declared.Column.{Column}
use Rattle.record.proofs.Refusal.{record_settings, record_number}
use Rattle.rounds.proofs.Rows.{row_alike}
use Rattle.record.proofs.View.{frames_at, found_heard, found_agreed, found_two, view_one_on}

-- a column whose record is not refused
pub record Inside (i : Identity) : Type 0 where
  pub fine : settings_refusal (settings i.n i.t i.w) ≡ 0
  pub few_columns : i.n ≤ most_columns
  pub few_bad : i.t ≤ i.n
  pub few_bytes : i.w ≤ value_room
  pub number_low : 1 ≤ i.number
  pub number_high : i.number ≤ i.n

pub inside : (i : Identity) → record_refusal (who_in i) ≡ 0 → Inside i
unfolding who_in who_as settings_of settings
inside i e =
    let fine = record_settings (who_in i) e in
    let few = sizes (settings_of i) fine in
    let bad = few.few_bad in
    let number = record_number (who_in i) e in
    record {
      fine = fine;
      few_columns = few.few_columns;
      few_bad = omega arith;
      few_bytes = few.few_bytes;
      number_low = number.0;
      number_high = number.1;
    }

-- the frame of slot k + 1
slot_frame :
    (i : Identity) (m : ℕ) (slots : List Slot) (k : ℕ) → k < i.n →
    taken_at (frames_in (settings_of i) m slots) (k + 1) ≡ frame_in (operand_size (settings_of i) m) (get_or slots k slot_past)
unfolding settings_of settings
slot_frame i m slots k h =
    frames_at (settings_of i) m (k + 1) slots slot_past refl (omega arith) (omega arith)
    ∙ ap (λ (j : ℕ). frame_in (operand_size (settings_of i) m) (get_or slots j slot_past)) (let e : k + 1 - 1 ≡ k = omega arith in e)

-- V at slot k + 1
pub heard_slot :
    (i : Identity) (slots : List Slot) (k : ℕ) → k < i.n →
    heard_at (inbox i 1 slots) (k + 1)
    ≡ cond (eqb (k + 1) i.number) (take i.w i.own) (value_or_blank (settings_of i) (frame_in i.w (get_or slots k slot_past)))
unfolding heard_at counted inbox who_in who_as settings_of settings value_size operand_size
heard_slot i slots k h =
    ap (λ (f : Option (List ℕ)). cond (eqb (k + 1) i.number) (take i.w i.own) (value_or_blank (settings_of i) f)) (slot_frame i 1 slots k h)

-- the table of rounds two and three
checks_size : (s : Settings) (m : ℕ) → 2 ≤ m → operand_size s m ≡ check_count s * value_size s
unfolding operand_size
checks_size s m h = rw (ne_eqb m 1 (λ e. absurd (omega arith)))

pub rows_table :
    (i : Identity) (m : ℕ) (slots : List Slot) (vs : Vector) (x : Planes) (told : List ℕ) → Inside i → 2 ≤ m →
    SlotRows (settings_of i) vs i.number slots x told → Table (inbox i m slots) vs (rows_in i.n i.w x) told
unfolding inbox who_in who_as settings_of settings value_size counted SlotRow
rows_table i m slots vs x told able h rows =
    record {
      many = rows_length i.n i.w x;
      told_many = rows.many;
      own_row = row_at i.n i.w x (i.number - 1) own.0 ∙ own.1;
      own_told = own.2;
      others = others;
    }
  where
    slot_row :
        (j : ℕ) (b : Bool) → j < i.n → eqb (j + 1) i.number ≡ b →
        SlotRow (settings_of i) vs b (get_or slots j slot_past) (row_in i.n i.w x j) (get_or told j 0)
    slot_row j b l e =
        subst (λ (q : Bool). SlotRow (settings_of i) vs q (get_or slots j slot_past) (row_in i.n i.w x j) (get_or told j 0)) e (rows.each j l)

    own : (i.number - 1 < i.n) × (row_in i.n i.w x (i.number - 1) ≡ vs) × (get_or told (i.number - 1) 0 ≡ 0)
    own =
        let low = able.number_low in
        let high = able.number_high in
        let l : i.number - 1 < i.n = omega arith in
        let mine = slot_row (i.number - 1) true l (eq-eqb (i.number - 1 + 1) i.number (omega arith)) in
        (l, mine.0, mine.1)

    others :
        (k : ℕ) → 1 ≤ k → k ≤ i.n → (k ≡ i.number → ⊥) →
        Row (settings_of i) vs (counted (inbox i m slots) k) (get_or (rows_in i.n i.w x) (k - 1) []) (get_or told (k - 1) 0)
    others k a b d =
        let l : k - 1 < i.n = omega arith in
        let back : k - 1 + 1 ≡ k = omega arith in
        let frame : frame_in (check_count (settings_of i) * value_size (settings_of i)) (get_or slots (k - 1) slot_past) ≡ counted (inbox i m slots) k =
        ap (λ (n : ℕ). frame_in n (get_or slots (k - 1) slot_past)) (sym (checks_size (settings_of i) m h)) ∙ sym (slot_frame i m slots (k - 1) l)
        ∙ ap (taken_at (frames_in (settings_of i) m slots)) back in
        rw (row_at i.n i.w x (k - 1) l)
        (row_alike _ _ refl refl frame (slot_row (k - 1) false l (ne_eqb (k - 1 + 1) i.number (λ e. d (sym back ∙ e)))))

-- a table goes by who the column is and what came in alone
pub table_view :
    (c : Column) (vs : Vector) (rows : Rows) (told : List ℕ) → Table (inbox c.who c.round c.slots) vs rows told → Table (view c) vs rows told
unfolding view inbox counted
table_view c vs rows told t = record { many = t.many; told_many = t.told_many; own_row = t.own_row; own_told = t.own_told; others = t.others }

heard_view : (c : Column) → c.round ≡ 1 → heard_vector (inbox c.who 1 c.slots) ≡ heard_vector (view c)
unfolding heard_vector heard_at counted view inbox
heard_view c e = rw e refl

-- the record one round on
module _ (c : Column) (i : Inside c.who) where
  -- what is found, by how it reads
  pub finds_of :
      (m : ℕ) (f : Findings) (q : Found) → c.round ≡ m → found_in (settings_of c.who) (m + 1) f ≡ q → Closed m (view c) (next_round (view c) q) →
      f ≡ found_now m c.found q → Finds c f
  unfolding next_round
  finds_of m f q e read closed bytes =
      let now : view (one_on c f) ≡ next_round (view c) q =
      view_one_on c f i.few_columns ∙ ap (next_round (view c)) (ap (λ (k : ℕ). found_in (settings_of c.who) (k + 1) f) e ∙ read) in
      record {
        reads = subst (λ (k : ℕ). Closed k (view c) (view (one_on c f))) (sym e) (subst (Closed m (view c)) (sym now) closed);
        bytes =
            bytes ∙ ap (λ (k : ℕ). found_now k c.found q) (sym e)
            ∙ ap (λ (z : Rec). found_now c.round c.found z.found) (sym now);
      }

  pub finds_heard :
      (h : List ℕ) → c.round ≡ 1 → Stores (settings_of c.who) (heard_vector (inbox c.who 1 c.slots)) h →
      Finds c
      (record {
        heard = h;
        agreed = c.found.agreed;
        values = c.found.values;
        confidences = c.found.confidences;
        told_two = c.found.told_two;
        told_three = c.found.told_three;
      })
  unfolding Closed found_in found_now found_as
  finds_heard h e v =
      let same = heard_view c e in
      finds_of 1 _ (found_as (heard_vector (view c)) [] [] [] []) e (ap (λ (vs : Vector). found_as vs [] [] [] []) (v.reads ∙ same)) refl
      (cc (v.bytes ∙ ap (λ (vs : Vector). padded vector_room (glued vs)) same))

  -- what a table told, in front of zeros, is read again
  told_again : (told ms : List ℕ) → length ms ≡ c.who.n → told ≡ padded most_columns ms → take c.who.n told ≡ ms
  unfolding padded
  told_again told ms many e = ap (take c.who.n) e ∙ front_value ms (replicate most_columns 0) c.who.n many

  pub finds_agreed :
      (a told ms : List ℕ) (rows : Rows) → c.round ≡ 2 →
      Table (inbox c.who c.round c.slots) (values_in (settings_of c.who) c.who.n c.found.heard) rows ms →
      Stores (settings_of c.who) (agreed_vector (settings_of c.who) rows) a → told ≡ padded most_columns ms →
      Finds c
      (record {
        heard = c.found.heard;
        agreed = a;
        values = c.found.values;
        confidences = c.found.confidences;
        told_two = told;
        told_three = c.found.told_three;
      })
  unfolding Closed found_in found_now found_as view inbox who_in who_as settings_of settings
  finds_agreed a told ms rows e t y written =
      let heard = found_heard (settings_of c.who) c.round c.found (omega arith) in
      let again = told_again told ms t.told_many written in
      finds_of 2 _ (found_as (view c).found.heard (agreed_vector (settings_of c.who) rows) [] ms []) e (cc (heard, y.reads, again))
      (rows, ms, subst (λ (vs : Vector). Table (view c) vs rows ms) (sym heard) (table_view c _ rows ms t), refl) (cc (y.bytes, written))

  pub finds_held :
      (us cs told ms : List ℕ) (rows : Rows) → c.round ≡ 3 →
      Table (inbox c.who c.round c.slots) (values_in (settings_of c.who) c.who.n c.found.agreed) rows ms →
      StoresHeld (settings_of c.who) (held_list (settings_of c.who) rows) us cs → told ≡ padded most_columns ms →
      Finds c
      (record {
        heard = c.found.heard;
        agreed = c.found.agreed;
        values = us;
        confidences = cs;
        told_two = c.found.told_two;
        told_three = told;
      })
  unfolding Closed found_in found_now found_as view inbox who_in who_as settings_of settings
  finds_held us cs told ms rows e t h written =
      let heard = found_heard (settings_of c.who) c.round c.found (omega arith) in
      let agreed = found_agreed (settings_of c.who) c.round c.found (omega arith) in
      let two = found_two (settings_of c.who) c.round c.found (omega arith) in
      let again = told_again told ms t.told_many written in
      finds_of 3 _ (found_as (view c).found.heard (view c).found.agreed (held_list (settings_of c.who) rows) (view c).found.told_two ms) e
      (cc (heard, agreed, h.reads, two, again))
      (rows, ms, subst (λ (vs : Vector). Table (view c) vs rows ms) (sym agreed) (table_view c _ rows ms t), refl)
      (cc (h.value_bytes, h.confidence_bytes, written))
