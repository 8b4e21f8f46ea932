-- Every definitions' run of a list of calls is followed by a built one: to each step there is a record of the program's for which the
-- promise of the call holds, and which reads as the record that the call leaves. A frame taken is put into its slot, a round closed is
-- written into the arrays, a refusal leaves what the promise says of it. A call that sends needs that there is a frame to send, which
-- is so wherever V and Y are bytes. Assumes nothing.
use mathlib.Core.Path.{◌≡◌, refl, sym, ◌∙◌, ap, subst}
use mathlib.Core.Bool.{Bool, true, false, cond}
use mathlib.Core.List.{List, [], ◌∷◌}
use Prim.Native.Nat.{ℕ, zero, suc, ◌+◌, ◌<◌, ◌≤◌}
use native.Mathlib.Omega.{arith}
use lib.Dec.{eqb, leb}
use lib.ListN.{length, take, replicate, length-replicate}
use borrow.Author.Tests.{eqb-true, eqb-false}
use Rattle.arrays.specs.Array.{in_front, padded}
use Rattle.arrays.proofs.Front.{front_value}
use Rattle.code.specs.Settings.{Settings, settings, value_size}
use Rattle.code.specs.Size.{most_columns}
use Rattle.grading.specs.Value.{Value, Vector, Rows, blank, is_blank}
use Rattle.grading.specs.Held.{held_as}
use Rattle.grading.specs.Count.{most, found, held_of, held_at, held_list}
use Rattle.grading.proofs.Value.{blank_size}
use Rattle.grading.proofs.Most.{most_is}
use Rattle.counting.specs.Stored.{StoresHeld}
use Rattle.record.specs.Record.{Rec, who_as, found_as, next_round}
use Rattle.record.specs.Refusal.{take_refusal, send_refusal, close_refusal, ask_refusal, frame_fault}
use Rattle.rounds.specs.Exchange.{Table, Closed}
use Rattle.column.specs.Call.{Call, taking, sending, closing, asking, AfterClose, Leads, Run, no_call, one_call, Passes, here, later, FrameOf}
use Rattle.record.specs.View.{settings_of, who_in, found_in, view}
use Rattle.record.specs.Stored.{no_holdings, with_slot, with_counts, after_refusal, found_now, one_on}
use Rattle.column.specs.Entry.{TakeSays, SendSays, CloseSays, ResultSays}
use Rattle.rounds.specs.Steps.Closing.{Finds}
use Rattle.record.specs.declared.Findings.{Findings}
use Rattle.record.specs.declared.Column.{Column}
use Rattle.record.specs.declared.Holdings.{Holdings}
use Rattle.record.proofs.Refusal.{Opens, close_record, close_round, ask_round}
use Rattle.record.proofs.View.{found_heard, found_agreed, found_held, found_two}
use Rattle.column.proofs.Taken.{take_reads}
use Rattle.rounds.proofs.Rows.{Sized, table_sized}
use Rattle.rounds.proofs.AfterRound.{Inside, inside, finds_of}
use Rattle.column.proofs.Step.{close_refused, step_of, leads_closing}
use Rattle.gradecast.specs.Built.{BuiltStep, takes, sends, closes, asks, BuiltRun, no_step, one_step}
use Rattle.gradecast.proofs.Proper.{Proper, proper_step, leads_unique}
use Rattle.exchanges.proofs.Building.Writing.{stores_sized, stores_entries}

-- a call that sends, and is not refused, has a frame to send; and so every call of a list
unfoldable pub CanSend : Call → Rec → Type 0
CanSend (sending room) r = send_refusal r room ≡ 0 → (bs : List ℕ) × FrameOf r bs
CanSend (taking k bs) r = Unit {0}
CanSend closing r = Unit {0}
CanSend asking r = Unit {0}

unfoldable pub Sendable : Rec → List Call → Type 0
Sendable r xs = (at : Rec) (x : Call) (rest : List Call) → Passes r xs at (x ∷ rest) → CanSend x at

-- a column that has finished stores what it holds, byte for byte, so that there is a result to answer
unfoldable pub Stored : Column → Type 0
Stored c = c.round ≡ 4 → StoresHeld (settings_of c.who) (view c).found.held c.found.values c.found.confidences

-- taking
take_built :
    (c : Column) (k : ℕ) (bs : List ℕ) → Stored c → (d : Column) × TakeSays c k bs (take_refusal (view c) k bs) d × Stored d
unfolding Stored view with_slot after_refusal with_counts
take_built c k bs stored = go (eqb (take_refusal (view c) k bs) 0) refl
  where
    counted_stored : (q : Bool) (cs : List ℕ) → Stored (cond q (with_counts c cs) c)
    counted_stored true cs = stored
    counted_stored false cs = stored

    go : (q : Bool) → eqb (take_refusal (view c) k bs) 0 ≡ q → (d : Column) × TakeSays c k bs (take_refusal (view c) k bs) d × Stored d
    go true f = let e = eqb-true _ _ f in (with_slot c k bs, record { answered = refl; done = λ z. refl; refused = λ z. absurd (z e) }, stored)
    go false f = (
      after_refusal (take_refusal (view c) k bs) k c,
      record { answered = refl; done = λ z. absurd (eqb-false _ _ f z); refused = λ z. refl },
      counted_stored (frame_fault (take_refusal (view c) k bs)) _,
    )

-- asking
pub result_built : (c : Column) → Stored c → (h : Holdings) × ResultSays c h
unfolding view Stored no_holdings
result_built c stored = go (eqb (ask_refusal (view c)) 0) refl
  where
    go : (q : Bool) → eqb (ask_refusal (view c)) 0 ≡ q → (h : Holdings) × ResultSays c h
    go true f =
        let e = eqb-true _ _ f in (
          record {
            answer = ask_refusal (view c);
            values = c.found.values;
            confidences = c.found.confidences;
            told_two = padded most_columns (view c).found.told_two;
            told_three = padded most_columns (view c).found.told_three;
          },
          record { answered = refl; done = λ z. stored (ask_round (view c) e); two = λ z. refl; three = λ z. refl; refused = λ z. absurd (z e) },
        )
    go false f =
        let h = eqb-false _ _ f in (
          no_holdings (ask_refusal (view c)),
          record { answered = refl; done = λ z. absurd (h z); two = λ z. absurd (h z); three = λ z. absurd (h z); refused = λ z. refl },
        )

-- sending
send_built :
    (c : Column) (buffer : List ℕ) → (send_refusal (view c) (length buffer) ≡ 0 → (bs : List ℕ) × FrameOf (view c) bs) →
    (now : List ℕ) × SendSays c buffer (send_refusal (view c) (length buffer)) now
send_built c buffer frame = go (eqb (send_refusal (view c) (length buffer)) 0) refl
  where
    go : (q : Bool) → eqb (send_refusal (view c) (length buffer)) 0 ≡ q → (now : List ℕ) × SendSays c buffer (send_refusal (view c) (length buffer)) now
    go true f =
        let e = eqb-true _ _ f in
        let x = frame e in
        (in_front x.0 buffer, record { answered = refl; done = λ z. (x.0, x.1, refl); refused = λ z. absurd (z e) })
    go false f = (buffer, record { answered = refl; done = λ z. absurd (eqb-false _ _ f z); refused = λ z. refl })

-- the values that a column ends with have the size of a value
held_sized :
    (r : Rec) (rows : Rows) (told : List ℕ) → 1 ≤ r.who.number → Sized r.who.settings r.found.agreed → Table r r.found.agreed rows told → (j : ℕ) →
    j < r.who.settings.n → length (held_at r.who.settings rows j).value ≡ value_size r.who.settings
unfolding held_at held_of held_as
held_sized r rows told low y t j h =
    go (is_blank m) (leb _ (found j m rows)) (leb _ (found j m rows))
    (most_is (λ u. length u ≡ value_size s) s j rows (blank_size s) (λ i l. (table_sized r r.found.agreed rows told low y t i (rw t.many at l)).each j h))
  where
    s : Settings
    s = r.who.settings

    m : Value
    m = most s j rows

    go : (a b c : Bool) → length m ≡ value_size s →
        length (cond a (held_as (blank s) 0) (cond b (held_as m 2) (cond c (held_as m 1) (held_as (blank s) 0)))).value ≡ value_size s
    go true b c e = blank_size s
    go false true c e = e
    go false false true e = e
    go false false false e = blank_size s

-- the round that is closed
closed_of : (r q : Rec) → close_refusal r ≡ 0 → Leads closing r q → Closed r.round r q
unfolding Leads AfterClose
closed_of r q e l = subst (λ (n : ℕ). AfterClose n r q) e l

sized_by : {s u : Settings} (vs : Vector) → u ≡ s → Sized s vs → Sized u vs
sized_by vs e z = subst (λ (x : Settings). Sized x vs) (sym e) z

-- after round three what is found is stored
found_stored : (c : Column) (f : Findings) → Finds c f → Stored (one_on c f)
unfolding Stored one_on found_now view
found_stored c f x e =
    let three : c.round ≡ 3 = omega arith in
    record {
      value_bytes = ap (λ (g : Findings). g.values) x.bytes ∙ rw three refl;
      confidence_bytes = ap (λ (g : Findings). g.confidences) x.bytes ∙ rw three refl;
      reads = sym (found_held (settings_of c.who) (c.round + 1) f (omega arith));
    }

-- what a table told is read again
told_again : (n : ℕ) (told : List ℕ) → length told ≡ n → take n (padded most_columns told) ≡ told
unfolding padded
told_again n told e = front_value told (replicate most_columns 0) n e

-- closing, of a record of an opened column's list
module _ (s : Settings) (k run : ℕ) (v : Value) (o : Opens s k v) where
  closed_built :
      (m : ℕ) (c : Column) (q : Rec) → Inside c.who → 1 ≤ m → m ≤ 3 → c.round ≡ m → Proper s k run v (view c) → Proper s k run v q →
      Closed m (view c) q → (f : Findings) × Finds c f
  unfolding Closed next_round found_in found_now found_as view who_in who_as settings_of settings held_list
  closed_built zero c q i low high e p w x = absurd (omega arith)
  closed_built (suc zero) c q i low high e p w x =
      let sized = sized_by q.found.heard p.settings (w.heard (omega (arith, e, ap (λ (z : Rec). z.round) x))) in
      let stored = stores_sized (settings_of c.who) _ (rw (ap (λ (z : Rec). z.found.heard) x) at sized) in
      (_, finds_of c i 1 _ _ e (ap (λ (vs : Vector). found_as vs [] [] [] []) stored.reads) refl refl)
  closed_built (suc (suc zero)) c q i low high e p w x =
      let sized = sized_by q.found.agreed p.settings (w.agreed (omega (arith, e, ap (λ (z : Rec). z.round) x.3))) in
      let heard = found_heard (settings_of c.who) c.round c.found (omega arith) in
      let stored = stores_sized (settings_of c.who) _ (rw (ap (λ (z : Rec). z.found.agreed) x.3) at sized) in
      (_, finds_of c i 2 _ _ e (cc (heard, stored.reads, told_again c.who.n x.1 x.2.told_many)) (x.0, x.1, x.2, refl) refl)
  closed_built (suc (suc (suc zero))) c q i low high e p w x =
      let heard = found_heard (settings_of c.who) c.round c.found (omega arith) in
      let agreed = found_agreed (settings_of c.who) c.round c.found (omega arith) in
      let two = found_two (settings_of c.who) c.round c.found (omega arith) in
      let sized = held_sized (view c) x.0 x.1 i.number_low (sized_by (view c).found.agreed p.settings (p.agreed (omega arith))) x.2 in
      let stored = stores_entries (settings_of c.who) (held_at (settings_of c.who) x.0) sized in
      (_, finds_of c i 3 _ _ e (cc (heard, agreed, stored.reads, two, told_again c.who.n x.1 x.2.told_many)) (x.0, x.1, x.2, refl) refl)
  closed_built (suc (suc (suc (suc m)))) c q i low high e p w x = absurd (omega arith)

  close_built :
      (c : Column) (q : Rec) → Proper s k run v (view c) → Stored c → Leads closing (view c) q →
      (d : Column) × CloseSays c (close_refusal (view c)) d × Stored d
  unfolding Leads view
  close_built c q p stored l = go (eqb (close_refusal (view c)) 0) refl
    where
      go : (b : Bool) → eqb (close_refusal (view c)) 0 ≡ b → (d : Column) × CloseSays c (close_refusal (view c)) d × Stored d
      go true f =
          let e = eqb-true _ _ f in
          let round = close_round (view c) e in
          let x =
          closed_built c.round c q (inside c.who (close_record (view c) e)) round.0 round.1 refl p
          (proper_step s k run v o closing (view c) q p (step_of closing (view c) q l)) (closed_of (view c) q e l) in (
            one_on c x.0,
            record {
              answered = refl;
              reads = leads_closing c.round (view c) (view (one_on c x.0)) e refl x.1.reads;
              done = λ z. ap (one_on c) x.1.bytes;
              refused = λ z. absurd (z e);
            },
            found_stored c x.0 x.1,
          )
      go false f =
          let h = eqb-false _ _ f in
          (c, record { answered = refl; reads = close_refused (view c) h; done = λ z. absurd (h z); refused = λ z. refl }, stored)

  -- a step, of any call
  step_built :
      (x : Call) (c : Column) (q : Rec) → Proper s k run v (view c) → Stored c → CanSend x (view c) → Leads x (view c) q →
      (d : Column) × (answer : ℕ) × BuiltStep c x answer d × (view d ≡ q) × Stored d
  unfolding Leads CanSend
  step_built (taking j bs) c q p stored f l =
      let x = take_built c j bs stored in (x.0, _, takes c x.0 j _ bs x.1, take_reads c x.0 j _ bs x.1 ∙ sym l, x.2)
  step_built (sending room) c q p stored f l =
      let long = length-replicate {A = ℕ} room 0 in
      let x = send_built c (replicate room 0) (λ z. f (sym (ap (send_refusal (view c)) long) ∙ z)) in
      let answer = send_refusal (view c) (length (replicate {A = ℕ} room 0)) in
      (c, answer, subst (λ (m : ℕ). BuiltStep c (sending m) answer c) long (sends c answer (replicate room 0) x.0 x.1), sym l, stored)
  step_built closing c q p stored f l =
      let x = close_built c q p stored l in
      (x.0, _, closes c x.0 _ x.1, leads_unique s k run v o closing (view c) (view x.0) q p x.1.reads l, x.2)
  step_built asking c q p stored f l = let x = result_built c stored in (c, _, asks c x.0 x.1, sym l, stored)

  -- a list of them
  pub run_built :
      {r z : Rec} {xs : List Call} (c : Column) → view c ≡ r → Proper s k run v r → Stored c → Sendable r xs → Run r xs z →
      (d : Column) × (answers : List ℕ) × BuiltRun c xs answers d × (view d ≡ z) × Stored d
  unfolding Sendable
  run_built c e p stored f (no_call r) = (c, [], no_step c, e, stored)
  run_built c e p stored f (one_call r q z x xs l rest) =
      let step =
      step_built x c q (subst (Proper s k run v) (sym e) p) stored (subst (CanSend x) (sym e) (f r x xs (here r (x ∷ xs))))
      (subst (λ (y : Rec). Leads x y q) (sym e) l) in
      let more =
      run_built step.0 step.3 (proper_step s k run v o x r q p (step_of x r q l)) step.4
      (λ at y ys w. f at y ys (later r q at x xs (y ∷ ys) l w)) rest in
      (more.0, step.1 ∷ more.1, one_step c step.0 more.0 x xs step.1 more.1 step.2 more.2, more.3, more.4)
