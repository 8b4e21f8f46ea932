-- What one call does to a record: it leaves it as it was but for the counts of refused frames, or puts a frame into its slot, or closes a round.
-- Read off the definitions, call by call. Assumes nothing.
use mathlib.Core.Path.{◌≡◌, refl, sym, ◌∙◌, ap, subst}
use mathlib.Core.Bool.{Bool, true, false, cond}
use mathlib.Core.List.{List}
use Prim.Native.Nat.{ℕ, zero, suc, ◌≤◌}
use native.Mathlib.Omega.{arith}
use lib.Dec.{eqb}
use borrow.Author.Tests.{eqb-true, eqb-false}
use Rattle.grading.specs.Value.{Rows}
use Rattle.grading.specs.Count.{agreed_vector, held_list}
use Rattle.record.specs.Frame.{round_in, operand_in}
use Rattle.record.specs.Record.{Found, Rec, no_frames, found_as, with_refused, with_frame, next_round}
use Rattle.record.specs.Refusal.{take_refusal, close_refusal, frame_fault}
use Rattle.rounds.specs.Exchange.{heard_vector, Table, Closed}
use Rattle.column.specs.Call.{Call, taking, sending, closing, asking, after_take, AfterClose, Leads}
use Rattle.record.specs.View.{view}
use Rattle.record.specs.declared.Column.{Column}
use Rattle.column.specs.Entry.{CloseSays}
use Rattle.record.proofs.Refusal.{close_round}
use Rattle.column.proofs.Frame.{after_take_taken}

-- as before but for the counts of refused frames
pub record Unchanged (r q : Rec) : Type 0 where
  pub who : q.who ≡ r.who
  pub round : q.round ≡ r.round
  pub frames : q.frames ≡ r.frames
  pub early : q.early ≡ r.early
  pub found : q.found ≡ r.found

unchanged_self : (r : Rec) → Unchanged r r
unchanged_self r = record { who = refl; round = refl; frames = refl; early = refl; found = refl }

unchanged_refused : (r : Rec) (k : ℕ) → Unchanged r (with_refused r k)
unfolding with_refused
unchanged_refused r k = record { who = refl; round = refl; frames = refl; early = refl; found = refl }

-- a round closed
pub record Closes (r q : Rec) : Type 0 where
  pub who : q.who ≡ r.who
  pub low : 1 ≤ r.round
  pub high : r.round ≤ 3
  pub round : q.round ≡ suc r.round
  pub frames : q.frames ≡ r.early
  pub early : q.early ≡ no_frames r.who.settings
  pub one : r.round ≡ 1 → q.found.heard ≡ heard_vector r
  pub two :
      r.round ≡ 2 →
      (rows : Rows) × Table r r.found.heard rows q.found.told_two × (q.found.agreed ≡ agreed_vector r.who.settings rows)
  pub three :
      r.round ≡ 3 →
      (rows : Rows) × Table r r.found.agreed rows q.found.told_three × (q.found.held ≡ held_list r.who.settings rows)
  pub heard_kept : 2 ≤ r.round → q.found.heard ≡ r.found.heard
  pub agreed_kept : 3 ≤ r.round → q.found.agreed ≡ r.found.agreed
  pub two_kept : 3 ≤ r.round → q.found.told_two ≡ r.found.told_two

-- one round on, whatever is found: who the column is, and what came in
closes_by :
    (r q : Rec) (f : Found) → 1 ≤ r.round → r.round ≤ 3 → q ≡ next_round r f → (r.round ≡ 1 → f.heard ≡ heard_vector r) →
    (r.round ≡ 2 → (rows : Rows) × Table r r.found.heard rows f.told_two × (f.agreed ≡ agreed_vector r.who.settings rows)) →
    (r.round ≡ 3 → (rows : Rows) × Table r r.found.agreed rows f.told_three × (f.held ≡ held_list r.who.settings rows)) →
    (2 ≤ r.round → f.heard ≡ r.found.heard) → (3 ≤ r.round → (f.agreed ≡ r.found.agreed) × (f.told_two ≡ r.found.told_two)) → Closes r q
unfolding next_round
closes_by r q f low high c one two three heard agreed =
    rw c
    (record {
      who = refl;
      low = low;
      high = high;
      round = refl;
      frames = refl;
      early = refl;
      one = one;
      two = two;
      three = three;
      heard_kept = heard;
      agreed_kept = λ h. (agreed h).0;
      two_kept = λ h. (agreed h).1;
    })

closes_of : (m : ℕ) (r q : Rec) → r.round ≡ m → 1 ≤ m → m ≤ 3 → Closed m r q → Closes r q
unfolding Closed found_as
closes_of zero r q e h l c = absurd (omega arith)
closes_of (suc zero) r q e h l c =
    closes_by r q _ (omega arith) (omega arith) c (λ f. refl) (λ f. absurd (omega arith)) (λ f. absurd (omega arith)) (λ f. absurd (omega arith)) (λ f. absurd (omega arith))
closes_of (suc (suc zero)) r q e h l c =
    closes_by r q _ (omega arith) (omega arith) c.3 (λ f. absurd (omega arith)) (λ f. (c.0, c.2, refl)) (λ f. absurd (omega arith)) (λ f. refl) (λ f. absurd (omega arith))
closes_of (suc (suc (suc zero))) r q e h l c =
    closes_by r q _ (omega arith) (omega arith) c.3 (λ f. absurd (omega arith)) (λ f. absurd (omega arith)) (λ f. (c.0, c.2, refl)) (λ f. refl) (λ f. (refl, refl))
closes_of (suc (suc (suc (suc m)))) r q e h l c = absurd (omega arith)

closed_closes : (r q : Rec) → close_refusal r ≡ 0 → Closed r.round r q → Closes r q
closed_closes r q e c = let inside = close_round r e in closes_of r.round r q refl inside.0 inside.1 c

-- the three ways
pub data Step (r q : Rec) : Call → Type 0 where
  stays : (c : Call) → Unchanged r q → Step r q c
  takes : (k : ℕ) (bs : List ℕ) → take_refusal r k bs ≡ 0 → q ≡ with_frame r (round_in bs) k (operand_in bs) → Step r q (taking k bs)
  closes : Closes r q → Step r q closing

pub after_take_refused : (r : Rec) (k : ℕ) (bs : List ℕ) → (take_refusal r k bs ≡ 0 → ⊥) → Unchanged r (after_take r k bs)
unfolding after_take
after_take_refused r k bs h = go (eqb (take_refusal r k bs) 0) (frame_fault (take_refusal r k bs)) refl
  where
    go : (b d : Bool) → eqb (take_refusal r k bs) 0 ≡ b → Unchanged r (cond b (with_frame r (round_in bs) k (operand_in bs)) (cond d (with_refused r k) r))
    go true d e = absurd (h (eqb-true _ _ e))
    go false true e = unchanged_refused r k
    go false false e = unchanged_self r

pub step_of : (c : Call) (r q : Rec) → Leads c r q → Step r q c
unfolding Leads AfterClose
step_of (taking k bs) r q e = go (eqb (take_refusal r k bs) 0) refl
  where
    go : (b : Bool) → eqb (take_refusal r k bs) 0 ≡ b → Step r q (taking k bs)
    go true f = let zero_of = eqb-true _ _ f in takes k bs zero_of (e ∙ after_take_taken r k bs zero_of)
    go false f = stays (taking k bs) (rw e (after_take_refused r k bs (eqb-false _ _ f)))
step_of (sending n) r q e = stays (sending n) (rw e (unchanged_self r))
step_of closing r q e = go (close_refusal r) refl e
  where
    go : (n : ℕ) → close_refusal r ≡ n → AfterClose n r q → Step r q closing
    go zero f c = closes (closed_closes r q f c)
    go (suc n) f c = stays closing (rw c (unchanged_self r))
step_of asking r q e = stays asking (rw e (unchanged_self r))

-- taking keeps the round, and a round closed as defined is what a closing leads to
pub after_take_round : (r : Rec) (k : ℕ) (bs : List ℕ) → (after_take r k bs).round ≡ r.round
unfolding with_frame
after_take_round r k bs = go (eqb (take_refusal r k bs) 0) refl
  where
    go : (b : Bool) → eqb (take_refusal r k bs) 0 ≡ b → (after_take r k bs).round ≡ r.round
    go true f = ap (λ (q : Rec). q.round) (after_take_taken r k bs (eqb-true _ _ f))
    go false f = (after_take_refused r k bs (eqb-false _ _ f)).round

pub leads_closing : (m : ℕ) (r q : Rec) → close_refusal r ≡ 0 → r.round ≡ m → Closed m r q → Leads closing r q
unfolding Leads AfterClose
leads_closing m r q e f c = subst (λ (n : ℕ). AfterClose n r q) (sym e) (subst (λ (n : ℕ). Closed n r q) (sym f) c)

pub closing_leads : (r q : Rec) → close_refusal r ≡ 0 → Leads closing r q → Closed r.round r q
unfolding Leads AfterClose
closing_leads r q e l = subst (λ (n : ℕ). AfterClose n r q) e l

pub closes_now : (r q : Rec) → close_refusal r ≡ 0 → Leads closing r q → Closes r q
closes_now r q e l = closed_closes r q e (closing_leads r q e l)

-- a refusal
pub close_refused : (r : Rec) → (close_refusal r ≡ 0 → ⊥) → Leads closing r r
unfolding Leads AfterClose
close_refused r h = go (close_refusal r) h
  where
    go : (k : ℕ) → (k ≡ 0 → ⊥) → AfterClose k r r
    go zero d = absurd (d refl)
    go (suc k) d = refl

pub refused_says : (c : Column) (answer : ℕ) → answer ≡ close_refusal (view c) → (answer ≡ 0 → ⊥) → CloseSays c answer c
refused_says c answer e d =
    record { answered = e; reads = close_refused (view c) (λ z. d (e ∙ z)); done = λ z. absurd (d z); refused = λ z. refl }
