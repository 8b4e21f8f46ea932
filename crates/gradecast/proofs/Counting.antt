-- One call and the counts of refused frames: it keeps all of them, or, where its answer is the fault of the frame handed in, raises that of the
-- frame's slot, which is a neighbour's. Assumes nothing.
use mathlib.Core.Path.{◌≡◌, refl, sym, ◌∙◌, ap}
use mathlib.Core.Bool.{Bool, true, false, cond, ◌&&◌}
use mathlib.Core.List.{List}
use Prim.Native.Nat.{ℕ, zero, suc, ◌-◌, ◌≤◌}
use native.Mathlib.Omega.{arith}
use lib.Dec.{eqb, ltb}
use lib.ListN.{length, length-set}
use lib.Seq.{get_or-set_same, get_or-set_other}
use borrow.Author.Tests.{eqb-true, eqb-false, ltb-true}
use Rattle.arrays.proofs.Bool.{true_not_false}
use Rattle.code.specs.Size.{most_columns}
use Rattle.record.specs.Record.{count_top, raised, count_at, one_more}
use Rattle.record.specs.Refusal.{frame_fault}
use Rattle.record.specs.View.{view}
use Rattle.record.specs.Stored.{with_slot, with_counts, one_on}
use Rattle.record.specs.declared.Column.{Column}
use Rattle.record.proofs.FrameFaults.{refusal_keeps, refusal_counts, send_other, close_other, ask_other, Neighbour, neighbour_of}
use Rattle.record.proofs.View.{count_there}
use Rattle.column.specs.Call.{Call, taking, closing}
use Rattle.gradecast.specs.Built.{BuiltStep, takes, sends, closes, asks}
use Rattle.gradecast.specs.Refused.{hands_in, refused_of}

pub data Counting (c d : Column) : Call → (answer : ℕ) → Type 0 where
  keeps : (x : Call) (a : ℕ) → frame_fault a ≡ false → d.refused ≡ c.refused → d.who ≡ c.who → Counting c d x a
  raises :
      (j a : ℕ) (bs : List ℕ) → frame_fault a ≡ true → Neighbour (view c) j → d.refused ≡ one_more c.refused j → d.who ≡ c.who →
      Counting c d (taking j bs) a

as_before : {c d : Column} (x : Call) (a : ℕ) → frame_fault a ≡ false → d ≡ c → Counting c d x a
as_before x a fine e = keeps x a fine (ap (λ (z : Column). z.refused) e) (ap (λ (z : Column). z.who) e)

zero_fine : (a : ℕ) → a ≡ 0 → frame_fault a ≡ false
unfolding frame_fault
zero_fine a e = ap frame_fault e

pub step_counting : {c d : Column} {x : Call} {a : ℕ} → BuiltStep c x a d → Counting c d x a
unfolding with_slot with_counts one_on
step_counting (takes c d j a bs says) = go (eqb a 0) (frame_fault a) refl refl
  where
    go : (p q : Bool) → eqb a 0 ≡ p → frame_fault a ≡ q → Counting c d (taking j bs) a
    go true q e f =
        let zero = eqb-true a 0 e in
        let now = says.done zero in
        keeps _ a (zero_fine a zero) (ap (λ (z : Column). z.refused) now) (ap (λ (z : Column). z.who) now)
    go false true e f =
        let now = says.refused (eqb-false a 0 e) ∙ refusal_counts a j c f in
        raises j a bs f (neighbour_of (view c) j bs (ap frame_fault (sym says.answered) ∙ f)) (ap (λ (z : Column). z.refused) now)
        (ap (λ (z : Column). z.who) now)
    go false false e f = as_before _ a f (says.refused (eqb-false a 0 e) ∙ refusal_keeps a j c f)
step_counting (sends c a buffer buffer-now says) = as_before _ a (ap frame_fault says.answered ∙ send_other (view c) _) refl
step_counting (closes c d a says) = go (eqb a 0) refl
  where
    fine : frame_fault a ≡ false
    fine = ap frame_fault says.answered ∙ close_other (view c)

    go : (p : Bool) → eqb a 0 ≡ p → Counting c d closing a
    go true e = let now = says.done (eqb-true a 0 e) in keeps _ a fine (ap (λ (z : Column). z.refused) now) (ap (λ (z : Column). z.who) now)
    go false e = as_before _ a fine (says.refused (eqb-false a 0 e))
step_counting (asks c h says) = as_before _ h.answer (ap frame_fault says.answered ∙ ask_other (view c)) refl

pub step_who : {c d : Column} {x : Call} {a : ℕ} → Counting c d x a → d.who ≡ c.who
step_who (keeps x a fine e w) = w
step_who (raises j a bs fault neighbour e w) = w

-- the counts of a record: as many as there can be columns, none above its top
pub record Counts (c : Column) : Type 0 where
  pub long : length c.refused ≡ most_columns
  pub fit : (k : ℕ) → refused_of c k ≤ count_top

raised_fits : (m : ℕ) → m ≤ count_top → raised m ≤ count_top
unfolding raised
raised_fits m h = go (ltb m count_top) refl
  where
    go : (q : Bool) → ltb m count_top ≡ q → cond q (suc m) m ≤ count_top
    go true e = ltb-true m count_top e
    go false e = h

-- one count with one more in a slot
pub elsewhere : (cs : List ℕ) (j k : ℕ) → 1 ≤ j → (j ≡ k → ⊥) → count_at (one_more cs j) k ≡ count_at cs k
unfolding count_at one_more
elsewhere cs j zero low other = refl
elsewhere cs j (suc k) low other = get_or-set_other cs (j - 1) k _ 0 (λ z. other (omega arith))

more_at :
    (cs : List ℕ) (j k : ℕ) → 1 ≤ j → j ≤ length cs → count_at (one_more cs j) k ≡ cond (eqb j k) (raised (count_at cs k)) (count_at cs k)
unfolding one_more
more_at cs j k low high = go (eqb j k) refl
  where
    go : (q : Bool) → eqb j k ≡ q → count_at (one_more cs j) k ≡ cond q (raised (count_at cs k)) (count_at cs k)
    go true e = rw (← eqb-true j k e) (count_there (one_more cs j) j low ∙ get_or-set_same cs (j - 1) _ 0 (omega arith))
    go false e = elsewhere cs j k low (eqb-false j k e)

-- one count after the call
pub step_count :
    {c d : Column} {x : Call} {a : ℕ} → Counting c d x a → Counts c → (k : ℕ) →
    refused_of d k ≡ cond (hands_in k x && frame_fault a) (raised (refused_of c k)) (refused_of c k)
unfolding hands_in
step_count {c} (keeps x a fine e w) counts k = ap (λ (cs : List ℕ). count_at cs k) e ∙ go (hands_in k x) (frame_fault a) fine
  where
    go : (p q : Bool) → q ≡ false → refused_of c k ≡ cond (p && q) (raised (refused_of c k)) (refused_of c k)
    go true true f = true_not_false f
    go true false f = refl
    go false q f = refl
step_count {c} (raises j a bs fault neighbour e w) counts k =
    ap (λ (cs : List ℕ). count_at cs k) e
    ∙ more_at c.refused j k neighbour.low (omega (arith, neighbour.high, neighbour.few, counts.long)) ∙ go (eqb j k) (frame_fault a) fault
  where
    go : (p q : Bool) → q ≡ true → cond p (raised (refused_of c k)) (refused_of c k) ≡ cond (p && q) (raised (refused_of c k)) (refused_of c k)
    go p false f = true_not_false (sym f)
    go true true f = refl
    go false true f = refl

step_long : {c d : Column} {x : Call} {a : ℕ} → Counting c d x a → length d.refused ≡ length c.refused
unfolding one_more
step_long (keeps x a fine e w) = ap length e
step_long {c} (raises j a bs fault neighbour e w) = ap length e ∙ length-set c.refused (j - 1) _

pub step_counts : {c d : Column} {x : Call} {a : ℕ} → Counting c d x a → Counts c → Counts d
step_counts {c} {d} {x} {a} counting counts =
    record {
      long = step_long counting ∙ counts.long;
      fit = λ k. rw (step_count counting counts k) (go (hands_in k x && frame_fault a) _ (counts.fit k));
    }
  where
    go : (q : Bool) (m : ℕ) → m ≤ count_top → cond q (raised m) m ≤ count_top
    go true m h = raised_fits m h
    go false m h = h
