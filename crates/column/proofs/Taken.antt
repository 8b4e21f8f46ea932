-- What `take` says of the record, read as a record of the definitions. Assumes nothing.
use mathlib.Core.Path.{◌≡◌, refl, sym, ◌∙◌, ap}
use mathlib.Core.Bool.{Bool, true, false, cond}
use mathlib.Core.List.{List}
use Prim.Native.Nat.{ℕ, ◌≤◌}
use lib.Dec.{eqb}
use borrow.Author.Tests.{ne_eqb, eqb-true, eqb-false}
use Rattle.code.specs.Settings.{settings}
use Rattle.record.specs.Record.{who_as, one_more, with_refused}
use Rattle.record.specs.Refusal.{take_refusal, frame_fault}
use Rattle.record.specs.View.{settings_of, who_in, view}
use Rattle.record.specs.Stored.{with_counts, after_refusal}
use Rattle.record.specs.declared.Column.{Column}
use Rattle.record.proofs.FrameFaults.{neighbour_of}
use Rattle.record.proofs.View.{view_slot, view_refused}
use Rattle.column.specs.Call.{after_take}
use Rattle.column.specs.Entry.{TakeSays}
use Rattle.column.proofs.Frame.{after_take_taken}

-- a frame that is refused for its own fault came in one of the group's slots
faulty_inside : (c : Column) (k : ℕ) (bs : List ℕ) → frame_fault (take_refusal (view c) k bs) ≡ true → (1 ≤ k) × (k ≤ c.who.n)
unfolding view who_in who_as settings_of settings
faulty_inside c k bs fault = let of_another = neighbour_of (view c) k bs fault in (of_another.low, of_another.high)

-- a refusal leaves the record as before, but for the slot's count
pub after_refused : (c : Column) (k a : ℕ) (bs : List ℕ) → a ≡ take_refusal (view c) k bs → (a ≡ 0 → ⊥) → view (after_refusal a k c) ≡ after_take (view c) k bs
unfolding after_take after_refusal
after_refused c k a bs e h = rw (← e, ne_eqb a 0 h) (go (frame_fault a) refl)
  where
    go : (q : Bool) → frame_fault a ≡ q → view (cond q (with_counts c (one_more c.refused k)) c) ≡ cond q (with_refused (view c) k) (view c)
    go true f = let range = faulty_inside c k bs (ap frame_fault (sym e) ∙ f) in view_refused c k range.0 range.1
    go false f = refl

-- what `take` says of the record, read
pub take_reads : (c d : Column) (k a : ℕ) (bs : List ℕ) → TakeSays c k bs a d → view d ≡ after_take (view c) k bs
take_reads c d k a bs t = go (eqb a 0) refl
  where
    go : (q : Bool) → eqb a 0 ≡ q → view d ≡ after_take (view c) k bs
    go true e =
        let z = eqb-true a 0 e in
        let fits = sym t.answered ∙ z in
        ap view (t.done z) ∙ view_slot c k bs fits ∙ sym (after_take_taken (view c) k bs fits)
    go false e = let h = eqb-false a 0 e in ap view (t.refused h) ∙ after_refused c k a bs t.answered h
