-- What every step of a built run keeps, the run keeps. A step that changes the record puts a frame into its slot, counts a refusal, or closes
-- a round: what these three keep, every step does. Assumes nothing.
use mathlib.Core.Path.{◌≡◌, refl, sym, ◌∙◌}
use mathlib.Core.Bool.{Bool, true, false, cond}
use mathlib.Core.List.{List}
use Prim.Native.Nat.{ℕ}
use lib.Dec.{eqb}
use borrow.Author.Tests.{eqb-true, eqb-false}
use Rattle.record.specs.Record.{Found, one_more}
use Rattle.record.specs.Refusal.{take_refusal, frame_fault}
use Rattle.record.specs.View.{view}
use Rattle.record.specs.Stored.{with_slot, with_counts, after_refusal, found_now, one_on}
use Rattle.record.specs.declared.Column.{Column}
use Rattle.column.specs.Call.{Call}
use Rattle.gradecast.specs.Built.{BuiltStep, takes, sends, closes, asks, BuiltRun, no_step, one_step}

module _ (P : Column → Type 0)
    (taken : (c : Column) (k : ℕ) (bs : List ℕ) → take_refusal (view c) k bs ≡ 0 → P c → P (with_slot c k bs))
    (counted : (c : Column) (cs : List ℕ) → P c → P (with_counts c cs))
    (closed : (c : Column) (q : Found) → P c → P (one_on c (found_now c.round c.found q))) where
  refused : (a k : ℕ) (c : Column) → P c → P (after_refusal a k c)
  unfolding after_refusal
  refused a k c p = go (frame_fault a)
    where
      go : (q : Bool) → P (cond q (with_counts c (one_more c.refused k)) c)
      go true = counted c (one_more c.refused k) p
      go false = p

  step : {c d : Column} {x : Call} {a : ℕ} → P c → BuiltStep c x a d → P d
  step p (takes c d slot answer frame says) = go (eqb answer 0) refl
    where
      go : (q : Bool) → eqb answer 0 ≡ q → P d
      go true e = let zero = eqb-true answer 0 e in rw (says.done zero) (taken c slot frame (sym says.answered ∙ zero) p)
      go false e = rw (says.refused (eqb-false answer 0 e)) (refused answer slot c p)
  step p (sends c answer buffer buffer-now says) = p
  step p (closes c d answer says) = go (eqb answer 0) refl
    where
      go : (q : Bool) → eqb answer 0 ≡ q → P d
      go true e = rw (says.done (eqb-true answer 0 e)) (closed c (view d).found p)
      go false e = rw (says.refused (eqb-false answer 0 e)) p
  step p (asks c h says) = p

  pub every_step : {c d : Column} {xs : List Call} {answers : List ℕ} → P c → BuiltRun c xs answers d → P d
  every_step p (no_step c) = p
  every_step p (one_step c d e x xs a answers s rest) = every_step (step p s) rest
