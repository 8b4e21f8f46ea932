-- A frame comes in time where the reader is in its round or in the one before. Line 14 passes it then, and only then: its round is not
-- closed, and not two ahead. Assumes nothing.
use mathlib.Core.Path.{◌≡◌, refl, sym, ap₂}
use mathlib.Core.Bool.{Bool, true, false, ◌||◌}
use mathlib.Core.Logic.{inl, inr, ⊎_elim}
use Prim.Native.Nat.{ℕ, suc, ◌≤◌}
use native.Mathlib.Nat.{eq-or-lt_of_le}
use native.Mathlib.Omega.{arith}
use lib.Dec.{eqb, ltb}
use borrow.Author.Tests.{eqb-false, ltb-false, le-ltb}
use Rattle.arrays.proofs.Bool.{or_split}
use Rattle.record.specs.Record.{InTime}
use Rattle.record.specs.Refusal.{other_round_refusal}
use Rattle.record.proofs.Refusal.{line_applies, line_passed, line_zero}

pub in_time_low : {m p : ℕ} → InTime m p → m ≤ p
in_time_low (inl e) = omega arith
in_time_low (inr e) = omega arith

pub in_time_high : {m p : ℕ} → InTime m p → p ≤ suc m
in_time_high (inl e) = omega arith
in_time_high (inr e) = omega arith

pub in_time_between : {m p : ℕ} → m ≤ p → p ≤ suc m → InTime m p
in_time_between low high = ⊎_elim (λ e. inl (sym e)) (λ f. inr (omega arith)) (eq-or-lt_of_le low)

-- one that is not of the reader's round is of the next
pub in_time_next : {m p : ℕ} → InTime m p → eqb p m ≡ false → p ≡ suc m
in_time_next (inl e) f = absurd (eqb-false _ _ f e)
in_time_next (inr e) f = e

-- the line of the table
pub in_time_passes : (m p : ℕ) → InTime m p → other_round_refusal m p ≡ 0
unfolding other_round_refusal
in_time_passes m p due = line_passed 14 _ (ap₂ ◌||◌ (le-ltb p m (in_time_low due)) (le-ltb (suc m) p (in_time_high due)))

pub in_time_of : (m p : ℕ) → other_round_refusal m p ≡ 0 → InTime m p
unfolding other_round_refusal
in_time_of m p e =
    let neither = or_split _ _ (line_zero 14 _ (omega arith) e) in in_time_between (ltb-false p m neither.0) (ltb-false (suc m) p neither.1)

pub out_of_time : (m p : ℕ) → (InTime m p → ⊥) → other_round_refusal m p ≡ 14
unfolding other_round_refusal
out_of_time m p late = go (ltb p m || ltb (suc m) p) refl
  where
    go : (q : Bool) → (ltb p m || ltb (suc m) p) ≡ q → other_round_refusal m p ≡ 14
    go true e = line_applies 14 _ e
    go false e = absurd (late (in_time_of m p (line_passed 14 _ e)))
