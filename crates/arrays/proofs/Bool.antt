-- Truth values: the two parts of a conjunction and of a false disjunction, the case of a true one, that true is not false, and tests counted by whether
-- they hold or fail. Each is its cases. Assumes nothing.
use mathlib.Core.Path.{◌≡◌, refl, sym}
use mathlib.Core.Bool.{Bool, true, false, cond, ◌&&◌, ◌||◌, true≢false, and-eq-true_iff}
use mathlib.Mathlib.Data.Bool.Basic.{or-eq-false-eq-eq-false-and-eq-false}
use mathlib.Core.Logic.{◌⊎◌, inl, inr}
use Prim.Native.Nat.{◌≤◌, ◌+◌}
use native.Mathlib.Omega.{arith}

pub true_not_false : {A : Type 0} → true ≡ false → A
true_not_false e = absurd (true≢false e)

pub and_split : (a b : Bool) → (a && b) ≡ true → (a ≡ true) × (b ≡ true)
and_split a b = (and-eq-true_iff a b).0

pub or_split : (a b : Bool) → (a || b) ≡ false → (a ≡ false) × (b ≡ false)
or_split a b = (or-eq-false-eq-eq-false-and-eq-false a b).0

pub or_cases : (a b : Bool) → (a || b) ≡ true → (a ≡ true) ⊎ (b ≡ true)
or_cases true b e = inl refl
or_cases false b e = inr e

-- counting the tests that fail: one that holds wherever another does fails no more often
pub count_le_one : (a : Bool) → cond a 0 1 ≤ 1
count_le_one true = omega arith
count_le_one false = omega arith

pub count_le : (a b : Bool) → (b ≡ true → a ≡ true) → cond a 0 1 ≤ cond b 0 1
count_le true b h = omega arith
count_le false true h = true_not_false (sym (h refl))
count_le false false h = omega arith

-- a test that holds wherever two others do counts at least as much as the one less what the other lacks
pub count_le_both : (a b c : Bool) → (c ≡ true → a ≡ true → b ≡ true) → cond a 1 0 ≤ cond b 1 0 + cond c 0 1
count_le_both false b c h = omega arith
count_le_both true true c h = omega arith
count_le_both true false false h = omega arith
count_le_both true false true h = true_not_false (sym (h refl refl))
