-- What `check_values` says, case by case: refused for its settings, refused for a length, or done. Assumes nothing.
use mathlib.Core.Path.{◌≡◌, refl, sym, ◌∙◌, subst}
use mathlib.Core.Bool.{Bool, true, false, ◌||◌, not, cond}
use mathlib.Core.List.{List}
use mathlib.Core.Logic.{◌⊎◌, inl, inr}
use Prim.Native.Nat.{ℕ, zero, suc, ◌*◌, ◌≤◌}
use native.Mathlib.Omega.{arith}
use lib.Dec.{eqb, ltb}
use lib.ListN.{length}
use borrow.Author.Tests.{eq-eqb, ne_eqb, le-ltb}
use Rattle.code.specs.Settings.{settings, settings_refusal, check_count, value_size}
use Rattle.code.specs.Entry.{checks_refusal, ChecksPut, ChecksAs, ChecksSays}

-- one of two tests that refuse
pub refused_by : (a b : Bool) → (a ≡ false) ⊎ (b ≡ true) → ◌≡◌ {A = ℕ} (cond (not a || b) 18 0) 18
refused_by false b s = refl
refused_by true true s = refl
refused_by true false (inl e) = absurd (let z : ◌≡◌ {A = ℕ} 0 1 = cc in omega arith)
refused_by true false (inr e) = absurd (let z : ◌≡◌ {A = ℕ} 0 1 = cc in omega arith)

module _ (n t w : ℕ) (vector out : List ℕ) where
  refused_as : (k : ℕ) → (k ≡ 0 → ⊥) → ChecksAs k (settings n t w) vector k out out
  unfolding ChecksAs
  refused_as zero h = absurd (h refl)
  refused_as (suc k) h = (refl, refl)

  pub checks_settings : (k : ℕ) → k ≡ settings_refusal (settings n t w) → (k ≡ 0 → ⊥) → ChecksSays n t w vector k out out
  unfolding ChecksSays checks_refusal
  checks_settings k e h = subst (λ (j : ℕ). ChecksAs j (settings n t w) vector k out out) (sym number) (refused_as k h)
    where
      number : checks_refusal (settings n t w) (length vector) (length out) ≡ k
      number = rw (← e, ne_eqb k 0 h)

  checks_number :
      settings_refusal (settings n t w) ≡ 0 →
      checks_refusal (settings n t w) (length vector) (length out) ≡ cond (not (eqb (length vector) (n * w)) || ltb (length out) (2 * t * w)) 18 0
  unfolding checks_refusal settings check_count value_size
  checks_number e = rw e

  pub checks_length :
      settings_refusal (settings n t w) ≡ 0 → (eqb (length vector) (n * w) ≡ false) ⊎ (ltb (length out) (2 * t * w) ≡ true) → ChecksSays n t w vector 18 out out
  unfolding ChecksSays
  checks_length e s =
      subst (λ (j : ℕ). ChecksAs j (settings n t w) vector 18 out out)
      (sym (checks_number e ∙ refused_by (eqb (length vector) (n * w)) (ltb (length out) (2 * t * w)) s)) (refused_as 18 (λ z. omega arith))

  pub checks_done :
      (now : List ℕ) → settings_refusal (settings n t w) ≡ 0 → length vector ≡ n * w → 2 * t * w ≤ length out → ChecksPut (settings n t w) vector out now →
      ChecksSays n t w vector 0 out now
  unfolding ChecksSays ChecksAs
  checks_done now e l h d = subst (λ (j : ℕ). ChecksAs j (settings n t w) vector 0 out now) (sym (checks_number e ∙ number)) (refl, d)
    where
      number : ◌≡◌ {A = ℕ} (cond (not (eqb (length vector) (n * w)) || ltb (length out) (2 * t * w)) 18 0) 0
      number = rw (eq-eqb (length vector) (n * w) l, le-ltb (length out) (2 * t * w) h)

  -- what a caller with right settings and lengths learns
  pub checks_given :
      (answer : ℕ) (now : List ℕ) → settings_refusal (settings n t w) ≡ 0 → length vector ≡ n * w → 2 * t * w ≤ length out →
      ChecksSays n t w vector answer out now → ChecksPut (settings n t w) vector out now
  unfolding ChecksSays ChecksAs
  checks_given answer now e l h d = (subst (λ (j : ℕ). ChecksAs j (settings n t w) vector answer out now) (checks_number e ∙ number) d).1
    where
      number : ◌≡◌ {A = ℕ} (cond (not (eqb (length vector) (n * w)) || ltb (length out) (2 * t * w)) 18 0) 0
      number = rw (eq-eqb (length vector) (n * w) l, le-ltb (length out) (2 * t * w) h)
