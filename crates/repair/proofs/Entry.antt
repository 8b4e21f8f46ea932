-- What the repair calls say, case by case: refused under one of the numbers' conditions, or accepted under none of them, and then
-- what the work beneath promises. Assumes nothing.
use mathlib.Core.Path.{◌≡◌, refl, sym, ◌∙◌, subst}
use mathlib.Core.Bool.{Bool, true, false, ◌||◌, not, cond}
use mathlib.Core.List.{List}
use Prim.Native.Nat.{ℕ, zero, suc, ◌*◌, ◌≤◌}
use native.Mathlib.Omega.{arith}
use native.Mathlib.Decide.{ℕ_discrete}
use lib.Dec.{eqb, ltb}
use lib.ListN.{length}
use borrow.Author.Tests.{eq-eqb, ne_eqb, eqb-true, ltb-false}
use Rattle.code.specs.Settings.{Settings, settings, settings_refusal, check_count, value_size}
use Rattle.repair.specs.Entry.{repair_refusal, none_tried, RepairAs, RepairSays, repair_by_refusal, RepairByAs, RepairBySays}

-- three tests of lengths
none_refuses : (a b d : Bool) → ◌≡◌ {A = ℕ} (cond (not a || (not b || d)) 18 0) 0 → (a ≡ true) × (b ≡ true) × (d ≡ false)
none_refuses true true false e = (refl, refl, refl)
none_refuses true true true e = absurd (omega arith)
none_refuses true false d e = absurd (omega arith)
none_refuses false b d e = absurd (omega arith)

-- not refused by the lines of both calls
pub by_passed : (s : Settings) (v d c k : ℕ) → repair_by_refusal s v d c k ≡ 0 → repair_refusal s v c k ≡ 0
unfolding repair_by_refusal
by_passed s v d c k e = go (eqb (repair_refusal s v c k) 0) refl e
  where
    go :
        (q : Bool) → eqb (repair_refusal s v c k) 0 ≡ q →
        cond (not q) (repair_refusal s v c k) (cond (eqb d (check_count s * value_size s)) 0 18) ≡ 0 → repair_refusal s v c k ≡ 0
    go true f z = eqb-true _ _ f
    go false f z = z

-- an answer for which no place was tried, and so none changed
abbrev pub Untried : (number answer changed : ℕ) → (tried : List ℕ) → Type 0
Untried number r m k = (r ≡ number) × (m ≡ 0) × (k ≡ none_tried)

module _ (n t w : ℕ) where
  -- the number
  module _ (v c k : ℕ) where
    refused_settings :
        (r : ℕ) → r ≡ settings_refusal (settings n t w) → (r ≡ 0 → ⊥) → r ≡ repair_refusal (settings n t w) v c k
    unfolding repair_refusal
    refused_settings r e h = rw (← e, ne_eqb r 0 h)

    number :
        settings_refusal (settings n t w) ≡ 0 →
        repair_refusal (settings n t w) v c k ≡ cond (not (eqb v (n * w)) || (not (eqb c (2 * t * w)) || ltb k (n * w))) 18 0
    unfolding repair_refusal settings check_count value_size
    number e = rw e

    pub record Accepted : Type 0 where
      pub allowed : settings_refusal (settings n t w) ≡ 0
      pub vector : v ≡ n * w
      pub checks : c ≡ 2 * t * w
      pub room : n * w ≤ k

    pub accepted : repair_refusal (settings n t w) v c k ≡ 0 → Accepted
    accepted e = go (ℕ_discrete (settings_refusal (settings n t w)) 0)
      where
        go : Dec (settings_refusal (settings n t w) ≡ 0) → Accepted
        go (yes f) =
            let p = none_refuses (eqb v (n * w)) (eqb c (2 * t * w)) (ltb k (n * w)) (sym (number f) ∙ e) in
            record { allowed = f; vector = eqb-true v (n * w) p.0; checks = eqb-true c (2 * t * w) p.1; room = ltb-false k (n * w) p.2 }
        go (no f) = absurd (f (refused_settings (settings_refusal (settings n t w)) refl f ∙ e))

  -- what the calls say
  module _ (vector checks out : List ℕ) where
    refused_as : (number r m : ℕ) (k : List ℕ) → (number ≡ 0 → ⊥) → Untried number r m k → RepairAs number (settings n t w) vector checks r m k out out
    unfolding RepairAs
    refused_as zero r m k h u = absurd (h refl)
    refused_as (suc i) r m k h u = (u.0, u.1, u.2, refl)

    pub repair_refused :
        (number r m : ℕ) (k : List ℕ) → number ≡ repair_refusal (settings n t w) (length vector) (length checks) (length out) → (number ≡ 0 → ⊥) →
        Untried number r m k → RepairSays n t w vector checks r m k out out
    unfolding RepairSays
    repair_refused number r m k e h u = subst (λ (i : ℕ). RepairAs i (settings n t w) vector checks r m k out out) e (refused_as number r m k h u)

    pub repair_done :
        (r m : ℕ) (k now : List ℕ) → repair_refusal (settings n t w) (length vector) (length checks) (length out) ≡ 0 →
        RepairAs 0 (settings n t w) vector checks r m k out now → RepairSays n t w vector checks r m k out now
    unfolding RepairSays
    repair_done r m k now e d = subst (λ (i : ℕ). RepairAs i (settings n t w) vector checks r m k out now) (sym e) d

    module _ (own : List ℕ) where
      by_as : (number r m : ℕ) (k : List ℕ) → (number ≡ 0 → ⊥) → Untried number r m k → RepairByAs number (settings n t w) vector own checks r m k out out
      unfolding RepairByAs
      by_as zero r m k h u = absurd (h refl)
      by_as (suc i) r m k h u = (u.0, u.1, u.2, refl)

      pub repair_by_refused :
          (number r m : ℕ) (k : List ℕ) → number ≡ repair_refusal (settings n t w) (length vector) (length checks) (length out) → (number ≡ 0 → ⊥) →
          Untried number r m k → RepairBySays n t w vector own checks r m k out out
      unfolding RepairBySays repair_by_refusal
      repair_by_refused number r m k e h u =
          subst (λ (i : ℕ). RepairByAs i (settings n t w) vector own checks r m k out out) (sym same) (by_as number r m k h u)
        where
          same : repair_by_refusal (settings n t w) (length vector) (length own) (length checks) (length out) ≡ number
          same = rw (← e, ne_eqb number 0 h)

      own_number :
          repair_refusal (settings n t w) (length vector) (length checks) (length out) ≡ 0 →
          repair_by_refusal (settings n t w) (length vector) (length own) (length checks) (length out) ≡ cond (eqb (length own) (2 * t * w)) 0 18
      unfolding repair_by_refusal settings check_count value_size
      own_number e = rw e

      pub repair_by_own :
          (r m : ℕ) (k : List ℕ) → repair_refusal (settings n t w) (length vector) (length checks) (length out) ≡ 0 → (length own ≡ 2 * t * w → ⊥) →
          Untried 18 r m k → RepairBySays n t w vector own checks r m k out out
      unfolding RepairBySays
      repair_by_own r m k e h u =
          subst (λ (i : ℕ). RepairByAs i (settings n t w) vector own checks r m k out out) (sym (own_number e ∙ refuses)) (by_as 18 r m k (λ z. omega arith) u)
        where
          refuses : ◌≡◌ {A = ℕ} (cond (eqb (length own) (2 * t * w)) 0 18) 18
          refuses = rw (ne_eqb (length own) (2 * t * w) h)

      pub repair_by_done :
          (r m : ℕ) (k now : List ℕ) → repair_refusal (settings n t w) (length vector) (length checks) (length out) ≡ 0 → length own ≡ 2 * t * w →
          RepairByAs 0 (settings n t w) vector own checks r m k out now → RepairBySays n t w vector own checks r m k out now
      unfolding RepairBySays
      repair_by_done r m k now e h d = subst (λ (i : ℕ). RepairByAs i (settings n t w) vector own checks r m k out now) (sym (own_number e ∙ passes)) d
        where
          passes : ◌≡◌ {A = ℕ} (cond (eqb (length own) (2 * t * w)) 0 18) 0
          passes = rw (eq-eqb (length own) (2 * t * w) h)
