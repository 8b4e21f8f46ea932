-- What the steps of Berlekamp and Massey keep, for any sequence S of bytes. After k numbers the locator's sums against S are
-- zero up to the discrepancy d, the sum that ends at number k; those of the polynomial before it are zero, and then one is 1.
-- So d times that polynomial, shifted until its 1 stands where d does, cancels d and disturbs no sum before. Assumes nothing.
use mathlib.Core.Path.{◌≡◌, sym, ◌∙◌, ap, ap₂, subst}
use Prim.Native.Nat.{ℕ, zero, suc, ◌+◌, ◌*◌, ◌-◌, ◌<◌, ◌≤◌}
use native.Mathlib.Omega.{arith}
use native.Mathlib.Decide.{dec_lt}
use Rattle.field.specs.Field.{plus, times, inverse}
use Rattle.field.proofs.Xor.{plus_self}
use Rattle.field.proofs.Times.{times_zero}
use Rattle.field.proofs.Logarithm.{times_comm, times_one}
use Rattle.field.proofs.Division.{inverse_lt, times_inverse}
use Rattle.code.specs.Polynomial.{added, scaled}
use Rattle.code.proofs.Polynomials.Arithmetic.{bytes_scaled}
use Rattle.locator.specs.Locator.{against, raised, State, start, longer, as_long, changed, massey}
use Rattle.locator.proofs.Polynomials.Against.{against_lt, against_same, against_added, against_scaled, against_raised}
use Rattle.locator.proofs.Polynomials.Raised.{raised_bytes}
use Rattle.locator.proofs.Locator.Shape.{StateShape, changed_cases, massey_shape, locator_length, locator_bytes}

pub record Cancels (S : ℕ → ℕ) (k : ℕ) (s : State) : Type 0 where
  pub zeros : (j : ℕ) → j + s.size < k → against s.locator S j ≡ 0
  pub zeros_before : (j : ℕ) → suc j < s.size → against s.before S j ≡ 0
  pub one_before : (j : ℕ) → suc j ≡ s.size → against s.before S j ≡ 1

module _ (S : ℕ → ℕ) (bytes : (i : ℕ) → S i < 256) where
  cancels_start : Cancels S 0 start
  unfolding start
  cancels_start = record { zeros = λ j h. absurd (omega arith); zeros_before = λ j h. absurd (omega arith); one_before = λ j h. absurd (omega arith) }

  module _ (k : ℕ) (s : State) (w : StateShape k s) (h : Cancels S k s) where
    d : ℕ
    d = against s.locator S (k - s.size)

    d_lt : d < 256
    unfolding d
    d_lt = against_lt _ S _

    at_d : (j : ℕ) → j ≡ k - s.size → against s.locator S j ≡ d
    unfolding d
    at_d j e = ap (against s.locator S) e

    -- two terms that cancel, and two that are zero
    cancelled : (a b : ℕ) → a ≡ d → b ≡ 1 → plus a (times d b) ≡ 0
    cancelled a b e f = ap₂ plus e (ap (times d) f ∙ times_one d d_lt) ∙ plus_self d

    undisturbed : (a b : ℕ) → a ≡ 0 → b ≡ 0 → plus a (times d b) ≡ 0
    undisturbed a b e f = ap₂ plus e (ap (times d) f ∙ times_zero d d_lt) ∙ plus_self 0

    cancels_same : d ≡ 0 → Cancels S (suc k) s
    cancels_same z = record { zeros = λ j l. go j l (dec_lt (j + s.size) k); zeros_before = h.zeros_before; one_before = h.one_before }
      where
        go : (j : ℕ) → j + s.size < suc k → Dec (j + s.size < k) → against s.locator S j ≡ 0
        go j l (yes m) = h.zeros j m
        go j l (no m) = at_d j (omega arith) ∙ z

    cancels_as_long : k < 2 * s.size → Cancels S (suc k) (as_long k d s)
    unfolding as_long
    cancels_as_long l =
        record { zeros = λ j m. sum j ∙ go j m (dec_lt (j + s.size) k); zeros_before = h.zeros_before; one_before = h.one_before }
      where
        r : ℕ
        r = 2 * s.size - suc k

        sum :
            (j : ℕ) →
            against (added s.locator (scaled d (raised r s.before))) S j ≡ plus (against s.locator S j) (times d (against s.before S (j + r)))
        sum j =
            against_added S bytes _ _ j (locator_bytes k s w) (bytes_scaled d _)
            ∙ ap (plus _) (against_scaled S bytes d _ j d_lt (raised_bytes r _ w.bytes_before) ∙ ap (times d) (against_raised S r s.before j))

        go : (j : ℕ) → j + s.size < suc k → Dec (j + s.size < k) → plus (against s.locator S j) (times d (against s.before S (j + r))) ≡ 0
        go j m (yes n) = undisturbed _ _ (h.zeros j n) (h.zeros_before (j + r) (omega (arith, w.below)))
        go j m (no n) = cancelled _ _ (at_d j (omega arith)) (h.one_before (j + r) (omega (arith, w.below)))

    cancels_longer : (d ≡ 0 → ⊥) → 2 * s.size ≤ k → Cancels S (suc k) (longer k d s)
    unfolding longer
    cancels_longer z l =
        record {
          zeros = λ j m. sum j ∙ go j (omega arith) (dec_lt (suc j) s.size);
          zeros_before = λ j m. divided j ∙ ap (times (inverse d)) (h.zeros j (omega arith)) ∙ times_zero _ (inverse_lt d);
          one_before = λ j m. divided j ∙ ap (times (inverse d)) (at_d j (omega arith)) ∙ times_comm _ d (inverse_lt d) d_lt ∙ times_inverse d d_lt z;
        }
      where
        r : ℕ
        r = suc k - 2 * s.size

        divided : (j : ℕ) → against (scaled (inverse d) s.locator) S j ≡ times (inverse d) (against s.locator S j)
        divided j = against_scaled S bytes (inverse d) s.locator j (inverse_lt d) (locator_bytes k s w)

        sum :
            (j : ℕ) →
            against (added (raised r s.locator) (scaled d s.before)) S j ≡ plus (against s.locator S (j + r)) (times d (against s.before S j))
        sum j =
            against_added S bytes _ _ j (raised_bytes r _ (locator_bytes k s w)) (bytes_scaled d _)
            ∙ ap₂ plus (against_raised S r s.locator j) (against_scaled S bytes d s.before j d_lt w.bytes_before)

        go : (j : ℕ) → j < s.size → Dec (suc j < s.size) → plus (against s.locator S (j + r)) (times d (against s.before S j)) ≡ 0
        go j m (yes n) = undisturbed _ _ (h.zeros (j + r) (omega arith)) (h.zeros_before j n)
        go j m (no n) = cancelled _ _ (at_d (j + r) (omega arith)) (h.one_before j (omega arith))

    cancels_changed : Cancels S (suc k) (changed k d s)
    cancels_changed = changed_cases k d s (Cancels S (suc k)) cancels_same cancels_longer (λ z. cancels_as_long)

  -- the discrepancies of the steps are those against any sequence that is S where they look
  module _ (T : ℕ → ℕ) (n : ℕ) (same : (i : ℕ) → i < n → T i ≡ S i) where
    pub same_discrepancy :
        (k : ℕ) → k < n → against (massey T k).locator T (k - (massey T k).size) ≡ against (massey T k).locator S (k - (massey T k).size)
    same_discrepancy k h =
        let w = massey_shape T k in
        against_same T S n same (massey T k).locator (k - (massey T k).size) (omega (arith, w.below, locator_length k (massey T k) w))

    pub massey_cancels : (k : ℕ) → k ≤ n → Cancels S k (massey T k)
    unfolding massey d
    massey_cancels zero h = cancels_start
    massey_cancels (suc k) h =
        subst (λ (e : ℕ). Cancels S (suc k) (changed k e (massey T k))) (sym (same_discrepancy k h))
        (cancels_changed k (massey T k) (massey_shape T k) (massey_cancels k (omega arith)))
