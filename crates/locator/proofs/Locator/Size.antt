-- The locator of a list of places from their power sums. A polynomial P against the sums is again a power sum: that of the
-- places with y·P(x) for y. So where as many sums vanish as places have y not zero, all y·P(x) are zero. Hence the locator
-- never grows past the number of such places, and after twice as many sums each of them is its root. Assumes nothing.
use mathlib.Core.Path.{◌≡◌, sym, ◌∙◌, ap₂}
use mathlib.Core.List.{List, [], ◌∷◌}
use Prim.Native.Nat.{ℕ, zero, suc, ◌+◌, ◌-◌, ◌<◌, ◌≤◌}
use native.Mathlib.Omega.{arith}
use native.Mathlib.Decide.{dec_le}
use Rattle.field.specs.Field.{plus, times, power}
use Rattle.code.specs.Polynomial.{eval}
use Rattle.arrays.proofs.Bytes.{Bytes}
use Rattle.code.proofs.Codewords.Place.{Place, BytePlaces, Different, AllZero, nonzero, weighed, weighed_bytes, weighed_different, weighed_nonzero}
use Rattle.code.proofs.Codewords.PowerSum.{power_sum, power_sum_lt, power_sum_zero, few_nonzero}
use Rattle.locator.specs.Locator.{against, start, longer, as_long, massey}
use Rattle.locator.proofs.Polynomials.Against.{against_plus, against_zeros, against_powers}
use Rattle.locator.proofs.Locator.Shape.{changed_cases, massey_shape, locator_bytes}
use Rattle.locator.proofs.Locator.Massey.{Cancels, massey_cancels, same_discrepancy}

pub against_power_sums :
    (ps : List ℕ) (j : ℕ) (qs : List Place) → Bytes ps → BytePlaces qs → against ps (λ i. power_sum i qs) j ≡ power_sum j (weighed (eval ps) qs)
unfolding power_sum weighed
against_power_sums ps j [] b g = against_zeros ps j b
against_power_sums ps j (q ∷ qs) b g =
    against_plus (λ i. times q.y (power q.x i)) (λ i. power_sum i qs) ps j b
    ∙ ap₂ plus (against_powers q.x q.y ps j g.0 g.1 b) (against_power_sums ps j qs b g.2)

module _ (qs : List Place) (g : BytePlaces qs) (d : Different qs) where
  pub weighed_zeros :
      (ps : List ℕ) (m : ℕ) → Bytes ps → nonzero qs ≤ m → ((i : ℕ) → i < m → against ps (λ i. power_sum i qs) i ≡ 0) → AllZero (weighed (eval ps) qs)
  weighed_zeros ps m b h e =
      few_nonzero m (weighed (eval ps) qs) (weighed_bytes (eval ps) qs g) (weighed_different (eval ps) qs d) (omega (arith, weighed_nonzero (eval ps) qs))
      (λ i l. sym (against_power_sums ps i qs b g) ∙ e i l)

  module _ (S : ℕ → ℕ) (n : ℕ) (sums : (i : ℕ) → i < n → S i ≡ power_sum i qs) where
    cancels : (k : ℕ) → k ≤ n → Cancels (λ i. power_sum i qs) k (massey S k)
    cancels = massey_cancels (λ i. power_sum i qs) (λ i. power_sum_lt i qs) S n sums

    roots_at : (k m : ℕ) → k ≤ n → m + (massey S k).size ≤ k → nonzero qs ≤ m → AllZero (weighed (eval (massey S k).locator) qs)
    roots_at k m h l e =
        weighed_zeros (massey S k).locator m (locator_bytes k (massey S k) (massey_shape S k)) e (λ i o. (cancels k h).zeros i (omega arith))

    -- there is none once as many sums came before as places have y not zero
    no_discrepancy : (k : ℕ) → k < n → nonzero qs ≤ k - (massey S k).size → against (massey S k).locator S (k - (massey S k).size) ≡ 0
    no_discrepancy k h l =
        let w = massey_shape S k in
        same_discrepancy (λ i. power_sum i qs) (λ i. power_sum_lt i qs) S n sums k h
        ∙ against_power_sums (massey S k).locator (k - (massey S k).size) qs (locator_bytes k (massey S k) w) g
        ∙ power_sum_zero _ _ (roots_at k (k - (massey S k).size) (omega arith) (omega (arith, w.below)) l)

    pub size_le_nonzero : (k : ℕ) → k ≤ n → (massey S k).size ≤ nonzero qs
    unfolding massey start longer as_long
    size_le_nonzero zero h = omega arith
    size_le_nonzero (suc k) h =
        changed_cases k (against (massey S k).locator S (k - (massey S k).size)) (massey S k) (λ z. z.size ≤ nonzero qs) (λ z. size_le_nonzero k (omega arith))
        (λ z l. go z (dec_le (nonzero qs) (k - (massey S k).size))) (λ z l. size_le_nonzero k (omega arith))
      where
        go :
            (against (massey S k).locator S (k - (massey S k).size) ≡ 0 → ⊥) → Dec (nonzero qs ≤ k - (massey S k).size) → suc k - (massey S k).size ≤ nonzero qs
        go z (yes l) = absurd (z (no_discrepancy k h l))
        go z (no l) = omega (arith, (massey_shape S k).below)

    pub roots_all : (k : ℕ) → k ≤ n → nonzero qs + nonzero qs ≤ k → AllZero (weighed (eval (massey S k).locator) qs)
    roots_all k h l =
        let o = size_le_nonzero k h in roots_at k (k - (massey S k).size) h (omega (arith, (massey_shape S k).below)) (omega arith)
