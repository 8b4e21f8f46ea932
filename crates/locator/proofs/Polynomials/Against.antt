-- The sums Σ p_m · S_(j + m) of a polynomial against a sequence of bytes. They are linear in the polynomial and in the
-- sequence, each by induction over the coefficients; and against y·x^i, the power sums of one place, a polynomial gives its
-- value at x in place of its coefficients. Assumes nothing.
use mathlib.Core.Path.{◌≡◌, refl, sym, ◌∙◌, ap, ap₂}
use mathlib.Core.List.{List, [], ◌∷◌}
use Prim.Native.Nat.{ℕ, zero, suc, ◌+◌, ◌<◌, ◌≤◌}
use native.Mathlib.Nat.{add-zero, suc-add, add-suc}
use native.Mathlib.Omega.{arith}
use lib.ListN.{length}
use Rattle.field.specs.Field.{plus, times, power}
use Rattle.field.proofs.Xor.{plus_self, plus_lt, plus_zero, zero_plus, plus_swap}
use Rattle.field.proofs.Times.{times_lt, times_plus, zero_times, times_zero}
use Rattle.field.proofs.Power.{power_lt, power_suc}
use Rattle.field.proofs.Logarithm.{times_assoc, times_comm, times_left_comm, plus_times}
use Rattle.code.specs.Polynomial.{eval, added, scaled}
use Rattle.arrays.proofs.Bytes.{Bytes}
use Rattle.code.proofs.Polynomials.Arithmetic.{eval_lt}
use Rattle.locator.specs.Locator.{against, raised}

pub against_lt : (ps : List ℕ) (S : ℕ → ℕ) (j : ℕ) → against ps S j < 256
unfolding against
against_lt [] S j = omega arith
against_lt (p ∷ ps) S j = plus_lt _ _

-- only so many numbers of the sequence count
pub against_same :
    (S T : ℕ → ℕ) (n : ℕ) → ((i : ℕ) → i < n → S i ≡ T i) → (ps : List ℕ) (j : ℕ) → j + length ps ≤ n → against ps S j ≡ against ps T j
unfolding against
against_same S T n e [] j h = refl
against_same S T n e (p ∷ ps) j h = ap₂ plus (ap (times p) (e j (omega arith))) (against_same S T n e ps (suc j) (omega arith))

-- of a sum, a multiple and a product with a power of x
module _ (S : ℕ → ℕ) (bytes : (i : ℕ) → S i < 256) where
  pub against_added : (ps qs : List ℕ) (j : ℕ) → Bytes ps → Bytes qs → against (added ps qs) S j ≡ plus (against ps S j) (against qs S j)
  unfolding against added
  against_added [] qs j b c = sym (zero_plus _ (against_lt qs S j))
  against_added (p ∷ ps) [] j b c = sym (plus_zero _ (plus_lt _ _))
  against_added (p ∷ ps) (q ∷ qs) j b c =
      ap₂ plus (plus_times p q (S j) b.0 c.0 (bytes j)) (against_added ps qs (suc j) b.1 c.1) ∙ plus_swap _ _ _ _

  pub against_scaled : (c : ℕ) (ps : List ℕ) (j : ℕ) → c < 256 → Bytes ps → against (scaled c ps) S j ≡ times c (against ps S j)
  unfolding against scaled
  against_scaled c [] j h b = sym (times_zero c h)
  against_scaled c (p ∷ ps) j h b =
      ap₂ plus (times_assoc c p (S j) h b.0) (against_scaled c ps (suc j) h b.1) ∙ sym (times_plus c _ _ h)

pub against_raised : (S : ℕ → ℕ) (s : ℕ) (ps : List ℕ) (j : ℕ) → against (raised s ps) S j ≡ against ps S (j + s)
unfolding against raised
against_raised S zero ps j = ap (against ps S) (sym (add-zero j))
against_raised S (suc s) ps j =
    ap₂ plus (zero_times (S j)) (against_raised S s ps (suc j)) ∙ zero_plus _ (against_lt ps S _)
    ∙ ap (against ps S) (suc-add j s ∙ sym (add-suc j s))

-- against a sum of two sequences, zeros, and the powers of one x
pub against_plus :
    (S T : ℕ → ℕ) (ps : List ℕ) (j : ℕ) → Bytes ps → against ps (λ i. plus (S i) (T i)) j ≡ plus (against ps S j) (against ps T j)
unfolding against
against_plus S T [] j b = sym (plus_self 0)
against_plus S T (p ∷ ps) j b = ap₂ plus (times_plus p (S j) (T j) b.0) (against_plus S T ps (suc j) b.1) ∙ plus_swap _ _ _ _

pub against_zeros : (ps : List ℕ) (j : ℕ) → Bytes ps → against ps (λ i. 0) j ≡ 0
unfolding against
against_zeros [] j b = refl
against_zeros (p ∷ ps) j b = ap₂ plus (times_zero p b.0) (against_zeros ps (suc j) b.1) ∙ plus_self 0

pub against_powers :
    (x y : ℕ) (ps : List ℕ) (j : ℕ) → x < 256 → y < 256 → Bytes ps → against ps (λ i. times y (power x i)) j ≡ times (times y (eval ps x)) (power x j)
unfolding against eval
against_powers x y [] j h l b = sym (ap (λ (z : ℕ). times z (power x j)) (times_zero y l) ∙ zero_times _)
against_powers x y (p ∷ ps) j h l b =
    ap₂ plus (times_left_comm p y (power x j) b.0 l ∙ sym (times_assoc y p (power x j) l b.0)) (against_powers x y ps (suc j) h l b.1 ∙ next)
    ∙ sym (plus_times (times y p) (times y (times x v)) (power x j) (times_lt _ _) (times_lt _ _) (power_lt x j))
    ∙ ap (λ (z : ℕ). times z (power x j)) (sym (times_plus y p (times x v) l))
  where
    v : ℕ
    v = eval ps x

    next : times (times y v) (power x (suc j)) ≡ times (times y (times x v)) (power x j)
    next =
        ap (times (times y v)) (power_suc x j) ∙ sym (times_assoc (times y v) x (power x j) (times_lt _ _) h)
        ∙ ap (λ (z : ℕ). times z (power x j))
        (times_assoc y v x l (eval_lt ps x) ∙ ap (times y) (times_comm v x (eval_lt ps x) h))
