-- A polynomial at the end of an array: what is left of a sum, a multiple or a raised polynomial without its first coefficients, and that
-- a power of x and two factors come in in any order. Zeros in front of a polynomial are a power of x. Assumes nothing.
use mathlib.Core.Path.{◌≡◌, refl, sym, ◌∙◌, ap, ap₂}
use mathlib.Core.List.{List, [], ◌∷◌}
use Prim.Native.Nat.{ℕ, zero, suc, ◌-◌, ◌<◌, ◌≤◌}
use native.Mathlib.Omega.{arith}
use lib.ListN.{length, get_or, drop}
use Rattle.field.specs.Field.{times}
use Rattle.field.proofs.Times.{times_zero}
use Rattle.field.proofs.Logarithm.{times_assoc}
use Rattle.code.specs.Polynomial.{added, scaled}
use Rattle.locator.specs.Locator.{raised}
use Rattle.locator.proofs.Polynomials.Coefficients.{added_none}

pub drop_added : (n : ℕ) (p q : List ℕ) → drop n (added p q) ≡ added (drop n p) (drop n q)
unfolding added
drop_added zero p q = refl
drop_added (suc n) [] q = refl
drop_added (suc n) (x ∷ p) [] = sym (added_none (drop n p))
drop_added (suc n) (x ∷ p) (y ∷ q) = drop_added n p q

pub drop_scaled : (n c : ℕ) (p : List ℕ) → drop n (scaled c p) ≡ scaled c (drop n p)
unfolding scaled
drop_scaled zero c p = refl
drop_scaled (suc n) c [] = refl
drop_scaled (suc n) c (x ∷ p) = drop_scaled n c p

pub drop_raised : (n s : ℕ) (p : List ℕ) → n ≤ s → drop n (raised s p) ≡ raised (s - n) p
unfolding raised
drop_raised zero s p h = ap (λ (m : ℕ). raised m p) (let e : s ≡ s - 0 = omega arith in e)
drop_raised (suc n) zero p h = absurd (omega arith)
drop_raised (suc n) (suc s) p h = drop_raised n s p (omega arith) ∙ ap (λ (m : ℕ). raised m p) (let e : s - n ≡ suc s - suc n = omega arith in e)

pub raised_scaled : (s c : ℕ) (p : List ℕ) → c < 256 → raised s (scaled c p) ≡ scaled c (raised s p)
unfolding raised scaled
raised_scaled zero c p h = refl
raised_scaled (suc s) c p h = ap₂ (λ (x : ℕ) (q : List ℕ). x ∷ q) (sym (times_zero c h)) (raised_scaled s c p h)

pub scaled_scaled : (d c : ℕ) (p : List ℕ) → d < 256 → c < 256 → scaled d (scaled c p) ≡ scaled (times d c) p
unfolding scaled
scaled_scaled d c [] h l = refl
scaled_scaled d c (x ∷ p) h l = ap₂ (λ (y : ℕ) (q : List ℕ). y ∷ q) (sym (times_assoc d c x h l)) (scaled_scaled d c p h l)

-- zeros up to a
pub drop_zeros :
    (n a : ℕ) (p : List ℕ) → n ≤ a → a ≤ length p → ((i : ℕ) → i < a → get_or p i 0 ≡ 0) → drop n p ≡ raised (a - n) (drop a p)
unfolding raised
drop_zeros zero zero p h l z = refl
drop_zeros (suc n) zero p h l z = absurd (omega arith)
drop_zeros n (suc a) [] h l z = absurd (omega arith)
drop_zeros zero (suc a) (x ∷ p) h l z =
    ap₂ (λ (y : ℕ) (q : List ℕ). y ∷ q) (z 0 (omega arith)) (drop_zeros zero a p (omega arith) (omega arith) (λ i m. z (suc i) (omega arith)))
    ∙ ap (λ (m : ℕ). raised (suc m) (drop a p)) (let e : a - 0 ≡ a = omega arith in e)
    ∙ ap (λ (m : ℕ). raised m (drop a p)) (let e : suc a ≡ suc a - 0 = omega arith in e)
drop_zeros (suc n) (suc a) (x ∷ p) h l z =
    drop_zeros n a p (omega arith) (omega arith) (λ i m. z (suc i) (omega arith))
    ∙ ap (λ (m : ℕ). raised m (drop a p)) (let e : a - n ≡ suc a - suc n = omega arith in e)
