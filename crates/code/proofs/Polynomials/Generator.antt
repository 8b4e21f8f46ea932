-- The generator is built factor by factor, so each of its laws is an induction over the roots. It is 0 at every root,
-- because one of its factors is; one more factor makes it one coefficient longer and keeps the 1 on top; and its lowest
-- coefficient is the product of the roots, powers of 2, of which none is 0. Assumes nothing.
use mathlib.Core.Path.{◌≡◌, refl, sym, ◌∙◌, ap, ap₂}
use mathlib.Core.List.{List, ◌∷◌}
use Prim.Native.Nat.{ℕ, zero, suc, ◌+◌, ◌<◌}
use native.Mathlib.Omega.{arith}
use native.Mathlib.Decide.{ℕ_discrete}
use lib.Dec.{T, eqb, eqb→eq}
use lib.ListN.{length, get_or, get_or-eq_default}
use Rattle.field.specs.Field.{plus, times}
use Rattle.field.proofs.Test.{below, every}
use Rattle.field.proofs.Xor.{plus_self, plus_lt, plus_zero, zero_plus}
use Rattle.field.proofs.Times.{times_lt, zero_times, times_zero}
use Rattle.field.proofs.Power.{power_lt, power_nonzero, doublings, power_doublings}
use Rattle.field.proofs.Logarithm.{no_zero_divisors}
use Rattle.code.specs.Size.{most_checks}
use Rattle.code.specs.Polynomial.{eval, scaled, first_exponent, root, Roots, times_factor, generator}
use Rattle.arrays.proofs.Bytes.{Bytes, byte_at}
use Rattle.code.proofs.Polynomials.Arithmetic.{eval_factor, get_or_added, get_or_scaled, bytes_added, bytes_scaled, length_added, length_scaled}

-- the roots are bytes but 0
pub root_lt : (i : ℕ) → root i < 256
unfolding root
root_lt i = power_lt 2 (first_exponent + i)

pub root_nonzero : (i : ℕ) → root i ≡ 0 → ⊥
unfolding root
root_nonzero i = power_nonzero (first_exponent + i)

pub roots_tested : (table : List ℕ) → length table ≡ most_checks → T (every (λ i. eqb (get_or table i 0) (doublings (first_exponent + i) 1)) most_checks) → Roots table
unfolding root
roots_tested table e t =
    record { many = e; entry = λ i h. eqb→eq _ _ (below (λ j. eqb (get_or table j 0) (doublings (first_exponent + j) 1)) most_checks t i h) ∙ sym (power_doublings (first_exponent + i)) }

-- one more factor
length_factor : (c : ℕ) (ps : List ℕ) → length (times_factor c ps) ≡ suc (length ps)
unfolding times_factor
length_factor c ps = length_added (0 ∷ ps) (scaled c ps) (omega (arith, length_scaled c ps))

bytes_factor : (c : ℕ) (ps : List ℕ) → Bytes ps → Bytes (times_factor c ps)
unfolding times_factor
bytes_factor c ps b = bytes_added (0 ∷ ps) (scaled c ps) (omega arith, b) (bytes_scaled c ps)

pub get_or_factor : (c : ℕ) (ps : List ℕ) (i : ℕ) → c < 256 → Bytes ps → get_or (times_factor c ps) i 0 ≡ plus (get_or (0 ∷ ps) i 0) (times c (get_or ps i 0))
unfolding times_factor
get_or_factor c ps i h b =
    get_or_added (0 ∷ ps) (scaled c ps) i (omega arith, b) (bytes_scaled c ps) ∙ ap (plus (get_or (0 ∷ ps) i 0)) (get_or_scaled c ps i h)

-- as many coefficients as roots and one, all bytes
pub generator_length : (m : ℕ) → length (generator m) ≡ suc m
unfolding generator
generator_length zero = refl
generator_length (suc m) = length_factor (root m) (generator m) ∙ ap suc (generator_length m)

pub generator_bytes : (m : ℕ) → Bytes (generator m)
unfolding generator
generator_bytes zero = (omega arith, tt)
generator_bytes (suc m) = bytes_factor (root m) (generator m) (generator_bytes m)

-- 0 at every root
pub generator_root : (m i : ℕ) → i < m → eval (generator m) (root i) ≡ 0
unfolding generator
generator_root zero i h = absurd (omega arith)
generator_root (suc m) i h = eval_factor (root m) (generator m) (root i) (root_lt m) (root_lt i) ∙ go (generator_root m i) (ℕ_discrete i m)
  where
    go : (i < m → eval (generator m) (root i) ≡ 0) → Dec (i ≡ m) → times (plus (root i) (root m)) (eval (generator m) (root i)) ≡ 0
    go before (yes e) = rw (e, plus_self) (zero_times _)
    go before (no e) = ap (times (plus (root i) (root m))) (before (omega arith)) ∙ times_zero _ (plus_lt _ _)

-- the highest coefficient is 1, the lowest is not 0
pub generator_leading : (m : ℕ) → get_or (generator m) m 0 ≡ 1
unfolding generator
generator_leading zero = refl
generator_leading (suc m) =
    get_or_factor (root m) (generator m) (suc m) (root_lt m) (generator_bytes m)
    ∙ ap₂ plus (generator_leading m)
    (ap (times (root m)) (get_or-eq_default (generator m) 0 (omega (arith, generator_length m))) ∙ times_zero (root m) (root_lt m))
    ∙ plus_zero 1 (omega arith)

pub generator_constant : (m : ℕ) → get_or (generator m) 0 0 ≡ 0 → ⊥
unfolding generator
generator_constant zero e = omega arith
generator_constant (suc m) e =
    generator_constant m
    (no_zero_divisors (root m) (get_or (generator m) 0 0) (root_lt m) (byte_at (generator m) 0 (generator_bytes m))
    (sym (get_or_factor (root m) (generator m) 0 (root_lt m) (generator_bytes m) ∙ zero_plus _ (times_lt _ _)) ∙ e) (root_nonzero m))
