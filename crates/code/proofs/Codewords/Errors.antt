-- Two lists of bytes as places. Where they have u and v for the power k, the place is x = 2^k with y = (u + v)·2^(f·k), f the
-- exponent of the first root, so that its share of power sum i is (u + v)·r^k with r = 2^(f + i) the root i: power sums are
-- values at the roots. Different powers below 255 make different places, and y is zero just where the bytes are equal. Assumes
-- nothing.
use mathlib.Core.Path.{◌≡◌, refl, sym, ◌∙◌, ap, ap₂}
use mathlib.Core.Bool.{true}
use mathlib.Core.List.{List, [], ◌∷◌, ◌++◌}
use Prim.Native.Nat.{ℕ, zero, suc, ◌+◌, ◌*◌, ◌-◌, ◌<◌, ◌≤◌}
use native.Mathlib.Omega.{arith}
use native.Mathlib.Nat.{mul_comm, add-mul}
use lib.Dec.{eqb}
use lib.ListN.{length}
use borrow.Author.Tests.{eqb-true}
use Rattle.arrays.proofs.Bool.{count_le}
use Rattle.field.specs.Field.{plus, times, power}
use Rattle.field.proofs.Xor.{plus_self, plus_lt, plus_swap, equal_of_plus_zero}
use Rattle.field.proofs.Times.{times_lt, zero_times}
use Rattle.field.proofs.Power.{power_lt, power_add, power_mul, power_nonzero, powers_differ}
use Rattle.field.proofs.Logarithm.{times_assoc, times_comm, no_zero_divisors, plus_times}
use Rattle.code.specs.Polynomial.{first_exponent, root}
use Rattle.code.specs.Plane.{summed, differ}
use Rattle.arrays.proofs.Bytes.{Bytes}
use Rattle.code.proofs.Codewords.Place.{Place, BytePlaces, Apart, Different, AllZero, nonzero, apart_append}
use Rattle.code.proofs.Codewords.PowerSum.{power_sum}

-- `summed` by the power above the first, so that it falls to zero with no subtraction
unfoldable pub summed_below : (x above : ℕ) → List ℕ → ℕ
summed_below r zero us = 0
summed_below r (suc k) [] = 0
summed_below r (suc k) (u ∷ us) = plus (times u (power r k)) (summed_below r k us)

one_less : (k : ℕ) → suc k - 1 ≡ k
one_less k = omega arith

pub summed_is_below : (r m : ℕ) (us : List ℕ) → length us ≤ m → summed r (m - 1) us ≡ summed_below r m us
unfolding summed summed_below
summed_is_below r zero [] h = refl
summed_is_below r zero (u ∷ us) h = absurd (omega arith)
summed_is_below r (suc k) [] h = refl
summed_is_below r (suc k) (u ∷ us) h = rw one_less (ap (plus (times u (power r k))) (summed_is_below r k us (omega arith)))

-- the places of two lists whose first bytes belong to the power below the one given
unfoldable pub errors : (above : ℕ) → (us vs : List ℕ) → List Place
errors zero us vs = []
errors (suc k) [] vs = []
errors (suc k) (u ∷ us) [] = []
errors (suc k) (u ∷ us) (v ∷ vs) = record { x = power 2 k; y = times (plus u v) (power 2 (first_exponent * k)) } ∷ errors k us vs

pub errors_bytes : (m : ℕ) (us vs : List ℕ) → BytePlaces (errors m us vs)
unfolding errors
errors_bytes zero us vs = tt
errors_bytes (suc k) [] vs = tt
errors_bytes (suc k) (u ∷ us) [] = tt
errors_bytes (suc k) (u ∷ us) (v ∷ vs) = (power_lt 2 k, times_lt _ _, errors_bytes k us vs)

-- power sums
root_power : (i k : ℕ) → times (power 2 (first_exponent * k)) (power (power 2 k) i) ≡ power (root i) k
unfolding root
root_power i k =
    ap (times (power 2 (first_exponent * k))) (power_mul k i) ∙ power_add (first_exponent * k) (k * i)
    ∙ ap (power 2) (ap (λ (n : ℕ). first_exponent * k + n) (mul_comm k i) ∙ sym (add-mul first_exponent i k)) ∙ sym (power_mul (first_exponent + i) k)

error_sum :
    (i k u v : ℕ) → u < 256 → v < 256 →
    times (times (plus u v) (power 2 (first_exponent * k))) (power (power 2 k) i) ≡ plus (times u (power (root i) k)) (times v (power (root i) k))
error_sum i k u v h l =
    times_assoc (plus u v) (power 2 (first_exponent * k)) (power (power 2 k) i) (plus_lt u v) (power_lt 2 (first_exponent * k)) ∙ ap (times (plus u v)) (root_power i k)
    ∙ plus_times u v (power (root i) k) h l (power_lt (root i) k)

pub errors_sum :
    (i m : ℕ) (us vs : List ℕ) → length us ≡ length vs → Bytes us → Bytes vs →
    power_sum i (errors m us vs) ≡ plus (summed_below (root i) m us) (summed_below (root i) m vs)
unfolding power_sum errors summed_below
errors_sum i zero us vs e b c = sym (plus_self 0)
errors_sum i (suc k) [] [] e b c = sym (plus_self 0)
errors_sum i (suc k) [] (v ∷ vs) e b c = absurd (omega arith)
errors_sum i (suc k) (u ∷ us) [] e b c = absurd (omega arith)
errors_sum i (suc k) (u ∷ us) (v ∷ vs) e b c =
    ap₂ plus (error_sum i k u v b.0 c.0) (errors_sum i k us vs (omega arith) b.1 c.1) ∙ plus_swap _ _ _ _

-- different places, also with those of a second pair of lists at lower powers
errors_apart : (m e : ℕ) (us vs : List ℕ) → m ≤ e → e < 255 → Apart (power 2 e) (errors m us vs)
unfolding errors
errors_apart zero e us vs h l = tt
errors_apart (suc k) e [] vs h l = tt
errors_apart (suc k) e (u ∷ us) [] h l = tt
errors_apart (suc k) e (u ∷ us) (v ∷ vs) h l = (powers_differ k e (omega arith) l, errors_apart k e us vs (omega arith) l)

errors_different : (m : ℕ) (us vs : List ℕ) → m ≤ 255 → Different (errors m us vs)
unfolding errors
errors_different zero us vs l = tt
errors_different (suc k) [] vs l = tt
errors_different (suc k) (u ∷ us) [] l = tt
errors_different (suc k) (u ∷ us) (v ∷ vs) l = (errors_apart k k us vs (omega arith) (omega arith), errors_different k us vs (omega arith))

pub errors_different_both :
    (m low : ℕ) (us vs ds es : List ℕ) → length us + low ≤ m → m ≤ 255 → Different (errors m us vs ++ errors low ds es)
unfolding errors
errors_different_both zero low us vs ds es h l = errors_different low ds es (omega arith)
errors_different_both (suc k) low [] vs ds es h l = errors_different low ds es (omega arith)
errors_different_both (suc k) low (u ∷ us) [] ds es h l = errors_different low ds es (omega arith)
errors_different_both (suc k) low (u ∷ us) (v ∷ vs) ds es h l = (
  apart_append (power 2 k) (errors k us vs) (errors low ds es) (errors_apart k k us vs (omega arith) (omega arith))
      (errors_apart low k ds es (omega arith) (omega arith)),
  errors_different_both k low us vs ds es (omega arith) (omega arith),
)

-- no more of them are not zero than the lists have differences
error_zero : (u v k : ℕ) → eqb u v ≡ true → eqb (times (plus u v) (power 2 (first_exponent * k))) 0 ≡ true
error_zero u v k e = rw (eqb-true u v e, plus_self v, zero_times (power 2 (first_exponent * k)))

pub errors_count : (m : ℕ) (us vs : List ℕ) → nonzero (errors m us vs) ≤ differ us vs
unfolding errors nonzero differ
errors_count zero us vs = omega arith
errors_count (suc k) [] vs = omega arith
errors_count (suc k) (u ∷ us) [] = omega arith
errors_count (suc k) (u ∷ us) (v ∷ vs) = omega (arith, count_le _ (eqb u v) (error_zero u v k), errors_count k us vs)

-- all zero: the lists are equal
equal_of_error_zero : (u v k : ℕ) → u < 256 → v < 256 → times (plus u v) (power 2 k) ≡ 0 → u ≡ v
equal_of_error_zero u v k h l z =
    equal_of_plus_zero u v h l
    (no_zero_divisors (power 2 k) (plus u v) (power_lt 2 k) (plus_lt u v) (times_comm (power 2 k) (plus u v) (power_lt 2 k) (plus_lt u v) ∙ z) (power_nonzero k))

pub equal_of_errors_zero :
    (m : ℕ) (us vs : List ℕ) → length us ≤ m → length us ≡ length vs → Bytes us → Bytes vs → AllZero (errors m us vs) → us ≡ vs
unfolding errors
equal_of_errors_zero zero [] [] h e b c z = refl
equal_of_errors_zero zero [] (v ∷ vs) h e b c z = absurd (omega arith)
equal_of_errors_zero zero (u ∷ us) vs h e b c z = absurd (omega arith)
equal_of_errors_zero (suc k) [] [] h e b c z = refl
equal_of_errors_zero (suc k) [] (v ∷ vs) h e b c z = absurd (omega arith)
equal_of_errors_zero (suc k) (u ∷ us) [] h e b c z = absurd (omega arith)
equal_of_errors_zero (suc k) (u ∷ us) (v ∷ vs) h e b c z =
    ap₂ ◌∷◌ (equal_of_error_zero u v (first_exponent * k) b.0 c.0 z.0)
    (equal_of_errors_zero k us vs (omega arith) (omega arith) b.1 c.1 z.1)
