-- The powers of 2 are repeated doublings of 1, and multiplying by one doubles that often. So exponents add, doubling never
-- leads to 0, and two of the 255 powers are equal only where a power below 255 is 1, which one computed test rules out.
-- Assumes nothing.
use mathlib.Core.Path.{◌≡◌, refl, sym, ◌∙◌, ap, subst}
use mathlib.Core.Bool.{Bool, true, not}
use Prim.Native.Nat.{ℕ, zero, suc, ◌+◌, ◌*◌, ◌-◌, ◌%◌, ◌/◌, ◌<◌}
use native.Mathlib.Omega.{arith}
use native.Mathlib.Nat.{zero-add, suc-add, mul-zero, mul-suc, add_comm}
use lib.Dec.{T, eqb, ltb, T_not, ltb→lt}
use Rattle.field.specs.Field.{plus, xor_from, doubled, times, power}
use Rattle.field.proofs.Xor.{plus_self, plus_lt, equal_of_plus_zero}
use Rattle.field.proofs.Times.{doubled_plus, doubled_lt, times_lt, times_doubled, one_times, two_times}
use Rattle.field.proofs.Test.{below, both, both_left, both_right}

-- powers of any byte
pub power_zero : (x : ℕ) → power x 0 ≡ 1
unfolding power
power_zero x = refl

pub power_suc : (x i : ℕ) → power x (suc i) ≡ times x (power x i)
unfolding power
power_suc x i = refl

pub power_lt : (x i : ℕ) → power x i < 256
unfolding power
power_lt x zero = omega arith
power_lt x (suc i) = times_lt x (power x i)

-- i doublings of x
unfoldable pub doublings : (i x : ℕ) → ℕ
doublings zero x = x
doublings (suc i) x = doubled (doublings i x)

pub doublings_none : (x : ℕ) → doublings zero x ≡ x
unfolding doublings
doublings_none x = refl

pub doublings_inner : (i x : ℕ) → doublings i (doubled x) ≡ doublings (suc i) x
unfolding doublings
doublings_inner zero x = refl
doublings_inner (suc i) x = ap doubled (doublings_inner i x)

doublings_lt : (i x : ℕ) → x < 256 → doublings i x < 256
unfolding doublings
doublings_lt zero x h = h
doublings_lt (suc i) x h = doubled_lt _ (doublings_lt i x h)

doublings_add : (i j x : ℕ) → doublings (i + j) x ≡ doublings i (doublings j x)
unfolding doublings
doublings_add zero j x = rw zero-add
doublings_add (suc i) j x = rw suc-add (ap doubled (doublings_add i j x))

times_doublings : (i a b : ℕ) → a < 256 → times (doublings i a) b ≡ doublings i (times a b)
unfolding doublings
times_doublings zero a b h = refl
times_doublings (suc i) a b h = times_doubled (doublings i a) b (doublings_lt i a h) ∙ ap doubled (times_doublings i a b h)

-- a power of 2 is that many doublings of 1, and a factor that is one doubles that often
pub power_doublings : (i : ℕ) → power 2 i ≡ doublings i 1
unfolding doublings power
power_doublings zero = refl
power_doublings (suc i) = ap (times 2) (power_doublings i) ∙ two_times (doublings i 1) (doublings_lt i 1 (omega arith))

pub power_times : (i b : ℕ) → b < 256 → times (power 2 i) b ≡ doublings i b
power_times i b h =
    ap (λ (x : ℕ). times x b) (power_doublings i) ∙ times_doublings i 1 b (omega arith) ∙ ap (doublings i) (one_times b h)

-- the product with a power of 2 may be taken first or last
pub power_times_assoc : (i b c : ℕ) → b < 256 → times (times (power 2 i) b) c ≡ times (power 2 i) (times b c)
power_times_assoc i b c h =
    ap (λ (x : ℕ). times x c) (power_times i b h) ∙ times_doublings i b c h ∙ sym (power_times i (times b c) (times_lt b c))

pub power_add : (i j : ℕ) → times (power 2 i) (power 2 j) ≡ power 2 (i + j)
power_add i j =
    power_times i (power 2 j) (power_lt 2 j) ∙ ap (doublings i) (power_doublings j) ∙ sym (doublings_add i j 1) ∙ sym (power_doublings (i + j))

pub power_mul : (m k : ℕ) → power (power 2 m) k ≡ power 2 (m * k)
power_mul m zero = power_zero _ ∙ sym (ap (power 2) (mul-zero m) ∙ power_zero 2)
power_mul m (suc k) =
    power_suc (power 2 m) k ∙ ap (times (power 2 m)) (power_mul m k) ∙ power_add m (m * k) ∙ ap (power 2) (add_comm m (m * k) ∙ sym (mul-suc m k))

-- doubling loses nothing
doubled_positive : (n : ℕ) → n < 255 → 0 < doubled (suc n)
unfolding doubled plus xor_from
doubled_positive n h = ltb→lt 0 _ (below (λ m. ltb 0 (doubled (suc m))) 255 tt n h)

doubled_nonzero : (a : ℕ) → a < 256 → doubled a ≡ 0 → a ≡ 0
doubled_nonzero zero h e = refl
doubled_nonzero (suc a) h e = absurd (omega (arith, doubled_positive a (omega arith)))

pub doublings_nonzero : (i a : ℕ) → a < 256 → doublings i a ≡ 0 → a ≡ 0
unfolding doublings
doublings_nonzero zero a h e = e
doublings_nonzero (suc i) a h e = doublings_nonzero i a h (doubled_nonzero (doublings i a) (doublings_lt i a h) e)

pub power_nonzero : (k : ℕ) → power 2 k ≡ 0 → ⊥
power_nonzero k e = let z : ◌≡◌ {A = ℕ} 1 0 = doublings_nonzero k 1 (omega arith) (sym (power_doublings k) ∙ e) in omega arith

doubled_injective : (a b : ℕ) → a < 256 → b < 256 → doubled a ≡ doubled b → a ≡ b
doubled_injective a b h l e =
    equal_of_plus_zero a b h l
    (doubled_nonzero (plus a b) (plus_lt a b) (doubled_plus a b h l ∙ ap (λ (x : ℕ). plus x (doubled b)) e ∙ plus_self (doubled b)))

doublings_injective : (i a b : ℕ) → a < 256 → b < 256 → doublings i a ≡ doublings i b → a ≡ b
unfolding doublings
doublings_injective zero a b h l e = e
doublings_injective (suc i) a b h l e =
    doublings_injective i a b h l (doubled_injective _ _ (doublings_lt i a h) (doublings_lt i b l) e)

-- 2^255 = 1
pub order_of_two : power 2 255 ≡ 1
unfolding doublings doubled plus xor_from
order_of_two = power_doublings 255 ∙ refl

-- and no power before it
abbrev never_one : (n x : ℕ) → Bool
never_one zero x = true
never_one (suc n) x = both (not (eqb x 1)) (never_one n (doubled x))

never_one_at : (n x : ℕ) → T (never_one n x) → (k : ℕ) → k < n → doublings k x ≡ 1 → ⊥
never_one_at zero x t k h e = absurd (omega arith)
never_one_at (suc n) x t zero h e =
    T_not (eqb x 1) (both_left (not (eqb x 1)) (never_one n (doubled x)) t) (subst (λ (y : ℕ). T (eqb y 1)) (sym e ∙ doublings_none x) tt)
never_one_at (suc n) x t (suc k) h e =
    never_one_at n (doubled x) (both_right (not (eqb x 1)) (never_one n (doubled x)) t) k (omega arith) (doublings_inner k x ∙ e)

never_one_computed : T (never_one 254 (doubled 1))
unfolding doubled plus xor_from
never_one_computed = tt

one_only_at_zero : (d : ℕ) → d < 254 → doublings (suc d) 1 ≡ 1 → ⊥
one_only_at_zero d h e = never_one_at 254 (doubled 1) never_one_computed d h (doublings_inner d 1 ∙ e)

-- the 255 powers are different
pub powers_differ : (i j : ℕ) → i < j → j < 255 → power 2 i ≡ power 2 j → ⊥
powers_differ i j h l e =
    one_only_at_zero (j - suc i) (omega arith)
    (sym
    (doublings_injective i 1 (doublings (suc (j - suc i)) 1) (omega arith) (doublings_lt (suc (j - suc i)) 1 (omega arith))
    (sym (power_doublings i) ∙ e ∙ power_doublings j ∙ ap (λ (n : ℕ). doublings n 1) apart ∙ doublings_add i (suc (j - suc i)) 1)))
  where
    apart : j ≡ i + suc (j - suc i)
    apart = omega arith

-- an exponent counts modulo 255
pub power_past : (k : ℕ) → power 2 (k + 255) ≡ power 2 k
power_past k =
    sym (power_add k 255) ∙ ap (times (power 2 k)) order_of_two ∙ ap (times (power 2 k)) (sym (power_zero 2)) ∙ power_add k 0
    ∙ ap (power 2) (let e : k + 0 ≡ k = omega arith in e)

power_turns : (q r : ℕ) → power 2 (r + 255 * q) ≡ power 2 r
power_turns zero r = ap (power 2) (let e : r + 255 * 0 ≡ r = omega arith in e)
power_turns (suc q) r = ap (power 2) (let e : r + 255 * suc q ≡ r + 255 * q + 255 = omega arith in e) ∙ power_past (r + 255 * q) ∙ power_turns q r

pub power_mod : (k : ℕ) → power 2 (k % 255) ≡ power 2 k
power_mod k = sym (power_turns (k / 255) (k % 255)) ∙ ap (power 2) (let e : k % 255 + 255 * (k / 255) ≡ k = omega arith in e)
