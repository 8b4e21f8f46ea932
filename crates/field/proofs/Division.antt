-- The 254th power is the inverse: of 2^i it is 2^(254 i), and 2^255 is 1. Assumes nothing.
use mathlib.Core.Path.{◌≡◌, refl, sym, ◌∙◌, ap}
use Prim.Native.Nat.{ℕ, ◌+◌, ◌*◌, ◌-◌, ◌%◌, ◌<◌}
use native.Mathlib.Omega.{arith}
use Rattle.field.specs.Field.{plus, xor_from, doubled, times, times_from, power, inverse}
use Rattle.field.proofs.Times.{zero_times}
use Rattle.field.proofs.Power.{power_suc, power_lt, power_add, power_mul, power_mod, order_of_two}
use Rattle.field.proofs.Logarithm.{logarithm, times_assoc, times_comm, times_one}

pub inverse_zero : inverse 0 ≡ 0
unfolding inverse
inverse_zero = power_suc 0 253 ∙ zero_times _

pub inverse_one : inverse 1 ≡ 1
unfolding inverse power times times_from doubled plus xor_from
inverse_one = refl

pub inverse_lt : (a : ℕ) → inverse a < 256
unfolding inverse
inverse_lt a = power_lt a 254

-- the power of a power of 2 with the exponents' sum 255
pub inverse_power : (i : ℕ) → i < 255 → inverse (power 2 i) ≡ power 2 (255 - i)
unfolding inverse
inverse_power i h =
    power_mul i 254 ∙ sym (power_mod (i * 254)) ∙ ap (power 2) remainders ∙ power_mod (255 - i)
  where
    remainders : i * 254 % 255 ≡ (255 - i) % 255
    remainders = omega arith

pub times_inverse : (a : ℕ) → a < 256 → (a ≡ 0 → ⊥) → times a (inverse a) ≡ 1
times_inverse a h z =
    let f = logarithm a h z in
    rw (← f.2)
    (ap (times (power 2 f.0)) (inverse_power f.0 f.1) ∙ power_add f.0 (255 - f.0)
    ∙ ap (power 2) (let l = f.1 in let e : f.0 + (255 - f.0) ≡ 255 = omega arith in e) ∙ order_of_two)

-- dividing, then multiplying again
pub divide_times : (a b : ℕ) → a < 256 → b < 256 → (b ≡ 0 → ⊥) → times (times a (inverse b)) b ≡ a
divide_times a b h l z =
    times_assoc a (inverse b) b h (inverse_lt b) ∙ ap (times a) (times_comm (inverse b) b (inverse_lt b) l ∙ times_inverse b l z) ∙ times_one a h

-- multiplying, then dividing again
pub times_divide : (a b : ℕ) → a < 256 → b < 256 → (b ≡ 0 → ⊥) → times (times a b) (inverse b) ≡ a
times_divide a b h l z = times_assoc a b (inverse b) h l ∙ ap (times a) (times_inverse b l z) ∙ times_one a h
