-- The laws of addition. Exclusive or is taken bit by bit, so each law is an induction over the bits in which omega does the
-- one step of `% 2` and `/ 2`. Addition is commutative, associative, self-inverse and below 256 for all numbers; only
-- `plus a 0 ≡ a` wants a byte. Assumes nothing.
use mathlib.Core.Path.{◌≡◌, refl, sym, ◌∙◌, ap, ap₂}
use Prim.Native.Nat.{ℕ, zero, suc, ◌+◌, ◌*◌, ◌/◌, ◌%◌, ◌^◌, ◌<◌, ◌≤◌}
use native.Mathlib.Omega.{arith}
use native.Mathlib.Nat.{pow-suc, pow-succ', div-div-eq-div-mul}
use lib.Bits.{bit_xor, xor_step as bitXor-step, differ}
use Rattle.field.specs.Field.{plus, xor_from}

-- any number of bits
pub xor_none : (a b : ℕ) → xor_from zero a b ≡ 0
unfolding xor_from
xor_none a b = refl

pub xor_step : (k a b : ℕ) → xor_from (suc k) a b ≡ (a + b) % 2 + 2 * xor_from k (a / 2) (b / 2)
unfolding xor_from
xor_step k a b = refl

pub xor_bit : (k a b : ℕ) → xor_from (suc k) a b % 2 ≡ (a + b) % 2
xor_bit k a b = rw xor_step (omega arith)

pub xor_half : (k a b : ℕ) → xor_from (suc k) a b / 2 ≡ xor_from k (a / 2) (b / 2)
xor_half k a b = rw xor_step (omega arith)

xor_comm : (k a b : ℕ) → xor_from k a b ≡ xor_from k b a
unfolding xor_from
xor_comm zero a b = refl
xor_comm (suc k) a b = omega (arith, xor_comm k (a / 2) (b / 2))

xor_self : (k a : ℕ) → xor_from k a a ≡ 0
unfolding xor_from
xor_self zero a = refl
xor_self (suc k) a = omega (arith, xor_self k (a / 2))

xor_lt : (k a b : ℕ) → xor_from k a b < 2 ^ k
unfolding xor_from
xor_lt zero a b = omega arith
xor_lt (suc k) a b = rw pow-suc (omega (arith, xor_lt k (a / 2) (b / 2)))

xor_zero : (k a : ℕ) → a < 2 ^ k → xor_from k a 0 ≡ a
unfolding xor_from
xor_zero zero a h = omega arith
xor_zero (suc k) a h = omega (arith, xor_zero k (a / 2) (let g = rw pow-suc at h in omega arith))

parity_left : (x y c : ℕ) → x % 2 ≡ y % 2 → (x + c) % 2 ≡ (y + c) % 2
parity_left x y c e = omega arith

parity_right : (x a y : ℕ) → x % 2 ≡ y % 2 → (a + x) % 2 ≡ (a + y) % 2
parity_right x a y e = omega arith

parity_assoc : (a b c : ℕ) → (a + b + c) % 2 ≡ (a + (b + c)) % 2
parity_assoc a b c = omega arith

-- the inner sums may have more bits than the outer ones
xor_assoc : (k m n a b c : ℕ) → k ≤ m → k ≤ n → xor_from k (xor_from m a b) c ≡ xor_from k a (xor_from n b c)
xor_assoc zero m n a b c h l = xor_none _ _ ∙ sym (xor_none _ _)
xor_assoc (suc k) zero n a b c h l = absurd (omega arith)
xor_assoc (suc k) (suc m) zero a b c h l = absurd (omega arith)
xor_assoc (suc k) (suc m) (suc n) a b c h l =
    rw (xor_step k (xor_from (suc m) a b) c, xor_step k a (xor_from (suc n) b c), xor_half m a b, xor_half n b c)
    (ap₂ (λ (x y : ℕ). x + 2 * y) (parity_left _ (a + b) c (xor_bit m a b) ∙ parity_assoc a b c ∙ sym (parity_right _ a (b + c) (xor_bit n b c)))
    (xor_assoc k m n (a / 2) (b / 2) (c / 2) (omega arith) (omega arith)))

xor_top : (k a b : ℕ) → xor_from (suc k) a b / 2 ^ k ≡ (a / 2 ^ k + b / 2 ^ k) % 2
xor_top zero a b = rw (xor_step, xor_none) (omega arith)
xor_top (suc k) a b =
    rw (pow-succ' 2 k, ← div-div-eq-div-mul (xor_from (suc (suc k)) a b) 2 (2 ^ k), ← div-div-eq-div-mul a 2 (2 ^ k), ← div-div-eq-div-mul b 2 (2 ^ k), xor_half)
    (xor_top k (a / 2) (b / 2))

-- bytes
pub plus_comm : (a b : ℕ) → plus a b ≡ plus b a
unfolding plus
plus_comm a b = xor_comm 8 a b

pub plus_assoc : (a b c : ℕ) → plus (plus a b) c ≡ plus a (plus b c)
unfolding plus
plus_assoc a b c = xor_assoc 8 8 8 a b c (omega arith) (omega arith)

pub plus_self : (a : ℕ) → plus a a ≡ 0
unfolding plus
plus_self a = xor_self 8 a

pub plus_lt : (a b : ℕ) → plus a b < 256
unfolding plus
plus_lt a b = xor_lt 8 a b

pub plus_zero : (a : ℕ) → a < 256 → plus a 0 ≡ a
unfolding plus
plus_zero a h = xor_zero 8 a h

pub zero_plus : (a : ℕ) → a < 256 → plus 0 a ≡ a
zero_plus a h = plus_comm 0 a ∙ plus_zero a h

pub plus_swap : (a b c d : ℕ) → plus (plus a b) (plus c d) ≡ plus (plus a c) (plus b d)
plus_swap a b c d =
    plus_assoc a b (plus c d) ∙ ap (plus a) (sym (plus_assoc b c d) ∙ ap (λ (x : ℕ). plus x d) (plus_comm b c) ∙ plus_assoc c b d)
    ∙ sym (plus_assoc a c (plus b d))

-- the other term taken away again
pub plus_back : (a b : ℕ) → a < 256 → plus (plus a b) b ≡ a
plus_back a b h = plus_assoc a b b ∙ ap (plus a) (plus_self b) ∙ plus_zero a h

pub plus_again : (a b : ℕ) → b < 256 → plus a (plus a b) ≡ b
plus_again a b h = plus_comm a (plus a b) ∙ ap (λ (z : ℕ). plus z a) (plus_comm a b) ∙ plus_back b a h

-- a sum is 0 only where its terms are equal
pub equal_of_plus_zero : (a b : ℕ) → a < 256 → b < 256 → plus a b ≡ 0 → a ≡ b
equal_of_plus_zero a b h l e = sym (plus_back a b h) ∙ ap (λ (x : ℕ). plus x b) e ∙ zero_plus b l

-- what doubling needs: the top bit of a sum, and twice a sum where only eight bits count
pub plus_top : (a b : ℕ) → plus a b / 128 ≡ (a / 128 + b / 128) % 2
unfolding plus
plus_top a b = xor_top 7 a b

pub plus_twice : (a b c : ℕ) → plus (2 * plus a b) c ≡ plus (plus (2 * a) (2 * b)) c
unfolding plus
plus_twice a b c =
    rw (xor_step 7 (2 * xor_from 8 a b) c, xor_step 7 (xor_from 8 (2 * a) (2 * b)) c, xor_half 7 (2 * a) (2 * b), twice_half a, twice_half b, twice_half (xor_from 8 a b))
    (omega (
      arith,
      xor_bit 7 (2 * a) (2 * b),
      xor_assoc 7 8 7 a b (c / 2) (omega arith) (omega arith),
      xor_assoc 7 7 7 a b (c / 2) (omega arith) (omega arith),
    ))
  where
    twice_half : (n : ℕ) → 2 * n / 2 ≡ n
    twice_half n = omega arith

-- the machine's exclusive or of two bytes is their sum
differ_parity : (p q : ℕ) → p < 2 → q < 2 → differ p q ≡ (p + q) % 2
differ_parity zero zero h l = refl
differ_parity zero (suc zero) h l = refl
differ_parity (suc zero) zero h l = refl
differ_parity (suc zero) (suc zero) h l = refl
differ_parity zero (suc (suc q)) h l = absurd (omega arith)
differ_parity (suc zero) (suc (suc q)) h l = absurd (omega arith)
differ_parity (suc (suc p)) q h l = absurd (omega arith)

bitXor_xor : (k a b : ℕ) → a < 2 ^ k → b < 2 ^ k → bit_xor a b ≡ xor_from k a b
unfolding xor_from
bitXor_xor zero a b h l = ap₂ bit_xor (let e : a ≡ 0 = omega arith in e) (let e : b ≡ 0 = omega arith in e)
bitXor_xor (suc k) a b h l =
    let a_fits = rw pow-suc at h in
    let b_fits = rw pow-suc at l in
    bitXor-step a b
    ∙ omega (arith, bitXor_xor k (a / 2) (b / 2) (omega arith) (omega arith), differ_parity (a % 2) (b % 2) (omega arith) (omega arith))

pub bitXor_plus : (a b : ℕ) → a < 256 → b < 256 → bit_xor a b ≡ plus a b
unfolding plus
bitXor_plus a b h l = bitXor_xor 8 a b h l
