-- Doubling is linear, because it is a shift and a fold of the top bit; so the product, a sum of doublings, is linear in both
-- factors, by induction over the bits of the second. Two tests of 256 numbers are computed. Assumes nothing.
use mathlib.Core.Path.{◌≡◌, refl, sym, ◌∙◌, ap}
use mathlib.Core.Bool.{Bool, true, false, cond}
use Prim.Native.Nat.{ℕ, zero, suc, ◌+◌, ◌*◌, ◌/◌, ◌%◌, ◌<◌}
use native.Mathlib.Omega.{arith}
use lib.Dec.{eqb, eqb→eq}
use Rattle.field.specs.Field.{plus, xor_from, doubled, times, times_from}
use Rattle.field.proofs.Xor.{xor_bit, xor_half, plus_self, plus_lt, plus_zero, zero_plus, plus_swap, plus_top, plus_twice}
use Rattle.field.proofs.Test.{below}

-- doubling
doubled_fold : (a : ℕ) → a < 256 → doubled a ≡ plus (2 * a) (135 * (a / 128))
unfolding doubled plus xor_from
doubled_fold a h = eqb→eq _ _ (below (λ n. eqb (doubled n) (plus (2 * n) (135 * (n / 128)))) 256 tt a h)

pub doubled_lt : (a : ℕ) → a < 256 → doubled a < 256
doubled_lt a h = rw (doubled_fold a h) (plus_lt _ _)

pub doubled_zero : doubled 0 ≡ 0
unfolding doubled
doubled_zero = refl

fold_plus : (p q : ℕ) → p < 2 → q < 2 → 135 * ((p + q) % 2) ≡ plus (135 * p) (135 * q)
unfolding plus xor_from
fold_plus zero zero h l = refl
fold_plus zero (suc zero) h l = refl
fold_plus (suc zero) zero h l = refl
fold_plus (suc zero) (suc zero) h l = refl
fold_plus zero (suc (suc q)) h l = absurd (omega arith)
fold_plus (suc zero) (suc (suc q)) h l = absurd (omega arith)
fold_plus (suc (suc p)) q h l = absurd (omega arith)

pub doubled_plus : (a b : ℕ) → a < 256 → b < 256 → doubled (plus a b) ≡ plus (doubled a) (doubled b)
doubled_plus a b h l =
    rw (
      doubled_fold (plus a b) (plus_lt a b),
      doubled_fold a h,
      doubled_fold b l,
      plus_twice,
      plus_top,
      fold_plus (a / 128) (b / 128) (omega arith) (omega arith),
    )
    (plus_swap (2 * a) (2 * b) (135 * (a / 128)) (135 * (b / 128)))

-- products over any number of bits
times_none : (a b : ℕ) → times_from zero a b ≡ 0
unfolding times_from
times_none a b = refl

times_step : (k a b : ℕ) → times_from (suc k) a b ≡ plus (cond (eqb (b % 2) 1) a 0) (times_from k (doubled a) (b / 2))
unfolding times_from
times_step k a b = refl

times_from_lt : (k a b : ℕ) → times_from k a b < 256
times_from_lt zero a b = rw times_none (omega arith)
times_from_lt (suc k) a b = rw times_step (plus_lt _ _)

bit_lt : (t : Bool) (a : ℕ) → a < 256 → cond t a 0 < 256
bit_lt true a h = h
bit_lt false a h = omega arith

bit_doubled : (t : Bool) (a : ℕ) → cond t (doubled a) 0 ≡ doubled (cond t a 0)
bit_doubled true a = refl
bit_doubled false a = sym doubled_zero

times_from_doubled : (k a b : ℕ) → a < 256 → times_from k (doubled a) b ≡ doubled (times_from k a b)
times_from_doubled zero a b h = rw (times_none, times_none) (sym doubled_zero)
times_from_doubled (suc k) a b h =
    rw (times_step k (doubled a) b, times_step k a b, times_from_doubled k (doubled a) (b / 2) (doubled_lt a h), bit_doubled)
    (sym (doubled_plus _ _ (bit_lt (eqb (b % 2) 1) a h) (times_from_lt k (doubled a) (b / 2))))

bit_plus : (a p q : ℕ) → a < 256 → p < 2 → q < 2 → cond (eqb ((p + q) % 2) 1) a 0 ≡ plus (cond (eqb p 1) a 0) (cond (eqb q 1) a 0)
bit_plus a zero zero g h l = sym (plus_self 0)
bit_plus a zero (suc zero) g h l = sym (zero_plus a g)
bit_plus a (suc zero) zero g h l = sym (plus_zero a g)
bit_plus a (suc zero) (suc zero) g h l = sym (plus_self a)
bit_plus a zero (suc (suc q)) g h l = absurd (omega arith)
bit_plus a (suc zero) (suc (suc q)) g h l = absurd (omega arith)
bit_plus a (suc (suc p)) q g h l = absurd (omega arith)

parity_plus : (b c : ℕ) → (b + c) % 2 ≡ (b % 2 + c % 2) % 2
parity_plus b c = omega arith

times_from_plus : (k a b c : ℕ) → a < 256 → times_from k a (xor_from k b c) ≡ plus (times_from k a b) (times_from k a c)
times_from_plus zero a b c h = rw (times_none, times_none, times_none) (sym (plus_self 0))
times_from_plus (suc k) a b c h =
    rw (
      times_step k a (xor_from (suc k) b c),
      times_step k a b,
      times_step k a c,
      xor_bit,
      xor_half,
      parity_plus b c,
      bit_plus a (b % 2) (c % 2) h (omega arith) (omega arith),
      times_from_plus k (doubled a) (b / 2) (c / 2) (doubled_lt a h),
    )
    (plus_swap _ _ _ _)

zero_times_from : (k b : ℕ) → times_from k 0 b ≡ 0
zero_times_from zero b = times_none 0 b
zero_times_from (suc k) b = rw (times_step, doubled_zero, zero_times_from k (b / 2)) (go (eqb (b % 2) 1))
  where
    go : (t : Bool) → plus (cond t 0 0) 0 ≡ 0
    go true = plus_self 0
    go false = plus_self 0

-- bytes
pub times_lt : (a b : ℕ) → times a b < 256
unfolding times
times_lt a b = times_from_lt 8 a b

pub times_doubled : (a b : ℕ) → a < 256 → times (doubled a) b ≡ doubled (times a b)
unfolding times
times_doubled a b h = times_from_doubled 8 a b h

pub times_plus : (a b c : ℕ) → a < 256 → times a (plus b c) ≡ plus (times a b) (times a c)
unfolding times plus
times_plus a b c h = times_from_plus 8 a b c h

pub one_times : (b : ℕ) → b < 256 → times 1 b ≡ b
unfolding times times_from doubled plus xor_from
one_times b h = eqb→eq _ _ (below (λ n. eqb (times 1 n) n) 256 tt b h)

pub zero_times : (b : ℕ) → times 0 b ≡ 0
unfolding times
zero_times b = zero_times_from 8 b

pub times_zero : (a : ℕ) → a < 256 → times a 0 ≡ 0
times_zero a h = ap (times a) (sym (plus_self 0)) ∙ times_plus a 0 0 h ∙ plus_self (times a 0)

two_doubled : ◌≡◌ {A = ℕ} 2 (doubled 1)
unfolding doubled
two_doubled = refl

pub two_times : (b : ℕ) → b < 256 → times 2 b ≡ doubled b
two_times b h = ap (λ (x : ℕ). times x b) two_doubled ∙ times_doubled 1 b (omega arith) ∙ ap doubled (one_times b h)
