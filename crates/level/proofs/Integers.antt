-- Integers: how large a sum of two numbers of 32 bits and its half are; half of a number, as the division that rounds down; and what four
-- bytes are, the high byte first, read as 32 bits with a sign. Assumes nothing.
use mathlib.Core.Path.{◌≡◌, refl, ap}
use mathlib.Core.Bool.{Bool, true, false, cond}
use mathlib.Core.List.{[], ◌∷◌}
use Prim.Native.Nat.{ℕ, suc, ◌+◌, ◌-◌, ◌/◌, ◌≤◌, ◌<◌}
use native.Mathlib.Omega.{arith}
use lib.Dec.{ltb}
use lib.IntN.{ℤ, pos, negsuc, neg_ℤ, sub_ℕ, ◌+ℤ◌, ◌-ℤ◌}
use lib.ListN.{get_or}
use lib.Signed.{mag, mag_shr, lt_z, quot_z}
use mir.Syntax.{w32, w64}
use mir.Val.{SFits, to_z, of_z}
use mir.Facts.{to_z-of_z}
use borrow.Author.Tests.{ltb-true, ltb-false, lt-ltb}
use Rattle.std.specs.Int.{int_div_euclid, from_be_bytes}
use Rattle.grading.specs.Value.{Value}
use Rattle.level.specs.Level.{bits, signed, height, Short, halved}

mag_less : (a b : ℕ) → mag (sub_ℕ a (suc b)) ≤ suc (a + b)
mag_less a b = go (ltb a (suc b))
  where
    go : (t : Bool) → mag (cond t (negsuc (suc b - suc a)) (pos (a - suc b))) ≤ suc (a + b)
    go true = omega arith
    go false = omega arith

mag_sum : (a b : ℤ) → mag (a +ℤ b) ≤ suc (mag a + mag b)
mag_sum (pos a) (pos b) = omega arith
mag_sum (pos a) (negsuc b) = mag_less a b
mag_sum (negsuc a) (pos b) = let h = mag_less b a in omega arith
mag_sum (negsuc a) (negsuc b) = omega arith

-- 64 bits hold a sum of numbers of 33, and are read as they were written
pub stored : (a : ℤ) → mag a < 17179869184 → to_z w64 (of_z w64 a) ≡ a
stored a h = let fits : SFits w64 a = record { sfits = omega arith } in to_z-of_z fits

halved_down : (a : ℤ) → int_div_euclid a (pos 2) ≡ halved a
unfolding halved
halved_down (pos a) = refl
halved_down (negsuc a) = refl

-- the same by a division that rounds toward zero, of a number below zero that is made one less before it
pub halved_below : (a : ℤ) → lt_z a (pos 0) ≡ true → quot_z (a -ℤ pos 1) (pos 2) ≡ halved a
unfolding halved
halved_below (pos a) h = absurd (omega (arith, ltb-true a 0 h))
halved_below (negsuc a) h = ap (λ (q : ℕ). neg_ℤ (pos q)) (let e : suc (suc (a + 0)) / 2 ≡ suc (a / 2) = omega arith in e)

-- the sum of two numbers of 32 bits, and its half
module _ (a b : ℤ) (first : Short a) (second : Short b) where
  small_sum : mag (a +ℤ b) < 4294967296
  small_sum = omega (arith, mag_sum a b)

  small_half : mag (halved (a +ℤ b)) < 4294967296
  unfolding halved
  small_half = omega (arith, mag_shr (a +ℤ b) 2, small_sum)

  pub halfway_is :
      (half : ℤ) → half ≡ int_div_euclid (to_z w64 (of_z w64 (a +ℤ b))) (pos 2) →
      (to_z w64 (of_z w64 half) ≡ halved (a +ℤ b)) × (mag (to_z w64 (of_z w64 half)) < 4294967296)
  halfway_is half e =
      rw (e, stored (a +ℤ b) (omega (arith, small_sum)), halved_down (a +ℤ b), stored (halved (a +ℤ b)) (omega (arith, small_half)))
      (refl, small_half)

-- 32 bits with a sign
pub signed_short : (b : ℕ) → b < 4294967296 → Short (signed b)
unfolding signed
signed_short b h = go (ltb b 2147483648) (ltb b 4294967296) refl refl
  where
    go : (t u : Bool) → ltb b 2147483648 ≡ t → ltb b 4294967296 ≡ u → mag (cond t (pos b) (cond u (negsuc (4294967296 - suc b)) (pos (b - 4294967296)))) < 2147483648
    go true u e f = ltb-true b 2147483648 e
    go false true e f = omega (arith, ltb-false b 2147483648 e)
    go false false e f = omega (arith, ltb-false b 4294967296 f)

signed_is : (b : ℕ) → b < 4294967296 → to_z w32 b ≡ signed b
unfolding signed
signed_is b h = rw (lt-ltb b 4294967296 h) refl

big_endian : (v : Value) → from_be_bytes w32 v ≡ bits v
unfolding bits
big_endian v = omega arith

-- four bytes read
pub height_read : (v : Value) → ((i : ℕ) → get_or v i 0 < 256) → to_z w32 (from_be_bytes w32 v) ≡ height v
unfolding height bits
height_read v small =
    let few : bits v < 4294967296 = omega (arith, small 0, small 1, small 2, small 3) in
    rw (big_endian v) (signed_is (bits v) few)

-- a height by the four bytes of its value
pub height_of :
    (v : Value) (a b c d : ℕ) → a ≡ get_or v 0 0 → b ≡ get_or v 1 0 → c ≡ get_or v 2 0 → d ≡ get_or v 3 0 → height (a ∷ b ∷ c ∷ d ∷ []) ≡ height v
unfolding height bits
height_of v a b c d first second third fourth = ap signed (omega arith)
