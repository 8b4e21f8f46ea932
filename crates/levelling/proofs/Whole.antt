-- Integers for `omega`, which reads natural numbers alone: an integer is what it has above zero less what it has below, and an order, a
-- sum, a difference or a half of integers is a statement on those two parts. By cases on the signs. Assumes nothing.
use mathlib.Core.Path.{◌≡◌, refl, ap}
use mathlib.Core.Bool.{Bool, true, false, cond}
use mathlib.Core.Logic.{◌⊎◌, inl, inr}
use Prim.Native.Nat.{ℕ, zero, suc, ◌+◌, ◌*◌, ◌-◌, ◌≤◌, ◌<◌}
use native.Mathlib.Omega.{arith}
use lib.Dec.{ltb, leb→le, le→leb}
use lib.IntN.{ℤ, pos, negsuc, neg_ℤ, sub_ℕ, ◌+ℤ◌, ◌-ℤ◌}
use lib.Signed.{◌≤ℤ◌, le_z}
use borrow.Author.Tests.{ltb-true, ltb-false, leb-false}
use Rattle.level.specs.Level.{halved}
use Rattle.level.specs.Promise.{HalvedDown}
use Rattle.level.proofs.Sorting.{halved_down}

-- the part above zero and the part below
unfoldable pub above : ℤ → ℕ
above (pos a) = a
above (negsuc a) = 0

unfoldable pub below : ℤ → ℕ
below (pos a) = 0
below (negsuc a) = suc a

pub above_pos : (n : ℕ) → above (pos n) ≡ n
unfolding above
above_pos n = refl

pub below_pos : (n : ℕ) → below (pos n) ≡ 0
unfolding below
below_pos n = refl

-- the order
pub order_parts : {a b : ℤ} → a ≤ℤ b → above a + below b ≤ above b + below a
unfolding above below
order_parts {a = pos a} {b = pos b} h = omega (arith, leb→le a b h.le)
order_parts {a = pos a} {b = negsuc b} h = absurd h.le
order_parts {a = negsuc a} {b = pos b} h = omega arith
order_parts {a = negsuc a} {b = negsuc b} h = omega (arith, leb→le b a h.le)

pub parts_order : (a b : ℤ) → above a + below b ≤ above b + below a → a ≤ℤ b
unfolding above below
parts_order (pos a) (pos b) h = record { le = le→leb a b (omega arith) }
parts_order (pos a) (negsuc b) h = absurd (omega arith)
parts_order (negsuc a) (pos b) h = record { le = tt }
parts_order (negsuc a) (negsuc b) h = record { le = le→leb b a (omega arith) }

pub ≤ℤ_trans : {a b c : ℤ} → a ≤ℤ b → b ≤ℤ c → a ≤ℤ c
≤ℤ_trans {a} {b} {c} h k = parts_order a c (omega (arith, order_parts h, order_parts k))

pub ≤ℤ_antisym : {a b : ℤ} → a ≤ℤ b → b ≤ℤ a → a ≡ b
≤ℤ_antisym {a = pos a} {b = pos b} h k = ap pos (omega (arith, leb→le a b h.le, leb→le b a k.le))
≤ℤ_antisym {a = pos a} {b = negsuc b} h k = absurd h.le
≤ℤ_antisym {a = negsuc a} {b = pos b} h k = absurd k.le
≤ℤ_antisym {a = negsuc a} {b = negsuc b} h k = ap negsuc (omega (arith, leb→le b a h.le, leb→le a b k.le))

-- a test of it that fails
pub test_false : (a b : ℤ) → le_z a b ≡ false → above b + below a < above a + below b
unfolding above below
test_false (pos a) (pos b) e = omega (arith, leb-false a b e)
test_false (pos a) (negsuc b) e = omega arith
test_false (negsuc a) (pos b) e = absurd (let z : ◌≡◌ {A = ℕ} 0 1 = ap (λ (t : Bool). cond t 0 1) e in omega arith)
test_false (negsuc a) (negsuc b) e = omega (arith, leb-false b a e)

-- sums and differences
less_parts : (a b : ℕ) → above (sub_ℕ a (suc b)) + suc b ≡ below (sub_ℕ a (suc b)) + a
unfolding above below
less_parts a b = go (ltb a (suc b)) refl
  where
    go : (t : Bool) → ltb a (suc b) ≡ t →
        above (cond t (negsuc (suc b - suc a)) (pos (a - suc b))) + suc b ≡ below (cond t (negsuc (suc b - suc a)) (pos (a - suc b))) + a
    go true e = omega (arith, ltb-true a (suc b) e)
    go false e = omega (arith, ltb-false a (suc b) e)

pub sum_parts : (a b : ℤ) → above (a +ℤ b) + (below a + below b) ≡ below (a +ℤ b) + (above a + above b)
unfolding above below
sum_parts (pos a) (pos b) = omega arith
sum_parts (pos a) (negsuc b) = omega (arith, less_parts a b)
sum_parts (negsuc a) (pos b) = omega (arith, less_parts b a)
sum_parts (negsuc a) (negsuc b) = omega arith

negated_parts : (a : ℤ) → above (neg_ℤ a) + above a ≡ below (neg_ℤ a) + below a
unfolding above below
negated_parts (pos zero) = refl
negated_parts (pos (suc a)) = omega arith
negated_parts (negsuc a) = omega arith

pub difference_parts : (a b : ℤ) → above (a -ℤ b) + (below a + above b) ≡ below (a -ℤ b) + (above a + below b)
difference_parts a b = omega (arith, sum_parts a (neg_ℤ b), negated_parts b)

-- halves
pub half_parts : (z : ℤ) → (2 * above (halved z) + below z ≤ above z + 2 * below (halved z)) × (above z + 2 * below (halved z) ≤ 2 * above (halved z) + below z + 1)
unfolding HalvedDown
half_parts z = go (halved_down z)
  where
    go :
        (halved z +ℤ halved z ≡ z) ⊎ ((halved z +ℤ halved z) +ℤ pos 1 ≡ z) →
        (2 * above (halved z) + below z ≤ above z + 2 * below (halved z)) × (above z + 2 * below (halved z) ≤ 2 * above (halved z) + below z + 1)
    go (inl e) = omega (arith, sum_parts (halved z) (halved z), ap above e, ap below e)
    go (inr e) =
        omega (
          arith,
          sum_parts (halved z) (halved z),
          sum_parts (halved z +ℤ halved z) (pos 1),
          above_pos 1,
          below_pos 1,
          ap above e,
          ap below e,
        )
