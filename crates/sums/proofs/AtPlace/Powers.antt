-- Powers of 2 repeat after 255. So a step back by a root's logarithm is one on to 255 less it, and a weight's inverse rises by the
-- weight's own exponent from column to column. Assumes nothing.
use mathlib.Core.Path.{◌≡◌, sym, ◌∙◌, ap}
use mathlib.Core.List.{List}
use Prim.Native.Nat.{ℕ, zero, suc, ◌+◌, ◌*◌, ◌-◌, ◌%◌, ◌≤◌, ◌<◌}
use native.Mathlib.Omega.{arith}
use native.Mathlib.Decide.{dec_lt}
use native.Mathlib.Nat.{mul-suc}
use native.Mathlib.Numerals.{add-one}
use lib.ListN.{get_or}
use Rattle.field.specs.Field.{times, power, inverse}
use Rattle.field.specs.Table.{Logarithms}
use Rattle.field.proofs.Power.{power_lt, power_nonzero, power_add, power_mul, power_mod, power_past, powers_differ}
use Rattle.code.specs.Size.{most_checks}
use Rattle.code.specs.Polynomial.{first_exponent, root, Roots}

power_rounds : (i k : ℕ) → power 2 (i + 255 * k) ≡ power 2 i
power_rounds i zero = ap (power 2) (let e : i + 255 * 0 ≡ i = omega arith in e)
power_rounds i (suc k) =
    ap (power 2) (let e : i + 255 * suc k ≡ i + 255 * k + 255 = omega arith in e) ∙ power_past (i + 255 * k) ∙ power_rounds i k

-- exponents that are so many rounds apart
pub power_around : (i k j : ℕ) → j ≡ i + 255 * k → power 2 j ≡ power 2 i
power_around i k j e = ap (power 2) e ∙ power_rounds i k

-- a place's powers, each a step on from the one before
pub place_power_first : (e : ℕ) → power 2 e ≡ power (power 2 e) 1
place_power_first e = ap (power 2) (let q : e ≡ e * 1 = omega arith in q) ∙ sym (power_mul e 1)

pub place_power_next :
    (e m i k : ℕ) → power 2 i ≡ power (power 2 e) m → power 2 k ≡ power 2 (i + e) → power 2 k ≡ power (power 2 e) (m + 1)
place_power_next e m i k h q =
    q ∙ sym (power_add i e) ∙ ap (λ (x : ℕ). times x (power 2 e)) (h ∙ power_mul e m) ∙ power_add (e * m) e
    ∙ ap (power 2) (sym (mul-suc e m) ∙ ap (◌*◌ e) (sym (add-one m))) ∙ sym (power_mul e (m + 1))

-- a power of a root by its logarithm, and the power below, by a step back
pub root_power : (i e : ℕ) → power 2 ((first_exponent + i) * e % 255) ≡ power (root i) e
unfolding root
root_power i e = power_mod ((first_exponent + i) * e) ∙ sym (power_mul (first_exponent + i) e)

pub root_power_below :
    (i e old new : ℕ) → i < most_checks → power 2 old ≡ power (root i) (e + 1) → power 2 (new + (first_exponent + i)) ≡ power 2 old →
    power 2 new ≡ power (root i) e
unfolding root
root_power_below i e old new h p q =
    sym (power_around new 1 (new + l + (255 - l)) (omega arith)) ∙ sym (power_add (new + l) (255 - l))
    ∙ ap (λ (x : ℕ). times x (power 2 (255 - l))) (q ∙ p ∙ power_mul l (e + 1)) ∙ power_add (l * (e + 1)) (255 - l)
    ∙ ap (power 2) around ∙ power_past (l * e) ∙ sym (power_mul l e)
  where
    l : ℕ
    l = first_exponent + i

    around : l * (e + 1) + (255 - l) ≡ l * e + 255
    around = omega (arith, ap (◌*◌ l) (add-one e) ∙ mul-suc l e)

-- the logarithm of a root
module _ (logarithms roots : List ℕ) (l : Logarithms logarithms) (r : Roots roots) (i : ℕ) (h : i < most_checks) where
  pub root_logarithm : get_or logarithms (get_or roots i 0) 0 ≡ first_exponent + i
  unfolding root
  root_logarithm = go (dec_lt found (first_exponent + i)) (dec_lt (first_exponent + i) found)
    where
      of_root : ℕ
      of_root = get_or roots i 0

      found : ℕ
      found = get_or logarithms of_root 0

      is_root : of_root ≡ power 2 (first_exponent + i)
      is_root = r.entry i h

      positive : 1 ≤ of_root
      positive = let z : power 2 (first_exponent + i) ≡ 0 → ⊥ = power_nonzero (first_exponent + i) in omega (arith, is_root)

      byte : of_root < 256
      byte = rw is_root (power_lt 2 (first_exponent + i))

      same : power 2 found ≡ power 2 (first_exponent + i)
      same = l.exponent of_root positive byte ∙ is_root

      go : Dec (found < first_exponent + i) → Dec (first_exponent + i < found) → found ≡ first_exponent + i
      go (yes a) b = absurd (powers_differ _ _ a (omega arith) same)
      go (no a) (yes b) = absurd (powers_differ _ _ b (l.small of_root positive byte) (sym same))
      go (no a) (no b) = omega arith

-- a column's weight divided out
pub weight_inverse : (k : ℕ) → k < 254 → power 2 (first_exponent + k * first_exponent) ≡ inverse (power 2 (first_exponent * (254 - k)))
unfolding inverse
weight_inverse k h =
    sym (power_around (first_exponent + k * first_exponent) (first_exponent * (253 - k)) (first_exponent * (254 - k) * 254) (omega arith))
    ∙ sym (power_mul (first_exponent * (254 - k)) 254)
