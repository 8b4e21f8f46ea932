-- What the tables' rules give at an entry. A table that starts with 1 and doubles from entry to entry holds the powers of 2;
-- one that names for each byte its place among them holds the logarithms. Assumes nothing.
use mathlib.Core.Path.{◌≡◌, sym, ◌∙◌, ap, ap₂}
use mathlib.Core.Bool.{Bool, true}
use mathlib.Core.List.{List, [], ◌∷◌}
use Prim.Native.Nat.{ℕ, zero, suc, ◌+◌, ◌-◌, ◌<◌, ◌≤◌}
use native.Mathlib.Omega.{arith}
use lib.Dec.{T, eqb, ltb, eqb→eq, ltb→lt}
use lib.ListN.{length, get_or}
use borrow.Author.Tests.{eqb-true}
use Rattle.arrays.proofs.Bool.{and_split}
use Rattle.field.specs.Field.{doubled, times, power, inverse}
use Rattle.field.specs.Table.{each_doubled, Powers, Logarithms}
use Rattle.field.proofs.Power.{doublings, doublings_none, doublings_inner, power_doublings, power_zero, power_add}
use Rattle.field.proofs.Logarithm.{doubled_list, doubled_list_at}
use Rattle.field.proofs.Division.{inverse_power}
use Rattle.field.proofs.Test.{both, both_left, both_right, every, below}

doubled_at : (x : ℕ) (xs : List ℕ) → each_doubled (x ∷ xs) ≡ true → (k : ℕ) → k < length (x ∷ xs) → get_or (x ∷ xs) k 0 ≡ doublings k x
unfolding each_doubled
doubled_at x xs e zero h = sym (doublings_none x)
doubled_at x [] e (suc k) h = absurd (omega arith)
doubled_at x (y ∷ ys) e (suc k) h =
    let s = and_split (eqb y (doubled x)) (each_doubled (y ∷ ys)) e in
    doubled_at y ys s.1 k (omega arith) ∙ ap (doublings k) (eqb-true y (doubled x) s.0) ∙ doublings_inner k x

pub powers_at : (table : List ℕ) → Powers table → (k : ℕ) → k < 255 → get_or table k 0 ≡ power 2 k
powers_at [] p k h = absurd (omega (arith, p.many))
powers_at (x ∷ xs) p k h = doubled_at x xs p.rule k (omega (arith, p.many)) ∙ ap (doublings k) p.first ∙ sym (power_doublings k)

-- entry k + 1 is the place of the byte k + 1 among the powers, 255 of them as antt works them out
abbrev pub is_place : (powers table : List ℕ) → (k : ℕ) → Bool
is_place powers table k = both (ltb (get_or table (suc k) 0) 255) (eqb (get_or powers (get_or table (suc k) 0) 0) (suc k))

pub logarithms_tested :
    (table : List ℕ) → length table ≡ 256 → T (let powers = doubled_list 255 1 in every (is_place powers table) 255) → Logarithms table
logarithms_tested table e t = record { many = e; small = small; exponent = exponent }
  where
    at : (k : ℕ) → k < 255 → (get_or table (suc k) 0 < 255) × (power 2 (get_or table (suc k) 0) ≡ suc k)
    at k h =
        let i = get_or table (suc k) 0 in
        let less = ltb i 255 in
        let found = eqb (get_or (doubled_list 255 1) i 0) (suc k) in
        let passed = below (is_place (doubled_list 255 1) table) 255 t k h in
        let l = ltb→lt i 255 (both_left less found passed) in
        (l, power_doublings i ∙ sym (doubled_list_at 255 1 i l) ∙ eqb→eq _ _ (both_right less found passed))

    small : (a : ℕ) → 1 ≤ a → a < 256 → get_or table a 0 < 255
    small zero h l = absurd (omega arith)
    small (suc a) h l = (at a (omega arith)).0

    exponent : (a : ℕ) → 1 ≤ a → a < 256 → power 2 (get_or table a 0) ≡ a
    exponent zero h l = absurd (omega arith)
    exponent (suc a) h l = (at a (omega arith)).1

-- what is looked up by exponents: the product of 2^i and 2^j by that of their sum, and the inverse of 2^i
module _ (table : List ℕ) (powers : Powers table) where
  pub product_at : (a b i j k : ℕ) → power 2 i ≡ a → power 2 j ≡ b → k < 255 → power 2 k ≡ power 2 (i + j) → get_or table k 0 ≡ times a b
  product_at a b i j k e f h g = powers_at table powers k h ∙ g ∙ sym (power_add i j) ∙ ap₂ times e f

  pub inverse_at : (a i : ℕ) → power 2 i ≡ a → 1 ≤ i → i < 255 → get_or table (255 - i) 0 ≡ inverse a
  inverse_at a i e h l = powers_at table powers (255 - i) (omega arith) ∙ sym (inverse_power i l) ∙ ap inverse e

-- only 2^0 is 1
pub exponent_positive : (a i : ℕ) → power 2 i ≡ a → 1 < a → 1 ≤ i
exponent_positive a zero e h = absurd (omega (arith, e, power_zero 2))
exponent_positive a (suc i) e h = omega arith
