-- Power sums of places: the sum of y·x^i. Where the x are different, at most m of the y are not zero and the sums of exponent
-- 0 to m − 1 vanish, all y are zero. A first place with y zero adds nothing and is left out. To be rid of a first place p with
-- y not zero, weigh the others by x + p.x: their sum i is then S(i+1) + p.x·S(i), to which p adds nothing, so that m − 1 sums
-- vanish; and since no weight is zero, what is zero there was zero before. Assumes nothing.
use mathlib.Core.Path.{◌≡◌, refl, sym, ◌∙◌, ap, ap₂}
use mathlib.Core.List.{List, [], ◌∷◌, ◌++◌}
use Prim.Native.Nat.{ℕ, zero, suc, ◌<◌, ◌≤◌}
use native.Mathlib.Omega.{arith}
use native.Mathlib.Decide.{ℕ_discrete}
use lib.ListN.{length}
use borrow.Author.Tests.{eq-eqb, ne_eqb}
use Rattle.field.specs.Field.{plus, times, power}
use Rattle.field.proofs.Xor.{plus_assoc, plus_self, plus_lt, zero_plus, plus_swap, equal_of_plus_zero}
use Rattle.field.proofs.Times.{times_lt, times_plus, zero_times, times_zero}
use Rattle.field.proofs.Power.{power_zero, power_suc, power_lt}
use Rattle.field.proofs.Logarithm.{times_assoc, times_left_comm, times_one, plus_times}
use Rattle.code.proofs.Codewords.Place.{Place, BytePlaces, Different, AllZero, nonzero, nonzero_le_length, weighed, weighed_bytes, weighed_different, weighed_length, weighed_nonzero, weighed_zero}

unfoldable pub power_sum : (i : ℕ) → List Place → ℕ
power_sum i [] = 0
power_sum i (p ∷ ps) = plus (times p.y (power p.x i)) (power_sum i ps)

pub power_sum_cons : (i : ℕ) (p : Place) (ps : List Place) → power_sum i (p ∷ ps) ≡ plus (times p.y (power p.x i)) (power_sum i ps)
unfolding power_sum
power_sum_cons i p ps = refl

pub power_sum_lt : (i : ℕ) (ps : List Place) → power_sum i ps < 256
unfolding power_sum
power_sum_lt i [] = omega arith
power_sum_lt i (p ∷ ps) = plus_lt _ _

pub power_sum_append : (i : ℕ) (ps qs : List Place) → power_sum i (ps ++ qs) ≡ plus (power_sum i ps) (power_sum i qs)
unfolding power_sum
power_sum_append i [] qs = sym (zero_plus _ (power_sum_lt i qs))
power_sum_append i (p ∷ ps) qs = ap (plus _) (power_sum_append i ps qs) ∙ sym (plus_assoc _ (power_sum i ps) (power_sum i qs))

-- a place with y zero adds nothing
pub power_sum_skip : (i : ℕ) (p : Place) (ps : List Place) → p.y ≡ 0 → power_sum i (p ∷ ps) ≡ power_sum i ps
power_sum_skip i p ps z =
    power_sum_cons i p ps ∙ ap (λ (a : ℕ). plus a (power_sum i ps)) (ap (λ (y : ℕ). times y (power p.x i)) z ∙ zero_times _)
    ∙ zero_plus _ (power_sum_lt i ps)

pub power_sum_zero : (i : ℕ) (ps : List Place) → AllZero ps → power_sum i ps ≡ 0
unfolding power_sum
power_sum_zero i [] z = refl
power_sum_zero i (p ∷ ps) z = power_sum_skip i p ps z.0 ∙ power_sum_zero i ps z.1

-- the places weighed by x + c
factor_term :
    (x y c q : ℕ) → x < 256 → y < 256 → c < 256 → q < 256 → times (times y (plus x c)) q ≡ plus (times y (times x q)) (times c (times y q))
factor_term x y c q h l g k =
    times_assoc y (plus x c) q l (plus_lt x c) ∙ ap (times y) (plus_times x c q h g k) ∙ times_plus y (times x q) (times c q) l
    ∙ ap (plus (times y (times x q))) (times_left_comm y c q l g)

pub power_sum_factor :
    (c i : ℕ) (ps : List Place) → c < 256 → BytePlaces ps → power_sum i (weighed (λ x. plus x c) ps) ≡ plus (power_sum (suc i) ps) (times c (power_sum i ps))
unfolding power_sum weighed
power_sum_factor c i [] h b = sym (zero_plus (times c 0) (times_lt c 0) ∙ times_zero c h)
power_sum_factor c i (p ∷ ps) h b =
    ap₂ plus (factor_term p.x p.y c (power p.x i) b.0 b.1 h (power_lt p.x i)) (power_sum_factor c i ps h b.2)
    ∙ plus_swap _ _ _ _
    ∙ ap₂ plus (ap (λ (q : ℕ). plus (times p.y q) (power_sum (suc i) ps)) (sym (power_suc p.x i))) (sym (times_plus c _ _ h))

-- a sum that vanishes: the others' part of it is the first place's
others_sum : (i : ℕ) (p : Place) (ps : List Place) → power_sum i (p ∷ ps) ≡ 0 → power_sum i ps ≡ times p.y (power p.x i)
others_sum i p ps e = sym (equal_of_plus_zero _ _ (times_lt _ _) (power_sum_lt i ps) (sym (power_sum_cons i p ps) ∙ e))

others_weighed :
    (i : ℕ) (p : Place) (ps : List Place) → BytePlaces (p ∷ ps) → power_sum i (p ∷ ps) ≡ 0 → power_sum (suc i) (p ∷ ps) ≡ 0 →
    power_sum i (weighed (λ x. plus x p.x) ps) ≡ 0
others_weighed i p ps b e f =
    power_sum_factor p.x i ps b.0 b.2
    ∙ ap₂ (λ (m n : ℕ). plus m (times p.x n)) (others_sum (suc i) p ps f ∙ ap (times p.y) (power_suc p.x i)) (others_sum i p ps e)
    ∙ ap (plus _) (times_left_comm p.x p.y (power p.x i) b.0 b.1) ∙ plus_self _

first_zero : (p : Place) (ps : List Place) → p.y < 256 → AllZero ps → power_sum 0 (p ∷ ps) ≡ 0 → p.y ≡ 0
first_zero p ps h z e =
    sym (times_one p.y h) ∙ ap (times p.y) (sym (power_zero p.x)) ∙ sym (others_sum 0 p ps e) ∙ power_sum_zero 0 ps z

-- what is claimed of a list of places, and the two ways to one place more
abbrev Told : (m : ℕ) → List Place → Type 0
Told m ps = BytePlaces ps → Different ps → nonzero ps ≤ m → ((i : ℕ) → i < m → power_sum i ps ≡ 0) → AllZero ps

told_zero : (m : ℕ) (p : Place) (ps : List Place) → p.y ≡ 0 → Told m ps → Told m (p ∷ ps)
unfolding nonzero
told_zero m p ps z told b d c s =
    (z, told b.2 d.1 (omega (arith, rw (eq-eqb p.y 0 z) at c)) (λ i h. sym (power_sum_skip i p ps z) ∙ s i h))

told_nonzero : (m : ℕ) (p : Place) (ps : List Place) → (p.y ≡ 0 → ⊥) → ((k : ℕ) → Told k (weighed (λ x. plus x p.x) ps)) → Told m (p ∷ ps)
unfolding nonzero
told_nonzero zero p ps z told b d c s = absurd (omega (arith, rw (ne_eqb p.y 0 z) at c))
told_nonzero (suc m) p ps z told b d c s = (first_zero p ps b.1 others (s 0 (omega arith)), others)
  where
    f : ℕ → ℕ
    f x = plus x p.x

    others : AllZero ps
    others =
        weighed_zero p.x ps b.0 b.2 d.0
        (told m (weighed_bytes f ps b.2) (weighed_different f ps d.1) (omega (arith, rw (ne_eqb p.y 0 z) at c, weighed_nonzero f ps))
        (λ i h. others_weighed i p ps b (s i (omega arith)) (s (suc i) (omega arith))))

told_within : (k m : ℕ) (ps : List Place) → length ps ≤ k → Told m ps
told_within zero m [] l b d c s = tt
told_within zero m (p ∷ ps) l b d c s = absurd (omega arith)
told_within (suc k) m [] l b d c s = tt
told_within (suc k) m (p ∷ ps) l b d c s = go (ℕ_discrete p.y 0) (told_within k)
  where
    go : Dec (p.y ≡ 0) → ((j : ℕ) (qs : List Place) → length qs ≤ k → Told j qs) → AllZero (p ∷ ps)
    go (yes z) told = told_zero m p ps z (told m ps (omega arith)) b d c s
    go (no z) told = told_nonzero m p ps z (λ j. told j (weighed (λ x. plus x p.x) ps) (rw weighed_length (omega arith))) b d c s

-- at most m of the y are not zero, and m sums vanish: all y are zero
pub few_nonzero :
    (m : ℕ) (ps : List Place) → BytePlaces ps → Different ps → nonzero ps ≤ m → ((i : ℕ) → i < m → power_sum i ps ≡ 0) → AllZero ps
few_nonzero m ps = told_within (length ps) m ps (omega arith)

-- so it is where there are at most m places
pub few : (m : ℕ) (ps : List Place) → BytePlaces ps → Different ps → length ps ≤ m → ((i : ℕ) → i < m → power_sum i ps ≡ 0) → AllZero ps
few m ps b d l s = few_nonzero m ps b d (omega (arith, nonzero_le_length ps)) s
