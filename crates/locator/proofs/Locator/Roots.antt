-- The errors at the roots of a monic polynomial that is zero at every place with y not zero. The quotient by x + c keeps the
-- other roots, so there are at most as many such places as its degree. Where there are just as many no root is double, and the
-- quotient against the power sums is y times its value at c, which is not zero: so `value` is y at each place. Assumes nothing.
use mathlib.Core.Path.{◌≡◌, refl, sym, ◌∙◌, ap, ap₂}
use mathlib.Core.Bool.{Bool, true, false, cond}
use mathlib.Core.List.{List, [], ◌∷◌}
use Prim.Native.Nat.{ℕ, zero, suc, ◌+◌, ◌<◌, ◌≤◌}
use native.Mathlib.Omega.{arith}
use native.Mathlib.Decide.{ℕ_discrete}
use lib.Dec.{eqb}
use lib.ListN.{length, get_or}
use borrow.Author.Tests.{eqb-true, eqb-false}
use Rattle.field.specs.Field.{plus, times, power, inverse}
use Rattle.field.proofs.Xor.{plus_lt, plus_zero, zero_plus, equal_of_plus_zero}
use Rattle.field.proofs.Times.{times_lt, times_zero}
use Rattle.field.proofs.Power.{power_zero}
use Rattle.field.proofs.Logarithm.{times_comm, times_left_comm, times_one, no_zero_divisors}
use Rattle.field.proofs.Division.{times_divide}
use Rattle.code.specs.Polynomial.{eval}
use Rattle.code.proofs.Codewords.Place.{Place, BytePlaces, Apart, Different, AllZero, nonzero, weighed}
use Rattle.code.proofs.Codewords.PowerSum.{power_sum, power_sum_cons, power_sum_zero}
use Rattle.code.proofs.Polynomials.Arithmetic.{eval_lt}
use Rattle.locator.specs.Locator.{against, quotient, value}
use Rattle.locator.proofs.Polynomials.Against.{against_same}
use Rattle.locator.proofs.Polynomials.Monic.{Monic, monic_length, monic_bytes, monic_zero, monic_quotient, quotient_eval}
use Rattle.locator.proofs.Locator.Size.{against_power_sums}

-- a list of places holds a place
pub data In (p : Place) : List Place → Type 0 where
  first : (ps : List Place) → In p (p ∷ ps)
  later : (q : Place) (ps : List Place) → In p ps → In p (q ∷ ps)

pub in_at : (qs : List Place) (j : ℕ) (p : Place) → j < length qs → In (get_or qs j p) qs
in_at [] j p h = absurd (omega arith)
in_at (q ∷ qs) zero p h = first qs
in_at (q ∷ qs) (suc j) p h = later q qs (in_at qs j p (omega arith))

pub bytes_in : (p : Place) (qs : List Place) → BytePlaces qs → In p qs → (p.x < 256) × (p.y < 256)
bytes_in p qs g (first ps) = (g.0, g.1)
bytes_in p qs g (later q ps i) = bytes_in p ps g.2 i

apart_in : (c : ℕ) (p : Place) (qs : List Place) → Apart c qs → In p qs → p.x ≡ c → ⊥
apart_in c p qs a (first ps) = a.0
apart_in c p qs a (later q ps i) = apart_in c p ps a.1 i

pub zero_in : (f : ℕ → ℕ) (p : Place) (qs : List Place) → AllZero (weighed f qs) → In p qs → times p.y (f p.x) ≡ 0
unfolding weighed
zero_in f p qs z (first ps) = z.0
zero_in f p qs z (later q ps i) = zero_in f p ps z.1 i

-- the other roots are roots of the quotient
root_left :
    (c x y : ℕ) (ps : List ℕ) → c < 256 → x < 256 → y < 256 → eval ps c ≡ 0 → (x ≡ c → ⊥) → times y (eval ps x) ≡ 0 → times y (eval (quotient c ps) x) ≡ 0
root_left c x y ps h l k r n z =
    no_zero_divisors (plus x c) (times y (eval (quotient c ps) x)) (plus_lt x c) (times_lt _ _)
    (sym (times_left_comm y (plus x c) (eval (quotient c ps) x) k (plus_lt x c)) ∙ ap (times y) (sym split) ∙ z) (λ e. n (equal_of_plus_zero x c l h e))
  where
    split : eval ps x ≡ times (plus x c) (eval (quotient c ps) x)
    split = quotient_eval x c ps l h ∙ ap (plus _) r ∙ plus_zero _ (times_lt _ _)

module _ (c : ℕ) (ps : List ℕ) (h : c < 256) (r : eval ps c ≡ 0) where
  pub roots_left : (qs : List Place) → BytePlaces qs → Apart c qs → AllZero (weighed (eval ps) qs) → AllZero (weighed (eval (quotient c ps)) qs)
  unfolding weighed
  roots_left [] g a z = z
  roots_left (q ∷ qs) g a z = (root_left c q.x q.y ps h g.0 g.1 r a.0 z.0, roots_left qs g.2 a.1 z.1)

  -- and so is c, where it is a double root
  roots_left_double :
      (qs : List Place) → BytePlaces qs → eval (quotient c ps) c ≡ 0 → AllZero (weighed (eval ps) qs) → AllZero (weighed (eval (quotient c ps)) qs)
  unfolding weighed
  roots_left_double [] g e z = z
  roots_left_double (q ∷ qs) g e z = (go (ℕ_discrete q.x c), roots_left_double qs g.2 e z.1)
    where
      go : Dec (q.x ≡ c) → times q.y (eval (quotient c ps) q.x) ≡ 0
      go (yes i) = ap (λ (v : ℕ). times q.y (eval (quotient c ps) v)) i ∙ ap (times q.y) e ∙ times_zero q.y g.1
      go (no i) = root_left c q.x q.y ps h g.0 g.1 r i z.0

-- at most as many places as the degree have y not zero
abbrev FewRoots : List Place → Type 0
FewRoots qs = (n : ℕ) (ps : List ℕ) → Monic n ps → AllZero (weighed (eval ps) qs) → nonzero qs ≤ n

one_root_more :
    (n : ℕ) (ps : List ℕ) (q : Place) (qs : List Place) → Monic n ps → BytePlaces (q ∷ qs) → Apart q.x qs → AllZero (weighed (eval ps) qs) →
    FewRoots qs → eval ps q.x ≡ 0 → 1 + nonzero qs ≤ n
one_root_more zero ps q qs m g a z few r = absurd (omega (arith, monic_zero ps q.x g.0 m))
one_root_more (suc n) ps q qs m g a z few r =
    omega (arith, few n (quotient q.x ps) (monic_quotient n q.x ps g.0 m) (roots_left q.x ps g.0 r qs g.2 a z))

pub few_roots : (qs : List Place) → BytePlaces qs → Different qs → FewRoots qs
unfolding weighed nonzero
few_roots [] g d n ps m z = omega arith
few_roots (q ∷ qs) g d n ps m z = go (few_roots qs g.2 d.1) (eqb q.y 0) refl
  where
    go : FewRoots qs → (t : Bool) → eqb q.y 0 ≡ t → cond t 0 1 + nonzero qs ≤ n
    go few true e = omega (arith, few n ps m z.1)
    go few false e =
        one_root_more n ps q qs m g d.0 z.1 few
        (no_zero_divisors q.y (eval ps q.x) g.1 (eval_lt ps q.x) z.0 (eqb-false q.y 0 e))

-- weighed by the quotient, one place is left
term_zero : (x y : ℕ) → y < 256 → times y (power x 0) ≡ y
term_zero x y h = ap (times y) (power_zero x) ∙ times_one y h

quotient_sum :
    (ps : List ℕ) (p : Place) (qs : List Place) → eval ps p.x ≡ 0 → BytePlaces qs → Different qs → AllZero (weighed (eval ps) qs) → In p qs →
    power_sum 0 (weighed (eval (quotient p.x ps)) qs) ≡ times p.y (eval (quotient p.x ps) p.x)
unfolding weighed
quotient_sum ps p qs r g d z (first rs) =
    power_sum_cons 0 _ (weighed (eval (quotient p.x ps)) rs)
    ∙ ap₂ plus (term_zero p.x _ (times_lt _ _)) (power_sum_zero 0 _ (roots_left p.x ps g.0 r rs g.2 d.0 z.1))
    ∙ plus_zero _ (times_lt _ _)
quotient_sum ps p qs r g d z (later q rs i) =
    power_sum_cons 0 _ (weighed (eval (quotient p.x ps)) rs)
    ∙ ap₂ plus
    (term_zero q.x _ (times_lt _ _)
    ∙ root_left p.x q.x q.y ps (bytes_in p rs g.2 i).0 g.0 g.1 r (λ e. apart_in q.x p rs d.0 i (sym e)) z.0)
    (quotient_sum ps p rs r g.2 d.1 z.1 i)
    ∙ zero_plus _ (times_lt _ _)

-- the value at each place
module _ (S : ℕ → ℕ) (n : ℕ) (qs : List Place) (g : BytePlaces qs) (d : Different qs) (sums : (i : ℕ) → i < n → S i ≡ power_sum i qs) (ps : List ℕ) (z : AllZero (weighed (eval ps) qs)) (p : Place) (i : In p qs) where
  x_lt : p.x < 256
  x_lt = (bytes_in p qs g i).0

  y_lt : p.y < 256
  y_lt = (bytes_in p qs g i).1

  value_at_root :
      (l : ℕ) → Monic l ps → l ≤ n → l ≤ nonzero qs → eval ps p.x ≡ 0 →
      times (against (quotient p.x ps) S 0) (inverse (eval (quotient p.x ps) p.x)) ≡ p.y
  value_at_root zero m h v r = absurd (omega (arith, monic_zero ps p.x x_lt m))
  value_at_root (suc l) m h v r = ap (λ (a : ℕ). times a (inverse e)) sum ∙ times_divide p.y e y_lt (eval_lt _ _) simple
    where
      e : ℕ
      e = eval (quotient p.x ps) p.x

      lower : Monic l (quotient p.x ps)
      lower = monic_quotient l p.x ps x_lt m

      sum : against (quotient p.x ps) S 0 ≡ times p.y e
      sum =
          against_same S (λ i. power_sum i qs) n sums (quotient p.x ps) 0 (omega (arith, monic_length l (quotient p.x ps) lower))
          ∙ against_power_sums (quotient p.x ps) 0 qs (monic_bytes l (quotient p.x ps) lower) g ∙ quotient_sum ps p qs r g d z i

      simple : e ≡ 0 → ⊥
      simple w = omega (arith, few_roots qs g d l (quotient p.x ps) lower (roots_left_double p.x ps x_lt r qs g w z))

  pub value_at_place : (l : ℕ) → Monic l ps → l ≤ n → l ≤ nonzero qs → value S ps p.x ≡ p.y
  unfolding value
  value_at_place l m h v = go (eqb (eval ps p.x) 0) refl
    where
      go : (t : Bool) → eqb (eval ps p.x) 0 ≡ t → cond t (times (against (quotient p.x ps) S 0) (inverse (eval (quotient p.x ps) p.x))) 0 ≡ p.y
      go true q = value_at_root l m h v (eqb-true _ 0 q)
      go false q =
          sym
          (no_zero_divisors (eval ps p.x) p.y (eval_lt ps p.x) y_lt
          (times_comm (eval ps p.x) p.y (eval_lt ps p.x) y_lt ∙ zero_in (eval ps) p qs z i) (eqb-false _ 0 q))
