-- Places at the same x as others, weighted only where those are: they are bytes and different where those are, zero under each
-- weight under which those are, and no more of them are not zero; and where as many are, they are zero only where those are.
-- Assumes nothing.
use mathlib.Core.Path.{◌≡◌, refl, sym, ◌∙◌, ap, subst}
use mathlib.Core.List.{List, [], ◌∷◌}
use Prim.Native.Nat.{ℕ, zero, suc, ◌<◌, ◌≤◌}
use native.Mathlib.Omega.{arith}
use native.Mathlib.Decide.{ℕ_discrete}
use lib.Dec.{eqb}
use lib.ListN.{length, get_or}
use borrow.Author.Tests.{eqb-true, eq-eqb, ne_eqb}
use Rattle.arrays.proofs.Bool.{count_le}
use Rattle.field.specs.Field.{times}
use Rattle.field.proofs.Times.{times_lt, zero_times, times_zero}
use Rattle.field.proofs.Logarithm.{no_zero_divisors}
use Rattle.code.proofs.Codewords.Place.{Place, BytePlaces, Apart, Different, AllZero, nonzero, weighed}

-- at the same x, with y a byte, and zero where theirs is
abbrev pub Along : (marked weighted : List Place) → Type 0
Along [] [] = Unit {0}
Along [] (q ∷ qs) = ⊥
Along (p ∷ ps) [] = ⊥
Along (p ∷ ps) (q ∷ qs) = (q.x ≡ p.x) × (q.y < 256) × (p.y ≡ 0 → q.y ≡ 0) × Along ps qs

pub along_length : (ps qs : List Place) → Along ps qs → length qs ≡ length ps
along_length [] [] a = refl
along_length [] (q ∷ qs) a = absurd a
along_length (p ∷ ps) [] a = absurd a
along_length (p ∷ ps) (q ∷ qs) a = ap suc (along_length ps qs a.3)

pub along_x : (ps qs : List Place) (j : ℕ) (o : Place) → Along ps qs → (get_or qs j o).x ≡ (get_or ps j o).x
along_x [] [] j o a = refl
along_x [] (q ∷ qs) j o a = absurd a
along_x (p ∷ ps) [] j o a = absurd a
along_x (p ∷ ps) (q ∷ qs) zero o a = a.0
along_x (p ∷ ps) (q ∷ qs) (suc j) o a = along_x ps qs j o a.3

pub along_bytes : (ps qs : List Place) → Along ps qs → BytePlaces ps → BytePlaces qs
along_bytes [] [] a b = tt
along_bytes [] (q ∷ qs) a b = absurd a
along_bytes (p ∷ ps) [] a b = absurd a
along_bytes (p ∷ ps) (q ∷ qs) a b = (rw a.0 b.0, a.1, along_bytes ps qs a.3 b.2)

pub along_apart : (c : ℕ) (ps qs : List Place) → Along ps qs → Apart c ps → Apart c qs
along_apart c [] [] a d = tt
along_apart c [] (q ∷ qs) a d = absurd a
along_apart c (p ∷ ps) [] a d = absurd a
along_apart c (p ∷ ps) (q ∷ qs) a d = ((λ e. d.0 (sym a.0 ∙ e)), along_apart c ps qs a.3 d.1)

pub along_different : (ps qs : List Place) → Along ps qs → Different ps → Different qs
along_different [] [] a d = tt
along_different [] (q ∷ qs) a d = absurd a
along_different (p ∷ ps) [] a d = absurd a
along_different (p ∷ ps) (q ∷ qs) a d = (
  subst (λ (c : ℕ). Apart c qs) (sym a.0) (along_apart p.x ps qs a.3 d.0),
  along_different ps qs a.3 d.1,
)

pub along_zero :
    (f : ℕ → ℕ) (ps qs : List Place) → ((x : ℕ) → f x < 256) → Along ps qs → BytePlaces ps → AllZero (weighed f ps) → AllZero (weighed f qs)
unfolding weighed
along_zero f [] [] h a b z = tt
along_zero f [] (q ∷ qs) h a b z = absurd a
along_zero f (p ∷ ps) [] h a b z = absurd a
along_zero f (p ∷ ps) (q ∷ qs) h a b z = (go (ℕ_discrete p.y 0), along_zero f ps qs h a.3 b.2 z.1)
  where
    go : Dec (p.y ≡ 0) → times q.y (f q.x) ≡ 0
    go (yes e) = ap (λ (y : ℕ). times y (f q.x)) (a.2 e) ∙ zero_times _
    go (no e) =
        ap (times q.y) (ap f a.0 ∙ no_zero_divisors p.y (f p.x) b.1 (h p.x) z.0 e) ∙ times_zero q.y a.1

pub along_nonzero : (ps qs : List Place) → Along ps qs → nonzero qs ≤ nonzero ps
unfolding nonzero
along_nonzero [] [] a = omega arith
along_nonzero [] (q ∷ qs) a = absurd a
along_nonzero (p ∷ ps) [] a = absurd a
along_nonzero (p ∷ ps) (q ∷ qs) a =
    omega (arith, count_le (eqb q.y 0) (eqb p.y 0) (λ e. eq-eqb _ 0 (a.2 (eqb-true _ 0 e))), along_nonzero ps qs a.3)

pub along_weighed : (f : ℕ → ℕ) (ps qs : List Place) → Along ps qs → Along ps (weighed f qs)
unfolding weighed
along_weighed f [] [] a = tt
along_weighed f [] (q ∷ qs) a = absurd a
along_weighed f (p ∷ ps) [] a = absurd a
along_weighed f (p ∷ ps) (q ∷ qs) a = (
  a.0,
  times_lt _ _,
  λ e. ap (λ (y : ℕ). times y (f q.x)) (a.2 e) ∙ zero_times _,
  along_weighed f ps qs a.3,
)

-- as many not zero: zero only where theirs is
pub along_full :
    (ps qs : List Place) → Along ps qs → nonzero ps ≤ nonzero qs → (j : ℕ) (o : Place) → j < length ps → (get_or qs j o).y ≡ 0 → (get_or ps j o).y ≡ 0
unfolding nonzero
along_full [] [] a h j o l e = absurd (omega arith)
along_full [] (q ∷ qs) a h j o l e = absurd a
along_full (p ∷ ps) [] a h j o l e = absurd a
along_full (p ∷ ps) (q ∷ qs) a h zero o l e = go (ℕ_discrete p.y 0)
  where
    go : Dec (p.y ≡ 0) → p.y ≡ 0
    go (yes z) = z
    go (no z) = absurd (omega (arith, rw (ne_eqb p.y 0 z, eq-eqb q.y 0 e) at h, along_nonzero ps qs a.3))
along_full (p ∷ ps) (q ∷ qs) a h (suc j) o l e =
    along_full ps qs a.3
    (omega (arith, count_le (eqb q.y 0) (eqb p.y 0) (λ z. eq-eqb _ 0 (a.2 (eqb-true _ 0 z))))) j o (omega arith) e
