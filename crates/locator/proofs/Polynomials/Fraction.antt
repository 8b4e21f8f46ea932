-- The error at a root as a fraction of two polynomials. Above, the quotient by x − c against the power sums is the value at c of the
-- evaluator, whose coefficient d is the polynomial behind coefficient d against the sums. Below, the quotient's value at c is that of the
-- derivative: in this field its terms are those of the odd powers, one power down, so it is a polynomial of c². Both hold at every c, and
-- nothing but the coefficients counts. Assumes nothing.
use mathlib.Core.Path.{◌≡◌, refl, sym, ◌∙◌, ap, ap₂}
use mathlib.Core.List.{List, [], ◌∷◌}
use Prim.Native.Nat.{ℕ, zero, suc, ◌*◌, ◌<◌}
use native.Mathlib.Omega.{arith}
use lib.ListN.{get_or, drop}
use Rattle.field.specs.Field.{plus, times}
use Rattle.field.proofs.Xor.{plus_self, plus_assoc, plus_swap, plus_again}
use Rattle.field.proofs.Times.{times_lt, times_plus, zero_times, times_zero}
use Rattle.field.proofs.Logarithm.{times_assoc, plus_times}
use Rattle.arrays.proofs.Bytes.{Bytes}
use Rattle.code.specs.Polynomial.{eval}
use Rattle.code.proofs.Polynomials.Arithmetic.{eval_lt}
use Rattle.locator.specs.Locator.{against, quotient}
use Rattle.locator.proofs.Polynomials.Steps.{eval_quotient, against_quotient}

-- zeros at the end of a polynomial do not count against a sequence
pub against_ext : (ps qs : List ℕ) (S : ℕ → ℕ) (j : ℕ) → ((i : ℕ) → get_or ps i 0 ≡ get_or qs i 0) → against ps S j ≡ against qs S j
unfolding against
against_ext [] [] S j e = refl
against_ext [] (q ∷ qs) S j e =
    sym (ap₂ (λ (a b : ℕ). plus (times a (S j)) b) (sym (e 0)) (sym (against_ext [] qs S (suc j) (λ i. e (suc i)))) ∙ ap (λ (z : ℕ). plus z 0) (zero_times (S j)) ∙ plus_self 0)
against_ext (p ∷ ps) [] S j e =
    ap₂ (λ (a b : ℕ). plus (times a (S j)) b) (e 0) (against_ext ps [] S (suc j) (λ i. e (suc i))) ∙ ap (λ (z : ℕ). plus z 0) (zero_times (S j)) ∙ plus_self 0
against_ext (p ∷ ps) (q ∷ qs) S j e =
    ap₂ (λ (a b : ℕ). plus (times a (S j)) b) (e 0) (against_ext ps qs S (suc j) (λ i. e (suc i)))

-- each coefficient is what stands behind it against the sums
unfoldable pub evaluator : (S : ℕ → ℕ) → (j : ℕ) → List ℕ → List ℕ
evaluator S j [] = []
evaluator S j (p ∷ ps) = against ps S j ∷ evaluator S j ps

pub evaluator_at : (S : ℕ → ℕ) (j : ℕ) (ps : List ℕ) (d : ℕ) → get_or (evaluator S j ps) d 0 ≡ against (drop (suc d) ps) S j
unfolding evaluator against
evaluator_at S j [] d = refl
evaluator_at S j (p ∷ ps) zero = refl
evaluator_at S j (p ∷ ps) (suc d) = evaluator_at S j ps d

module _ (c : ℕ) (h : c < 256) (S : ℕ → ℕ) (bytes : (i : ℕ) → S i < 256) where
  -- from one sum to the next
  evaluator_next :
      (ps : List ℕ) (j : ℕ) → Bytes ps →
      plus (times (eval ps c) (S j)) (eval (evaluator S (suc j) ps) c) ≡ plus (against ps S j) (times c (eval (evaluator S j ps) c))
  unfolding evaluator against eval
  evaluator_next [] j b = ap₂ plus (zero_times (S j)) (sym (times_zero c h))
  evaluator_next (p ∷ ps) j b =
      ap (λ (z : ℕ). plus z (plus a (times c g))) (plus_times p (times c f) (S j) b.0 (times_lt _ _) (bytes j))
      ∙ plus_swap (times p (S j)) (times (times c f) (S j)) a (times c g)
      ∙ ap (plus (plus (times p (S j)) a))
      (ap (λ (z : ℕ). plus z (times c g)) (times_assoc c f (S j) h (eval_lt ps c))
      ∙ sym (times_plus c (times f (S j)) g h) ∙ ap (times c) (evaluator_next ps j b.1))
    where
      f : ℕ
      f = eval ps c

      a : ℕ
      a = against ps S (suc j)

      g : ℕ
      g = eval (evaluator S (suc j) ps) c

  pub evaluator_value : (ps : List ℕ) (j : ℕ) → Bytes ps → against (quotient c ps) S j ≡ eval (evaluator S j ps) c
  unfolding evaluator against eval quotient
  evaluator_value [] j b = refl
  evaluator_value (p ∷ ps) j b =
      against_quotient p c j ps S ∙ ap (plus (times (eval ps c) (S j))) (evaluator_value ps (suc j) b.1) ∙ evaluator_next ps j b.1

-- the coefficients of the odd powers
unfoldable pub odd_terms : List ℕ → List ℕ
odd_terms [] = []
odd_terms (p ∷ []) = []
odd_terms (p ∷ q ∷ ps) = q ∷ odd_terms ps

pub odd_term : (ps : List ℕ) (k : ℕ) → get_or (odd_terms ps) k 0 ≡ get_or ps (suc (2 * k)) 0
unfolding odd_terms
odd_term [] k = refl
odd_term (p ∷ []) k = refl
odd_term (p ∷ q ∷ ps) zero = refl
odd_term (p ∷ q ∷ ps) (suc k) =
    odd_term ps k ∙ ap (λ (i : ℕ). get_or (p ∷ q ∷ ps) i 0) (let e : suc (suc (suc (2 * k))) ≡ suc (2 * suc k) = omega arith in e)

pub derivative_value : (c : ℕ) (ps : List ℕ) → c < 256 → Bytes ps → eval (quotient c ps) c ≡ eval (odd_terms ps) (times c c)
unfolding odd_terms eval quotient
derivative_value c [] h b = refl
derivative_value c (p ∷ []) h b = refl
derivative_value c (p ∷ q ∷ ps) h b =
    eval_quotient p c (q ∷ ps) h ∙ ap (λ (z : ℕ). plus (plus q (times c f)) (times c z)) (eval_quotient q c ps h)
    ∙ ap (plus (plus q (times c f))) (times_plus c f (times c g) h) ∙ plus_assoc q (times c f) _
    ∙ ap (plus q)
    (plus_again (times c f) (times c (times c g)) (times_lt _ _) ∙ sym (times_assoc c c g h h)
    ∙ ap (times (times c c)) (derivative_value c ps h b.1.1))
  where
    f : ℕ
    f = eval ps c

    g : ℕ
    g = eval (quotient c ps) c
