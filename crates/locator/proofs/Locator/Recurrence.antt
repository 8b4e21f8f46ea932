-- A sequence that a monic polynomial with as many roots as its degree cancels is a sequence of power sums at those roots. By
-- induction over the roots: with x one of them, S(j+1) + x·S(j) is cancelled by the quotient by X + x, so it is the power sums of
-- weights y at the others; then S is those of y/(z + x) at each other root z, and of what S(0) lacks at x, since both sequences
-- start with S(0) and go on by the same rule. Assumes nothing.
use mathlib.Core.Path.{◌≡◌, refl, sym, ◌∙◌, ap, ap₂, subst}
use mathlib.Core.List.{List, [], ◌∷◌}
use Prim.Native.Nat.{ℕ, zero, suc, ◌+◌, ◌-◌, ◌<◌}
use native.Mathlib.Omega.{arith}
use native.Mathlib.Decide.{ℕ_discrete}
use borrow.Author.Tests.{eq-eqb, ne_eqb}
use Rattle.field.specs.Field.{plus, times, inverse}
use Rattle.field.proofs.Xor.{plus_self, plus_lt, plus_zero, plus_back, equal_of_plus_zero}
use Rattle.field.proofs.Times.{times_lt, times_plus, one_times, zero_times, times_zero}
use Rattle.field.proofs.Power.{power_zero}
use Rattle.field.proofs.Logarithm.{times_assoc, times_left_comm, times_one, no_zero_divisors, plus_times}
use Rattle.field.proofs.Division.{divide_times}
use Rattle.code.specs.Polynomial.{eval}
use Rattle.arrays.proofs.Bytes.{Bytes}
use Rattle.code.proofs.Codewords.Place.{Place, BytePlaces, Apart, Different, AllZero, nonzero, weighed, weighed_bytes}
use Rattle.code.proofs.Codewords.PowerSum.{power_sum, power_sum_cons, power_sum_lt, power_sum_skip, power_sum_factor}
use Rattle.code.proofs.Polynomials.Arithmetic.{eval_lt}
use Rattle.locator.specs.Locator.{against, quotient}
use Rattle.locator.proofs.Polynomials.Against.{against_lt}
use Rattle.locator.proofs.Polynomials.Monic.{Monic, monic_bytes, monic_quotient, regroup}
use Rattle.locator.proofs.Polynomials.Steps.{against_quotient}
use Rattle.locator.proofs.Locator.Roots.{roots_left}
use Rattle.locator.proofs.Locator.Along.{Along, along_bytes, along_apart, along_weighed}

-- the sequence that the quotient by X + x is summed against, where the polynomial is summed against S
unfoldable advanced : (x : ℕ) → (S : ℕ → ℕ) → ℕ → ℕ
advanced x S j = plus (S (suc j)) (times x (S j))

advanced_lt : (x : ℕ) (S : ℕ → ℕ) (j : ℕ) → advanced x S j < 256
unfolding advanced
advanced_lt x S j = plus_lt _ _

against_divided :
    (x : ℕ) (ps : List ℕ) (S : ℕ → ℕ) (j : ℕ) → x < 256 → Bytes ps → ((i : ℕ) → S i < 256) →
    against ps S j ≡ plus (against (quotient x ps) (advanced x S) j) (times (eval ps x) (S j))
unfolding against eval quotient advanced
against_divided x [] S j h b bytes = sym (ap (plus 0) (zero_times (S j)) ∙ plus_self 0)
against_divided x (p ∷ ps) S j h b bytes =
    ap (plus (times p (S j))) (against_divided x ps S (suc j) h b.1 bytes)
    ∙ sym (regroup (times e (S (suc j))) (times e (times x (S j))) rest (times p (S j)))
    ∙ ap₂ plus (sym head) (sym tail)
  where
    e : ℕ
    e = eval ps x

    rest : ℕ
    rest = against (quotient x ps) (advanced x S) (suc j)

    head : against (quotient x (p ∷ ps)) (advanced x S) j ≡ plus (plus (times e (S (suc j))) (times e (times x (S j)))) rest
    head =
        against_quotient p x j ps (advanced x S)
        ∙ ap (λ (z : ℕ). plus z rest) (times_plus e (S (suc j)) (times x (S j)) (eval_lt ps x))

    tail : times (plus p (times x e)) (S j) ≡ plus (times p (S j)) (times e (times x (S j)))
    tail =
        plus_times p (times x e) (S j) b.0 (times_lt _ _) (bytes j)
        ∙ ap (plus _) (times_assoc x e (S j) h (eval_lt ps x) ∙ times_left_comm x e (S j) h (eval_lt ps x))

-- the weights
pub record Weights (rs : List Place) (S : ℕ → ℕ) (count : ℕ) : Type 0 where
  pub weighted : List Place
  pub along : Along rs weighted
  pub sums : (i : ℕ) → i < count → power_sum i weighted ≡ S i

abbrev Weighable : List Place → Type 0
Weighable rs =
    (n : ℕ) (ps : List ℕ) (S : ℕ → ℕ) (count : ℕ) → Monic n ps → AllZero (weighed (eval ps) rs) → nonzero rs ≡ n → ((i : ℕ) → S i < 256) →
    ((j : ℕ) → j + n < count → against ps S j ≡ 0) → Weights rs S count

-- no place
single_zero : (ps : List ℕ) (S : ℕ → ℕ) (j : ℕ) → Monic 0 ps → S j < 256 → against ps S j ≡ 0 → S j ≡ 0
unfolding against
single_zero [] S j m h e = absurd m
single_zero (p ∷ []) S j m h e = sym (ap (λ (z : ℕ). times z (S j)) m ∙ one_times (S j) h) ∙ sym (plus_zero _ (times_lt _ _)) ∙ e
single_zero (p ∷ q ∷ ps) S j m h e = absurd m

weights_none : Weighable []
unfolding nonzero power_sum
weights_none n ps S count m z l bytes e =
    record {
      weighted = [];
      along = tt;
      sums = λ i h. sym (single_zero ps S i (subst (λ (k : ℕ). Monic k ps) (sym l) m) (bytes i) (e i (omega arith)));
    }

-- a place that counts for nothing
weights_skip : (p : Place) (rs : List Place) → p.y ≡ 0 → Weighable rs → Weighable (p ∷ rs)
unfolding nonzero weighed
weights_skip p rs y weigh n ps S count m z l bytes e =
    record {
      weighted = skipped ∷ rest.weighted;
      along = (refl, omega arith, λ e. refl, rest.along);
      sums = λ i h. power_sum_skip i skipped rest.weighted refl ∙ rest.sums i h;
    }
  where
    skipped : Place
    skipped = record { x = p.x; y = 0 }

    rest : Weights rs S count
    rest = weigh n ps S count m z.1 (omega (arith, rw (eq-eqb p.y 0 y) at l)) bytes e

-- a root: the others have their weights divided by z + x, and it what is lacking of the first sum
weighed_back : (c : ℕ) (qs : List Place) → c < 256 → BytePlaces qs → Apart c qs → weighed (λ x. plus x c) (weighed (λ x. inverse (plus x c)) qs) ≡ qs
unfolding weighed
weighed_back c [] h b a = refl
weighed_back c (q ∷ qs) h b a =
    ap₂ ◌∷◌
    (ap {B = Place} (λ (y : ℕ). record { x = q.x; y = y })
    (divide_times q.y (plus q.x c) b.1 (plus_lt _ _) (λ e. a.0 (equal_of_plus_zero q.x c b.0 h e))))
    (weighed_back c qs h b.2 a.1)

module _ (p : Place) (rs : List Place) (S : ℕ → ℕ) (count : ℕ) (b : BytePlaces (p ∷ rs)) (d : Apart p.x rs) (y : p.y ≡ 0 → ⊥) (bytes : (i : ℕ) → S i < 256) (rest : Weights rs (advanced p.x S) (count - 1)) where
  abbrev x : ℕ
  x = p.x

  others : List Place
  others = weighed (λ z. inverse (plus z x)) rest.weighted

  lacking : Place
  lacking = record { x = x; y = plus (S 0) (power_sum 0 others) }

  rest_bytes : BytePlaces rest.weighted
  rest_bytes = along_bytes rs rest.weighted rest.along b.2

  all_bytes : BytePlaces (lacking ∷ others)
  unfolding others lacking
  all_bytes = (b.0, plus_lt _ _, weighed_bytes (λ z. inverse (plus z x)) rest.weighted rest_bytes)

  sum_first : power_sum 0 (lacking ∷ others) ≡ S 0
  unfolding lacking
  sum_first =
      power_sum_cons 0 lacking others ∙ ap (λ (a : ℕ). plus a (power_sum 0 others)) (ap (times _) (power_zero x) ∙ times_one _ (plus_lt _ _))
      ∙ plus_back (S 0) _ (bytes 0)

  sum_next :
      (i : ℕ) → i < count - 1 →
      plus (power_sum (suc i) (lacking ∷ others)) (times x (power_sum i (lacking ∷ others))) ≡ plus (S (suc i)) (times x (S i))
  unfolding lacking others weighed advanced
  sum_next i l =
      sym (power_sum_factor x i (lacking ∷ others) b.0 all_bytes)
      ∙ power_sum_skip i _ (weighed (λ z. plus z x) others) (ap (times _) (plus_self x) ∙ times_zero _ (plus_lt _ _))
      ∙ ap (power_sum i) (weighed_back x rest.weighted b.0 rest_bytes (along_apart x rs rest.weighted rest.along d)) ∙ rest.sums i l

  sum_all : (i : ℕ) → i < count → power_sum i (lacking ∷ others) ≡ S i
  sum_all zero l = sum_first
  sum_all (suc i) l =
      let term = times x (S i) in
      sym (plus_back _ term (power_sum_lt (suc i) (lacking ∷ others)))
      ∙ ap (λ (z : ℕ). plus z term)
      (ap (λ (z : ℕ). plus (power_sum (suc i) (lacking ∷ others)) (times x z)) (sym (sum_all i (omega arith))) ∙ sum_next i (omega arith))
      ∙ plus_back (S (suc i)) term (bytes (suc i))

  weights_more : Weights (p ∷ rs) S count
  unfolding lacking others
  weights_more =
      record {
        weighted = lacking ∷ others;
        along = (refl, plus_lt _ _, λ e. absurd (y e), along_weighed (λ z. inverse (plus z x)) rs rest.weighted rest.along);
        sums = sum_all;
      }

weights_root : (p : Place) (rs : List Place) → BytePlaces (p ∷ rs) → Apart p.x rs → (p.y ≡ 0 → ⊥) → Weighable rs → Weighable (p ∷ rs)
unfolding nonzero weighed
weights_root p rs b d y weigh zero ps S count m z l bytes e = absurd (omega (arith, rw (ne_eqb p.y 0 y) at l))
weights_root p rs b d y weigh (suc n) ps S count m z l bytes e =
    weights_more p rs S count b d y bytes
    (weigh n (quotient p.x ps) (advanced p.x S) (count - 1) (monic_quotient n p.x ps b.0 m)
    (roots_left p.x ps b.0 root rs b.2 d z.1) (omega (arith, rw (ne_eqb p.y 0 y) at l)) (advanced_lt p.x S) cancelled)
  where
    root : eval ps p.x ≡ 0
    root = no_zero_divisors p.y (eval ps p.x) b.1 (eval_lt ps p.x) z.0 y

    cancelled : (j : ℕ) → j + n < count - 1 → against (quotient p.x ps) (advanced p.x S) j ≡ 0
    cancelled j l =
        sym (plus_zero _ (against_lt _ _ j)) ∙ ap (plus _) (sym (zero_times (S j)) ∙ ap (λ (r : ℕ). times r (S j)) (sym root))
        ∙ sym (against_divided p.x ps S j b.0 (monic_bytes (suc n) ps m) bytes) ∙ e j (omega arith)

pub weights : (rs : List Place) → BytePlaces rs → Different rs → Weighable rs
weights [] b d = weights_none
weights (p ∷ rs) b d = go (ℕ_discrete p.y 0) (weights rs b.2 d.1)
  where
    go : Dec (p.y ≡ 0) → Weighable rs → Weighable (p ∷ rs)
    go (yes y) = weights_skip p rs y
    go (no y) = weights_root p rs b d.0 y
