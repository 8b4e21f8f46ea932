-- The polynomials by which the errors are told, row by row. A row of numerators is summed from the last coefficient down. Of as many
-- coefficients as the longest polynomial has, the two polynomials of a plane have the values that its own quotient gives, since zeros at the
-- end count for nothing. Where no polynomial has more than two coefficients the numerator is the second of them times the first sum, and the
-- slope the second. Assumes nothing.
use mathlib.Core.Path.{◌≡◌, refl, sym, ◌∙◌, ap, ap₂}
use mathlib.Core.Bool.{Bool, true, false, cond}
use mathlib.Core.List.{List, [], ◌∷◌}
use Prim.Native.Nat.{ℕ, suc, ◌+◌, ◌*◌, ◌-◌, ◌/◌, ◌≤◌, ◌<◌}
use native.Mathlib.Omega.{arith}
use native.Mathlib.Decide.{dec_lt, ℕ_discrete}
use native.Mathlib.Numerals.{add-one}
use lib.Dec.{eqb}
use lib.ListN.{length, get_or, drop, get_or-eq_default}
use lib.Seq.{get_or-drop, drop-length}
use borrow.Author.Tests.{eq-eqb, ne_eqb}
use Rattle.arrays.specs.Array.{all_zero, Filled, Written}
use Rattle.arrays.proofs.Zeros.{zero_at}
use Rattle.field.specs.Field.{plus, times, power, inverse}
use Rattle.field.proofs.Xor.{plus_zero}
use Rattle.field.proofs.Times.{times_lt, zero_times}
use Rattle.field.proofs.Power.{power_lt, power_add}
use Rattle.field.proofs.Logarithm.{times_comm}
use Rattle.field.proofs.Division.{times_divide}
use Rattle.lanes.specs.Lanes.{row_width, in_row, lane}
use Rattle.lanes.proofs.Lane.{lane_length, lane_at, lane_bytes}
use Rattle.code.specs.Size.{value_room, locator_rows}
use Rattle.code.specs.Polynomial.{eval}
use Rattle.code.proofs.Polynomials.Arithmetic.{eval_ext, eval_single}
use Rattle.locator.specs.Locator.{against, quotient}
use Rattle.locator.proofs.Polynomials.Steps.{against_drop}
use Rattle.locator.proofs.Polynomials.Fraction.{against_ext, evaluator, evaluator_at, evaluator_value, odd_terms, odd_term, derivative_value}
use Rattle.errors.specs.Roots.{Longest, Fits, polynomial}
use Rattle.errors.specs.Fractions.{told, Numerators, Slopes, fraction, first_told}
use Rattle.errors.proofs.Longest.{same_coefficients}

-- one row of numerators, by the coefficients behind the m-th
module _ (size d : ℕ) (rows sums numerators : List ℕ) where
  abbrev pub SummedFrom : (m : ℕ) → (now : List ℕ) → Type 0
  SummedFrom m now =
      Written (row_width * d) row_width (λ p. against (drop (suc m) (lane p (size + 1) rows)) (λ i. get_or sums (in_row i p) 0) (m - d)) numerators now

  pub summed_none : ((p : ℕ) → p < row_width → get_or numerators (in_row d p) 0 ≡ 0) → SummedFrom size numerators
  unfolding against
  summed_none zero = record { long = refl; new = λ p h. zero p h ∙ sym (nothing p); before = λ i h. refl; after = λ i h. refl }
    where
      nothing : (p : ℕ) → against (drop (suc size) (lane p (size + 1) rows)) (λ i. get_or sums (in_row i p) 0) (size - d) ≡ 0
      nothing p =
          ap (λ (ps : List ℕ). against ps (λ i. get_or sums (in_row i p) 0) (size - d))
          (ap (λ (k : ℕ). drop k (lane p (size + 1) rows)) (let e : suc size ≡ length (lane p (size + 1) rows) = omega (arith, lane_length p (size + 1) rows) in e)
          ∙ drop-length (lane p (size + 1) rows))

  pub summed_more :
      (m k : ℕ) (middle now : List ℕ) → m ≡ k + 1 → d ≤ k → k < size → SummedFrom m middle →
      Written (row_width * d) row_width
      (λ p. plus (times (get_or rows (row_width * (k + 1) + p) 0) (get_or sums (row_width * (k - d) + p) 0)) (get_or middle (row_width * d + p) 0)) middle now →
      SummedFrom k now
  summed_more m k middle now e h l v w =
      record {
        long = w.long ∙ v.long;
        new = λ p g. w.new p g ∙ ap (plus _) (v.new p g) ∙ sym (next p);
        before = λ i g. w.before i g ∙ v.before i g;
        after = λ i g. w.after i g ∙ v.after i g;
      }
    where
      next :
          (p : ℕ) →
          against (drop (suc k) (lane p (size + 1) rows)) (λ i. get_or sums (in_row i p) 0) (k - d)
          ≡ plus (times (get_or rows (in_row (k + 1) p) 0) (get_or sums (in_row (k - d) p) 0))
          (against (drop (suc m) (lane p (size + 1) rows)) (λ i. get_or sums (in_row i p) 0) (m - d))
      next p =
          let S : ℕ → ℕ = λ i. get_or sums (in_row i p) 0 in
          let ps = lane p (size + 1) rows in
          rw (e, add-one k)
          (against_drop ps (suc k) (omega (arith, lane_length p (size + 1) rows)) S (k - d)
          ∙ ap₂ (λ (b a : ℕ). plus (times b (S (k - d))) a) (lane_at p (size + 1) rows (suc k) (omega arith))
          (ap (against (drop (suc (suc k)) ps) S) (let q : suc (k - d) ≡ suc k - d = omega arith in q)))

-- no row of numerators
pub numerators_none :
    (size : ℕ) (rows sums zeros : List ℕ) → length zeros ≡ locator_rows → all_zero zeros ≡ true → Numerators 0 size rows sums zeros
numerators_none size rows sums zeros e z = record { long = e; each = λ d p h l. absurd (omega arith); ahead = λ i h. zero_at zeros z i }

-- the first sum is a byte
pub first_told_lt : (rows sums : List ℕ) (p : ℕ) → get_or sums p 0 < 256 → first_told rows sums p < 256
first_told_lt rows sums p h = go (eqb (get_or rows (row_width + p) 0) 0)
  where
    go : (b : Bool) → cond b 0 (get_or sums p 0) < 256
    go true = omega arith
    go false = h

-- both polynomials' values, divided
pub fractions_filled :
    (size half e twice : ℕ) (numerators slopes above below errors : List ℕ) → half ≡ (size + 1) / 2 → power 2 twice ≡ power 2 (e + e) →
    Filled row_width row_width (λ p. eval (lane p size numerators) (power 2 e)) above →
    Filled row_width row_width (λ p. eval (lane p half slopes) (power 2 twice)) below →
    Filled value_room value_room (λ p. times (get_or above p 0) (inverse (get_or below p 0))) errors →
    Filled value_room value_room (λ p. fraction numerators slopes size p e) errors
fractions_filled size half e twice numerators slopes above below errors d q a b w =
    record {
      long = w.long;
      new = λ p h.
          w.new p h
          ∙ ap₂ (λ (y z : ℕ). times y (inverse z)) (a.new p (omega arith))
          (b.new p (omega arith) ∙ ap₂ (λ (k x : ℕ). eval (lane p k slopes) x) d q);
    }

-- the fraction of a plane is what its own polynomial tells
module _ (size t : ℕ) (rows sums roots : List ℕ) (f : Fits t rows roots) (m : Longest roots size) (row_byte : (i : ℕ) → get_or rows i 0 < 256)
    (sum_byte : (i : ℕ) → get_or sums i 0 < 256) (p : ℕ) (h : p < value_room) where
  abbrev S : ℕ → ℕ
  S i = get_or sums (in_row i p) 0

  abbrev ps : List ℕ
  ps = polynomial rows roots p

  own : (i : ℕ) → get_or (lane p (size + 1) rows) i 0 ≡ get_or ps i 0
  own = same_coefficients size t rows roots f m p h

  past : (i : ℕ) → size < i → get_or ps i 0 ≡ 0
  past i l = get_or-eq_default ps 0 (omega (arith, lane_length p (get_or roots p 0 + 1) rows, m.above p))

  module _ (numerators slopes : List ℕ) (n : Numerators size size rows sums numerators) (o : Slopes ((size + 1) / 2) rows slopes) where
    above_value : (x : ℕ) → x < 256 → eval (lane p size numerators) x ≡ against (quotient x ps) S 0
    unfolding against
    above_value x l =
        eval_ext (lane p size numerators) (evaluator S 0 ps) x l (λ i. go i (dec_lt i size))
        ∙ sym (evaluator_value x l S (λ i. sum_byte _) ps 0 (lane_bytes p _ rows row_byte))
      where
        go : (i : ℕ) → Dec (i < size) → get_or (lane p size numerators) i 0 ≡ get_or (evaluator S 0 ps) i 0
        go i (yes a) =
            lane_at p size numerators i a ∙ n.each i p a (omega arith)
            ∙ against_ext (drop (suc i) (lane p (size + 1) rows)) (drop (suc i) ps) S 0
            (λ k. get_or-drop (suc i) (lane p (size + 1) rows) k 0 ∙ own (suc i + k) ∙ sym (get_or-drop (suc i) ps k 0))
            ∙ sym (evaluator_at S 0 ps i)
        go i (no a) =
            get_or-eq_default (lane p size numerators) 0 (omega (arith, lane_length p size numerators))
            ∙ sym (evaluator_at S 0 ps i ∙ against_ext (drop (suc i) ps) [] S 0 (λ k. get_or-drop (suc i) ps k 0 ∙ past (suc i + k) (omega arith)))

    below_value : (x : ℕ) → x < 256 → eval (lane p ((size + 1) / 2) slopes) (times x x) ≡ eval (quotient x ps) x
    below_value x l =
        eval_ext (lane p ((size + 1) / 2) slopes) (odd_terms ps) (times x x) (times_lt x x) (λ k. go k (dec_lt k ((size + 1) / 2)))
        ∙ sym (derivative_value x ps l (lane_bytes p _ rows row_byte))
      where
        go : (k : ℕ) → Dec (k < (size + 1) / 2) → get_or (lane p ((size + 1) / 2) slopes) k 0 ≡ get_or (odd_terms ps) k 0
        go k (yes a) =
            lane_at p ((size + 1) / 2) slopes k a ∙ o.each k p a (omega arith) ∙ sym (lane_at p (size + 1) rows (2 * k + 1) (omega arith))
            ∙ own (2 * k + 1) ∙ ap (λ (i : ℕ). get_or ps i 0) (add-one (2 * k)) ∙ sym (odd_term ps k)
        go k (no a) =
            get_or-eq_default (lane p ((size + 1) / 2) slopes) 0 (omega (arith, lane_length p ((size + 1) / 2) slopes))
            ∙ sym (odd_term ps k ∙ past (suc (2 * k)) (omega arith))

    pub fraction_told : (e : ℕ) → fraction numerators slopes size p e ≡ told rows sums roots p (power 2 e)
    fraction_told e =
        ap₂ (λ (a b : ℕ). times a (inverse b)) (above_value (power 2 e) (power_lt 2 e))
        (ap (eval (lane p ((size + 1) / 2) slopes)) (sym (power_add e e)) ∙ below_value (power 2 e) (power_lt 2 e))

  -- the first sum, or 0
  module _ (few : size < 2) (x : ℕ) (l : x < 256) where
    abbrev told_of : List ℕ → ℕ
    told_of qs = times (against (quotient x qs) S 0) (inverse (eval (quotient x qs) x))

    abbrev second : ℕ
    second = get_or rows (row_width + p) 0

    none_told : (a : ℕ) → told_of (a ∷ []) ≡ 0
    unfolding against quotient eval
    none_told a = zero_times _

    one_told : (a b : ℕ) → b < 256 → Dec (b ≡ 0) → told_of (a ∷ b ∷ []) ≡ cond (eqb b 0) 0 (S 0)
    unfolding against quotient
    one_told a b k d =
        ap₂ (λ (u v : ℕ). times (plus (times u (S 0)) 0) (inverse v)) (eval_single b x k l) (ap (λ (u : ℕ). eval (u ∷ []) x) (eval_single b x k l) ∙ eval_single b x k l)
        ∙ ap (λ (u : ℕ). times u (inverse b)) (plus_zero _ (times_lt b (S 0))) ∙ go d
      where
        go : Dec (b ≡ 0) → times (times b (S 0)) (inverse b) ≡ cond (eqb b 0) 0 (S 0)
        go (yes e) = rw (eq-eqb b 0 e) (ap (λ (u : ℕ). times (times u (S 0)) (inverse b)) e ∙ ap (λ (u : ℕ). times u (inverse b)) (zero_times (S 0)) ∙ zero_times _)
        go (no e) = rw (ne_eqb b 0 e) (ap (λ (u : ℕ). times u (inverse b)) (times_comm b (S 0) k (sum_byte _)) ∙ times_divide (S 0) b (sum_byte _) k e)

    pub first_told_so : first_told rows sums p ≡ told rows sums roots p x
    unfolding lane
    first_told_so = go (ℕ_discrete (get_or roots p 0) 0)
      where
        go : Dec (get_or roots p 0 ≡ 0) → first_told rows sums p ≡ told rows sums roots p x
        go (yes e) =
            let none : second ≡ 0 = ap (λ (i : ℕ). get_or rows i 0) (let q : row_width + p ≡ in_row 1 p = omega arith in q) ∙ f.past p 1 h (omega arith) in
            rw (eq-eqb second 0 none) (sym (ap (λ (k : ℕ). told_of (lane p k rows)) (let q : get_or roots p 0 + 1 ≡ 1 = omega arith in q) ∙ none_told _))
        go (no e) =
            ap (λ (i : ℕ). cond (eqb second 0) 0 (get_or sums i 0)) (let q : p ≡ in_row 0 p = omega arith in q)
            ∙ sym
            (ap (λ (k : ℕ). told_of (lane p k rows)) (let q : get_or roots p 0 + 1 ≡ 2 = omega (arith, m.above p) in q)
            ∙ ap (λ (b : ℕ). told_of (get_or rows p 0 ∷ b ∷ [])) (get_or-drop row_width rows p 0) ∙ one_told (get_or rows p 0) second (row_byte _) (ℕ_discrete second 0))
