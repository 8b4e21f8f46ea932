-- The syndromes of checks row by row: check c's byte times the powers count − 1 − c of the roots is what one more check adds to
-- the sums. With zero bytes at the columns the sums are the syndromes. Assumes nothing.
use mathlib.Core.Path.{◌≡◌, refl, sym, ◌∙◌, ap, ap₂}
use mathlib.Core.Bool.{true}
use mathlib.Core.List.{List, [], ◌∷◌, ◌++◌}
use Prim.Native.Nat.{ℕ, zero, suc, ◌+◌, ◌-◌, ◌<◌}
use native.Mathlib.Omega.{arith}
use native.Mathlib.Numerals.{add-one}
use lib.ListN.{length, get_or, replicate}
use Rattle.arrays.specs.Array.{all_zero}
use Rattle.arrays.proofs.Zeros.{zero_at}
use Rattle.field.specs.Field.{plus, times, power}
use Rattle.field.proofs.Xor.{plus_assoc, plus_lt, plus_zero, zero_plus}
use Rattle.field.proofs.Times.{times_lt, zero_times}
use Rattle.lanes.specs.Lanes.{row_width, in_row, lane}
use Rattle.code.specs.Size.{check_rows}
use Rattle.code.specs.Settings.{Settings, check_count}
use Rattle.code.specs.Polynomial.{root}
use Rattle.code.specs.Plane.{summed, syndrome}
use Rattle.sums.specs.Rows.{CheckSums}
use Rattle.sums.proofs.Sums.Terms.{TermsAdded}
use Rattle.lanes.proofs.Lane.{lane_length, lane_more}

-- bytes times falling powers: one more byte at the end, and zero bytes
summed_lt : (x k : ℕ) (us : List ℕ) → summed x k us < 256
unfolding summed
summed_lt x k [] = omega arith
summed_lt x k (u ∷ us) = plus_lt _ _

summed_more : (x k m b : ℕ) (us : List ℕ) → m ≡ k - length us → summed x k (us ++ (b ∷ [])) ≡ plus (summed x k us) (times b (power x m))
unfolding summed
summed_more x k m b [] e =
    plus_zero _ (times_lt _ _) ∙ ap (λ (n : ℕ). times b (power x n)) (let q : k ≡ m = omega arith in q) ∙ sym (zero_plus _ (times_lt _ _))
summed_more x k m b (u ∷ us) e = ap (plus _) (summed_more x (k - 1) m b us (omega arith)) ∙ sym (plus_assoc _ _ _)

pub summed_zeros : (x k n : ℕ) → summed x k (replicate n 0) ≡ 0
unfolding summed
summed_zeros x k zero = refl
summed_zeros x k (suc n) = ap₂ plus (zero_times _) (summed_zeros x (k - 1) n) ∙ plus_zero 0 (omega arith)

pub syndrome_zeros : (s : Settings) (i n : ℕ) (cs : List ℕ) → syndrome s i (replicate n 0) cs ≡ summed (root i) (check_count s - 1) cs
unfolding syndrome
syndrome_zeros s i n cs = ap (λ (b : ℕ). plus b (summed (root i) (check_count s - 1) cs)) (summed_zeros (root i) 254 n) ∙ zero_plus _ (summed_lt _ _ cs)

-- row by row
pub check_sums_none : (count : ℕ) (checks sums : List ℕ) → length sums ≡ check_rows → all_zero sums ≡ true → CheckSums 0 count checks sums
unfolding lane summed
check_sums_none count checks sums e z = record { long = e; each = λ i p h l. zero_at sums z (in_row i p) }

pub check_sums_more :
    (c e count : ℕ) (checks row sums now : List ℕ) → e ≡ count - 1 - c → CheckSums c count checks sums →
    ((p : ℕ) → p < row_width → get_or row p 0 ≡ get_or checks (in_row c p) 0) → TermsAdded count (λ i. power (root i) e) row sums now → CheckSums (c + 1) count checks now
check_sums_more c e count checks row sums now q s r t =
    record {
      long = t.long ∙ s.long;
      each = λ i p h l.
          t.terms i p h l ∙ ap₂ plus (s.each i p h l) (ap (λ (b : ℕ). times b (power (root i) e)) (r p l))
          ∙ sym
          (ap (summed (root i) (count - 1)) (ap (λ (k : ℕ). lane p k checks) (add-one c) ∙ lane_more p c checks)
          ∙ summed_more (root i) (count - 1) e _ (lane p c checks) (omega (arith, lane_length p c checks)));
    }

-- what the sums are to the decoder of a plane
pub check_sums_syndrome :
    (s : Settings) (n count : ℕ) (checks sums : List ℕ) → check_count s ≡ count → CheckSums count count checks sums → (i p : ℕ) → i < count → p < row_width →
    get_or sums (in_row i p) 0 ≡ syndrome s i (replicate n 0) (lane p count checks)
check_sums_syndrome s n count checks sums e c i p h l =
    c.each i p h l
    ∙ sym (syndrome_zeros s i n (lane p count checks) ∙ ap (λ (k : ℕ). summed (root i) (k - 1) (lane p count checks)) e)
