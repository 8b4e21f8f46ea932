-- Two rows compared in all columns at once. The `or` of a mark and the `xor` of two bytes is 0 only where the mark is and the bytes are
-- the same, so that after a value's planes a mark is 0 just where the two values are the same. Row by row, that counts how often the
-- value of a row is found. Assumes nothing.
use mathlib.Core.Path.{◌≡◌, refl, sym, ◌∙◌, ap, ap₂}
use mathlib.Core.Bool.{Bool, true, false, cond, ◌&&◌, and_assoc, and-true}
use mathlib.Core.List.{List, [], ◌∷◌, ◌++◌}
use Prim.Native.Nat.{ℕ, ◌+◌, ◌≤◌, ◌<◌}
use native.Mathlib.Omega.{arith}
use lib.Bits.{bit_or, bit_xor, xor_self, xor_add_and, and_le_l, and_le_r}
use lib.Dec.{eqb}
use lib.ListN.{length, get_or, drop}
use borrow.Author.Tests.{eqb-true, eqb-false, ne_eqb}
use Rattle.arrays.specs.Array.{Written}
use Rattle.arrays.proofs.Zeros.{or_zero}
use Rattle.code.specs.Size.{most_columns}
use Rattle.code.specs.Vector.{same}
use Rattle.grading.specs.Value.{entries}
use Rattle.grading.specs.Count.{found}
use Rattle.grading.proofs.Value.{entries_length, entries_more}
use Rattle.counting.specs.Steps.Table.{Planes, byte_in, value_in, rows_in}
use Rattle.counting.specs.Steps.Tally.{Marked, MarksSame, CountedOn, FoundInColumns}
use Rattle.counting.proofs.Planes.{found_on, rows_none}

xor_same : (a b : ℕ) → eqb (bit_xor a b) 0 ≡ eqb a b
xor_same a b = go (eqb a b) refl
  where
    go : (t : Bool) → eqb a b ≡ t → eqb (bit_xor a b) 0 ≡ t
    go true e = rw (eqb-true a b e, xor_self b) refl
    go false e = ne_eqb (bit_xor a b) 0 (λ z. eqb-false a b e (omega (arith, xor_add_and a b, and_le_l a b, and_le_r a b)))

-- a mark after one more pair of bytes
abbrev pub mark_on : (mark a b : ℕ) → ℕ
mark_on mark a b = bit_or mark (bit_xor a b)

-- all marks after one more plane
pub marked_all :
    (a b marks now : List ℕ) → length marks ≡ most_columns →
    Written 0 most_columns (λ k. mark_on (get_or marks k 0) (get_or a k 0) (get_or b k 0)) marks now → Marked a b marks now
marked_all a b marks now long w =
    record {
      long = w.long ∙ long;
      each = λ k h.
          ap (λ (i : ℕ). eqb (get_or now i 0) 0) (let e : k ≡ 0 + k = omega arith in e) ∙ ap (λ (v : ℕ). eqb v 0) (w.new k h) ∙ or_zero (get_or marks k 0) _
          ∙ ap (◌&&◌ (eqb (get_or marks k 0) 0)) (xor_same (get_or a k 0) (get_or b k 0));
    }

-- one more byte
same_last : (us vs : List ℕ) (u v : ℕ) → length us ≡ length vs → same (us ++ (u ∷ [])) (vs ++ (v ∷ [])) ≡ (same us vs && eqb u v)
unfolding same
same_last [] [] u v e = and-true (eqb u v)
same_last [] (y ∷ vs) u v e = absurd (omega arith)
same_last (x ∷ us) [] u v e = absurd (omega arith)
same_last (x ∷ us) (y ∷ vs) u v e = ap (◌&&◌ (eqb x y)) (same_last us vs u v (omega arith)) ∙ sym (and_assoc (eqb x y) (same us vs) (eqb u v))

module _ (x : Planes) (i c : ℕ) where
  value_more : (w k : ℕ) →
      same (value_in (w + 1) x i k) (value_in (w + 1) x c k) ≡ (same (value_in w x i k) (value_in w x c k) && eqb (byte_in x w i k) (byte_in x w c k))
  unfolding value_in
  value_more w k =
      ap₂ same (sym (entries_more w (λ p. byte_in x p i k))) (sym (entries_more w (λ p. byte_in x p c k)))
      ∙ same_last (entries w 0 (λ p. byte_in x p i k)) (entries w 0 (λ p. byte_in x p c k)) _ _ (entries_length w 0 _ ∙ sym (entries_length w 0 _))

  pub marks_none : (marks : List ℕ) → ((k : ℕ) → get_or marks k 0 ≡ 0) → MarksSame 0 x i c marks
  unfolding value_in entries same
  marks_none marks z k h = ap (λ (v : ℕ). eqb v 0) (z k)

  pub marks_more : (p : ℕ) (marks now : List ℕ) → MarksSame p x i c marks → Marked (get_or (get_or x p []) i []) (get_or (get_or x p []) c []) marks now →
      MarksSame (p + 1) x i c now
  unfolding byte_in
  marks_more p marks now a b k h =
      b.each k h ∙ ap (λ (t : Bool). t && eqb (byte_in x p i k) (byte_in x p c k)) (a k h) ∙ sym (value_more p k)

-- how often the value of row c is found in the first rows
pub record CountedBelow (n w : ℕ) (x : Planes) (c i : ℕ) (times : List ℕ) : Type 0 where
  pub long : length times ≡ most_columns
  pub few : (k : ℕ) → k < most_columns → get_or times k 0 ≤ i
  pub rest : (k : ℕ) → k < n →
      get_or times k 0 + found k (value_in w x c k) (drop i (rows_in n w x)) ≡ found k (value_in w x c k) (rows_in n w x)

module _ (n w : ℕ) (x : Planes) (c : ℕ) where
  pub counted_none : (times : List ℕ) → length times ≡ most_columns → ((k : ℕ) → get_or times k 0 ≡ 0) → CountedBelow n w x c 0 times
  counted_none times long z = record { long = long; few = λ k h. omega (arith, z k); rest = λ k h. omega (arith, z k) }

  pub counted_more : (i : ℕ) (marks times now : List ℕ) → i < n → n ≤ most_columns → CountedBelow n w x c i times → MarksSame w x i c marks →
      CountedOn marks times now → CountedBelow n w x c (i + 1) now
  counted_more i marks times now h fits a m b =
      record {
        long = b.long;
        few = λ k l. omega (arith, a.few k l, b.each k l, one (eqb (get_or marks k 0) 0));
        rest = λ k l. (let l32 : k < most_columns = omega arith in
            omega (
              arith,
              a.rest k l,
              b.each k l32,
              ap one_if (m k l32),
              found_on n w x k (value_in w x c k) i l h,
            ));
      }
    where
      one_if : Bool → ℕ
      one_if t = cond t 1 0

      one : (t : Bool) → cond t 1 0 ≤ 1
      one true = omega arith
      one false = omega arith

  pub counted_last : (i : ℕ) (times : List ℕ) → i ≡ n → CountedBelow n w x c i times → FoundInColumns n w x c times
  unfolding found
  counted_last i times e a k h = omega (arith, rw (rows_none n w x i e) at (a.rest k h))
