-- Products bit by bit. A product is by definition the sum of the doublings of its first factor at the bits of the second, so what
-- is added so far and what the bits left would add is the product throughout. Assumes nothing.
use mathlib.Core.Path.{◌≡◌, refl, sym, ◌∙◌, ap, ap₂, subst}
use mathlib.Core.Bool.{cond}
use mathlib.Core.List.{List}
use Prim.Native.Nat.{ℕ, suc, ◌+◌, ◌-◌, ◌/◌, ◌%◌, ◌≤◌, ◌<◌}
use native.Mathlib.Omega.{arith}
use native.Mathlib.Decide.{dec_lt}
use lib.Dec.{eqb}
use lib.ListN.{length, get_or}
use borrow.Author.Tests.{ne_eqb}
use Rattle.arrays.specs.Array.{Written}
use Rattle.field.specs.Field.{plus, doubled, times, times_from}
use Rattle.field.proofs.Xor.{plus_assoc, plus_lt, plus_zero}
use Rattle.field.proofs.Logarithm.{times_one}
use Rattle.lanes.specs.Lanes.{row_width, in_row, Multiples, Doublings}

times_from_none : (a b : ℕ) → times_from 0 a b ≡ 0
unfolding times_from
times_from_none a b = refl

times_from_more : (k a b : ℕ) → times_from (suc k) a b ≡ plus (cond (eqb (b % 2) 1) a 0) (times_from k (doubled a) (b / 2))
unfolding times_from
times_from_more k a b = refl

-- row after row
pub doublings_one : (f : ℕ → ℕ) (rows : List ℕ) → ((p : ℕ) → f p < 256) → Multiples 2 f rows → Doublings 1 f rows
doublings_one f rows byte m =
    record {
      long = m.long;
      first = λ p h.
          m.row 1 p (omega arith) h ∙ times_one (f p) (byte p);
      next = λ k p o h l. absurd (omega arith);
    }

-- a row that is not added
pub added_not :
    (at bit : ℕ) (g : ℕ → ℕ) (rows : List ℕ) → bit ≡ 0 → ((i : ℕ) → get_or rows i 0 < 256) →
    Written at row_width (λ p. plus (get_or rows (at + p) 0) (cond (eqb bit 1) (g p) 0)) rows rows
added_not at bit g rows e byte =
    record {
      long = refl;
      new = λ p h. sym (ap (plus (get_or rows (at + p) 0)) (unset (g p)) ∙ plus_zero _ (byte _));
      before = λ i h. refl;
      after = λ i h. refl;
    }
  where
    unset : (x : ℕ) → cond (eqb bit 1) x 0 ≡ 0
    unset x = rw (ne_eqb bit 1 (λ q. omega arith))

-- bit after bit: the row with the k-th doubling and those after it still to add at the bits left
pub record BitsLeft (k left at : ℕ) (doublings rows rows_now : List ℕ) (goal : ℕ → ℕ) : Type 0 where
  pub long : length rows_now ≡ length rows
  pub bytes : (p : ℕ) → p < row_width → get_or rows_now (at + p) 0 < 256
  pub sums : (p : ℕ) → p < row_width → plus (get_or rows_now (at + p) 0) (times_from (9 - k) (get_or doublings (in_row k p) 0) left) ≡ goal p
  pub before : (i : ℕ) → i < at → get_or rows_now i 0 ≡ get_or rows i 0
  pub after : (i : ℕ) → at + row_width ≤ i → get_or rows_now i 0 ≡ get_or rows i 0

abbrev pub with_product : (at c : ℕ) → (f : ℕ → ℕ) → (rows : List ℕ) → ℕ → ℕ
with_product at c f rows p = plus (get_or rows (at + p) 0) (times (f p) c)

module _ (at c : ℕ) (f : ℕ → ℕ) (doublings rows : List ℕ) (d : Doublings 8 f doublings) where
  pub bits_none : ((i : ℕ) → get_or rows i 0 < 256) → BitsLeft 1 c at doublings rows rows (with_product at c f rows)
  unfolding times
  bits_none byte =
      record {
        long = refl;
        bytes = λ p h. byte (at + p);
        sums = λ p h.
            ap (λ (a : ℕ). plus (get_or rows (at + p) 0) (times_from 8 a c))
            (d.first p h);
        before = λ i h. refl;
        after = λ i h. refl;
      }

  pub bits_more :
      (k left : ℕ) (so_far now : List ℕ) → 1 ≤ k → k < 9 → BitsLeft k left at doublings rows so_far (with_product at c f rows) →
      Written at row_width (λ p. plus (get_or so_far (at + p) 0) (cond (eqb (left % 2) 1) (get_or doublings (in_row k p) 0) 0)) so_far now →
      BitsLeft (k + 1) (left / 2) at doublings rows now (with_product at c f rows)
  bits_more k left so_far now o h b w =
      record {
        long = w.long ∙ b.long;
        bytes = λ p l. subst (λ (a : ℕ). a < 256) (sym (w.new p l)) (plus_lt _ _);
        sums = λ p l.
            ap (λ (a : ℕ). plus a (times_from (9 - (k + 1)) (get_or doublings (in_row (k + 1) p) 0) (left / 2))) (w.new p l) ∙ plus_assoc _ _ _
            ∙ ap (plus (get_or so_far (at + p) 0)) (bit p l) ∙ b.sums p l;
        before = λ i l. w.before i l ∙ b.before i l;
        after = λ i l. w.after i l ∙ b.after i l;
      }
    where
      doubling : (p : ℕ) → p < row_width → (j : ℕ) → Dec (k < 8) → times_from (9 - (k + 1)) (get_or doublings (in_row (k + 1) p) 0) j ≡ times_from (8 - k) (doubled (get_or doublings (in_row k p) 0)) j
      doubling p l j (yes a) =
          ap₂ (λ (n x : ℕ). times_from n x j) (let q : 9 - (k + 1) ≡ 8 - k = omega arith in q) (d.next k p o a l)
      doubling p l j (no a) =
          ap (λ (n : ℕ). times_from n (get_or doublings (in_row (k + 1) p) 0) j) (let q : 9 - (k + 1) ≡ 0 = omega arith in q)
          ∙ times_from_none _ j ∙ sym (times_from_none (doubled (get_or doublings (in_row k p) 0)) j)
          ∙ ap (λ (n : ℕ). times_from n (doubled (get_or doublings (in_row k p) 0)) j) (let q : 0 ≡ 8 - k = omega arith in q)

      bit :
          (p : ℕ) → p < row_width →
          plus (cond (eqb (left % 2) 1) (get_or doublings (in_row k p) 0) 0) (times_from (9 - (k + 1)) (get_or doublings (in_row (k + 1) p) 0) (left / 2))
          ≡ times_from (9 - k) (get_or doublings (in_row k p) 0) left
      bit p l =
          ap (plus (cond (eqb (left % 2) 1) (get_or doublings (in_row k p) 0) 0)) (doubling p l (left / 2) (dec_lt k 8))
          ∙ sym (times_from_more (8 - k) (get_or doublings (in_row k p) 0) left)
          ∙ ap (λ (n : ℕ). times_from n (get_or doublings (in_row k p) 0) left) (let q : suc (8 - k) ≡ 9 - k = omega arith in q)

  pub bits_whole :
      (k left : ℕ) (now : List ℕ) → k ≡ 9 → BitsLeft k left at doublings rows now (with_product at c f rows) →
      Written at row_width (with_product at c f rows) rows now
  bits_whole k left now e b =
      record {
        long = b.long;
        new = λ p l.
            sym (plus_zero (get_or now (at + p) 0) (b.bytes p l))
            ∙ ap (plus (get_or now (at + p) 0))
            (sym
            (ap (λ (n : ℕ). times_from n (get_or doublings (in_row k p) 0) left) (let q : 9 - k ≡ 0 = omega arith in q)
            ∙ times_from_none (get_or doublings (in_row k p) 0) left))
            ∙ b.sums p l;
        before = b.before;
        after = b.after;
      }
