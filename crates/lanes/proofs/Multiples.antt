-- Products in all planes by rows of multiples. Row 2w is twice row w, and row 2w + k, for w a power of two and k below 2w, the sum
-- of rows 2w and k, so sixteen rows follow from the value. A constant is its low four bits and sixteen times its high ones, so its
-- product is a row of the value's multiples and a row of the multiples of sixteen times the value. Small tests are computed.
-- Assumes nothing.
use mathlib.Core.Path.{◌≡◌, sym, ◌∙◌, ap, ap₂}
use mathlib.Core.Bool.{true}
use mathlib.Core.List.{List}
use mathlib.Core.Logic.{◌⊎◌, inl, inr}
use Prim.Native.Nat.{ℕ, zero, suc, ◌+◌, ◌*◌, ◌/◌, ◌%◌, ◌≤◌, ◌<◌}
use native.Mathlib.Omega.{arith}
use native.Mathlib.Decide.{dec_lt}
use lib.Dec.{eqb, eqb→eq}
use lib.ListN.{length, get_or}
use borrow.Author.Tests.{le-ltb}
use Rattle.arrays.specs.Array.{all_zero, Written}
use Rattle.arrays.proofs.Zeros.{zero_at}
use Rattle.field.specs.Field.{plus, xor_from, doubled, times, times_from}
use Rattle.field.proofs.Test.{below}
use Rattle.field.proofs.Xor.{plus_assoc, plus_lt}
use Rattle.field.proofs.Times.{doubled_lt, times_plus, times_zero, times_doubled}
use Rattle.field.proofs.Logarithm.{times_comm, times_assoc, times_one}
use Rattle.lanes.specs.Lanes.{row_width, multiple_rows, in_row, Multiples, ProductsAdded}

pub doubled_byte : (a : ℕ) → doubled a < 256
unfolding doubled
doubled_byte a = go (dec_lt a 128)
  where
    go : Dec (a < 128) → doubled a < 256
    go (yes h) = doubled_lt a (omega arith)
    go (no h) = rw (le-ltb a 128 (omega arith)) (plus_lt _ _)

-- small numbers as factors
doubled_small : (k : ℕ) → k < 128 → doubled k ≡ 2 * k
unfolding doubled
doubled_small k h = eqb→eq _ _ (below (λ m. eqb (doubled m) (2 * m)) 128 tt k h)

sixteen_times : (k : ℕ) → k < 16 → times 16 k ≡ 16 * k
unfolding times times_from doubled plus xor_from
sixteen_times k h = eqb→eq _ _ (below (λ m. eqb (times 16 m) (16 * m)) 16 tt k h)

plus_halves : (c : ℕ) → c < 256 → plus (c % 16) (16 * (c / 16)) ≡ c
unfolding plus xor_from
plus_halves c h = eqb→eq _ _ (below (λ m. eqb (plus (m % 16) (16 * (m / 16))) m) 256 tt c h)

times_twice : (a k : ℕ) → a < 256 → k < 128 → times a (2 * k) ≡ doubled (times a k)
times_twice a k h l =
    ap (times a) (sym (doubled_small k l)) ∙ times_comm a (doubled k) h (rw (doubled_small k l) (omega arith)) ∙ times_doubled k a (omega arith)
    ∙ ap doubled (times_comm k a (omega arith) h)

pub times_halves : (a c : ℕ) → a < 256 → c < 256 → plus (times a (c % 16)) (times (doubled (times a 8)) (c / 16)) ≡ times a c
times_halves a c h l =
    ap (plus (times a (c % 16)))
    (ap (λ (x : ℕ). times x (c / 16)) (sym (times_twice a 8 h (omega arith))) ∙ times_assoc a 16 (c / 16) h (omega arith)
    ∙ ap (times a) (sixteen_times (c / 16) (omega arith)))
    ∙ sym (times_plus a (c % 16) (16 * (c / 16)) h) ∙ ap (times a) (plus_halves c l)

-- row 0, which is zeros, and row 1
pub multiples_first :
    (f : ℕ → ℕ) (zeros rows : List ℕ) → length zeros ≡ multiple_rows → all_zero zeros ≡ true → ((p : ℕ) → p < row_width → f p < 256) →
    Written row_width row_width f zeros rows → Multiples 2 f rows
multiples_first f zeros rows e z byte w = record { long = w.long ∙ e; row = row }
  where
    row : (k p : ℕ) → k < 2 → p < row_width → get_or rows (in_row k p) 0 ≡ times (f p) k
    row zero p h l =
        ap (λ (i : ℕ). get_or rows i 0) (let q : in_row 0 p ≡ p = omega arith in q) ∙ w.before p l ∙ zero_at zeros z p ∙ sym (times_zero (f p) (byte p l))
    row (suc zero) p h l = w.new p l ∙ sym (times_one (f p) (byte p l))
    row (suc (suc k)) p h l = absurd (omega arith)

-- one more row
multiples_next :
    (many : ℕ) (f g : ℕ → ℕ) (rows now : List ℕ) → Multiples many f rows → Written (row_width * many) row_width g rows now →
    ((p : ℕ) → p < row_width → g p ≡ times (f p) many) → Multiples (many + 1) f now
multiples_next many f g rows now m w new = record { long = w.long ∙ m.long; row = λ k p h l. row k p h l (dec_lt k many) }
  where
    row : (k p : ℕ) → k < many + 1 → p < row_width → Dec (k < many) → get_or now (in_row k p) 0 ≡ times (f p) k
    row k p h l (yes a) = w.before _ (omega arith) ∙ m.row k p a l
    row k p h l (no a) =
        let q : k ≡ many = omega arith in
        rw q (w.new p l ∙ new p l)

pub multiples_double :
    (w : ℕ) (f : ℕ → ℕ) (rows now : List ℕ) → 1 ≤ w → w ≤ 4 → ((p : ℕ) → f p < 256) → Multiples (2 * w) f rows →
    Written (row_width * (2 * w)) row_width (λ p. doubled (get_or rows (in_row w p) 0)) rows now → Multiples (2 * w + 1) f now
multiples_double w f rows now h l byte m v =
    multiples_next (2 * w) f _ rows now m v
    (λ p k. ap doubled (m.row w p (omega arith) k) ∙ sym (times_twice (f p) w (byte p) (omega arith)))

pub multiples_join :
    (w k : ℕ) (f : ℕ → ℕ) (rows now : List ℕ) → k < w → plus w k ≡ w + k → ((p : ℕ) → f p < 256) → Multiples (w + k) f rows → 1 ≤ k →
    Written (row_width * (w + k)) row_width (λ p. plus (get_or rows (in_row w p) 0) (get_or rows (in_row k p) 0)) rows now → Multiples (w + k + 1) f now
multiples_join w k f rows now h e byte m o v =
    multiples_next (w + k) f _ rows now m v
    (λ p l. ap₂ plus (m.row w p (omega arith) l) (m.row k p (omega arith) l) ∙ sym (times_plus (f p) w k (byte p)) ∙ ap (times (f p)) e)

-- a sum of a power of two and less is their exclusive or
pub plus_below : (w k : ℕ) → (w ≡ 1) ⊎ ((w ≡ 2) ⊎ (w ≡ 4)) → k < 2 * w → plus (2 * w) k ≡ 2 * w + k
unfolding plus xor_from
plus_below w k (inl e) h = rw e (eqb→eq _ _ (below (λ m. eqb (plus 2 m) (2 + m)) 2 tt k (omega arith)))
plus_below w k (inr (inl e)) h = rw e (eqb→eq _ _ (below (λ m. eqb (plus 4 m) (4 + m)) 4 tt k (omega arith)))
plus_below w k (inr (inr e)) h = rw e (eqb→eq _ _ (below (λ m. eqb (plus 8 m) (8 + m)) 8 tt k (omega arith)))

-- one more row of products
pub products_next :
    (j : ℕ) (value constants rows so_far now : List ℕ) (g : ℕ → ℕ) → ProductsAdded j value constants rows so_far → Written (row_width * j) row_width g so_far now →
    ((p : ℕ) → p < row_width → g p ≡ plus (get_or so_far (in_row j p) 0) (times (get_or value p 0) (get_or constants j 0))) →
    ProductsAdded (j + 1) value constants rows now
products_next j value constants rows so_far now g a w new =
    record { long = w.long ∙ a.long; sums = λ i p h k. sums i p h k (dec_lt i j); rest = λ i h. w.after i (omega arith) ∙ a.rest i (omega arith) }
  where
    sums :
        (i p : ℕ) → i < j + 1 → p < row_width → Dec (i < j) →
        get_or now (in_row i p) 0 ≡ plus (get_or rows (in_row i p) 0) (times (get_or value p 0) (get_or constants i 0))
    sums i p h k (yes d) = w.before _ (omega arith) ∙ a.sums i p d k
    sums i p h k (no d) =
        let e : i ≡ j = omega arith in
        rw e (w.new p k ∙ new p k ∙ ap (λ (b : ℕ). plus b (times (get_or value p 0) (get_or constants j 0))) (a.rest (in_row j p) (omega arith)))

-- by a low and a high multiple
pub products_more :
    (j : ℕ) (value constants low high rows so_far middle now : List ℕ) → ((p : ℕ) → get_or value p 0 < 256) → get_or constants j 0 < 256 →
    Multiples 16 (λ p. get_or value p 0) low → Multiples 16 (λ p. doubled (get_or low (in_row 8 p) 0)) high →
    ProductsAdded j value constants rows so_far →
    Written (row_width * j) row_width (λ p. plus (get_or so_far (in_row j p) 0) (get_or low (in_row (get_or constants j 0 % 16) p) 0)) so_far middle →
    Written (row_width * j) row_width (λ p. plus (get_or middle (in_row j p) 0) (get_or high (in_row (get_or constants j 0 / 16) p) 0)) middle now →
    ProductsAdded (j + 1) value constants rows now
products_more j value constants low high rows so_far middle now byte fits l h a w v =
    products_next j value constants rows so_far now (λ p. plus (plus (get_or so_far (in_row j p) 0) (get_or low (in_row (c % 16) p) 0)) (get_or high (in_row (c / 16) p) 0)) a
    (record {
      long = v.long ∙ w.long;
      new = λ p k. v.new p k ∙ ap (λ (b : ℕ). plus b (get_or high (in_row (c / 16) p) 0)) (w.new p k);
      before = λ i k. v.before i k ∙ w.before i k;
      after = λ i k. v.after i k ∙ w.after i k;
    })
    (λ p k. plus_assoc _ _ _ ∙ ap (plus (get_or so_far (in_row j p) 0)) (product p k))
  where
    c : ℕ
    c = get_or constants j 0

    product : (p : ℕ) → p < row_width → plus (get_or low (in_row (c % 16) p) 0) (get_or high (in_row (c / 16) p) 0) ≡ times (get_or value p 0) c
    product p g =
        ap₂ plus (l.row (c % 16) p (omega arith) g)
        (h.row (c / 16) p (omega arith) g
        ∙ ap (λ (x : ℕ). times (doubled x) (c / 16)) (l.row 8 p (omega arith) g))
        ∙ times_halves (get_or value p 0) c (byte p) fits
