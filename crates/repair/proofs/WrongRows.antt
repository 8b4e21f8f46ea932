-- The places that have an error are those that a repair changes. A byte with its error added is another byte just where the error is not
-- 0, so that a value differs from the repaired one just where its row of errors is not all 0, and the rows counted are the values that
-- differ. Assumes nothing.
use mathlib.Core.Path.{◌≡◌, refl, sym, ◌∙◌, ap, ap₂}
use mathlib.Core.Bool.{Bool, true, cond, ◌&&◌}
use mathlib.Core.List.{List, [], ◌∷◌}
use mathlib.Mathlib.Data.Bool.Basic.{and_intro}
use Prim.Native.Nat.{ℕ, zero, suc, ◌+◌, ◌*◌, ◌-◌, ◌<◌, ◌≤◌}
use native.Mathlib.Omega.{arith}
use lib.Dec.{eqb}
use lib.ListN.{length, get_or, take, drop, length-drop}
use lib.Seq.{drop-drop, get_or-drop}
use borrow.Author.Tests.{eq-eqb}
use Rattle.arrays.specs.Array.{all_zero}
use Rattle.lanes.specs.Lanes.{row_width, in_row}
use Rattle.code.specs.Vector.{plane, same, differ_values}
use Rattle.code.proofs.Vectors.Planes.{Values}
use Rattle.repair.specs.Steps.Changed.{wrong_rows}

-- one row more
pub wrong_rows_plus : (m k : ℕ) (ys : List ℕ) → wrong_rows (m + k) ys ≡ wrong_rows m ys + wrong_rows k (drop (row_width * m) ys)
unfolding wrong_rows
wrong_rows_plus zero k ys = ap (λ (i : ℕ). wrong_rows i ys) (let e : zero + k ≡ k = omega arith in e) ∙ (let e : wrong_rows k ys ≡ 0 + wrong_rows k ys = omega arith in e)
wrong_rows_plus (suc m) k ys =
    ap (λ (i : ℕ). wrong_rows i ys) (let e : suc m + k ≡ suc (m + k) = omega arith in e)
    ∙ ap (λ (i : ℕ). cond (all_zero (take row_width ys)) 0 1 + i)
    (wrong_rows_plus m k (drop row_width ys)
    ∙ ap (λ (zs : List ℕ). wrong_rows m (drop row_width ys) + wrong_rows k zs)
    (drop-drop (row_width * m) row_width ys ∙ ap (λ (i : ℕ). drop i ys) (let e : row_width + row_width * m ≡ row_width * suc m = omega arith in e)))
    ∙ (let e : cond (all_zero (take row_width ys)) 0 1 + (wrong_rows m (drop row_width ys) + wrong_rows k (drop (row_width * suc m) ys))
    ≡ cond (all_zero (take row_width ys)) 0 1 + wrong_rows m (drop row_width ys) + wrong_rows k (drop (row_width * suc m) ys) = omega arith in e)

pub wrong_row_more :
    (k end : ℕ) (ys : List ℕ) (empty : Bool) → end ≡ row_width * k + row_width → all_zero (take (end - row_width * k) (drop (row_width * k) ys)) ≡ empty →
    wrong_rows (k + 1) ys ≡ wrong_rows k ys + cond empty 0 1
unfolding wrong_rows
wrong_row_more k end ys empty e z =
    wrong_rows_plus k 1 ys
    ∙ ap (λ (q : Bool). wrong_rows k ys + (cond q 0 1 + 0))
    (ap (λ (i : ℕ). all_zero (take i (drop (row_width * k) ys))) (let w : row_width ≡ end - row_width * k = omega arith in w) ∙ z)
    ∙ (let f : wrong_rows k ys + (cond empty 0 1 + 0) ≡ wrong_rows k ys + cond empty 0 1 = omega arith in f)

-- rows behind those that have an error
zeros_all : (many : ℕ) (ys : List ℕ) → ((p : ℕ) → p < many → get_or ys p 0 ≡ 0) → all_zero (take many ys) ≡ true
zeros_all zero ys z = refl
zeros_all (suc k) [] z = refl
zeros_all (suc k) (y ∷ ys) z = and_intro (eq-eqb y 0 (z 0 (omega arith))) (zeros_all k ys (λ p h. z (suc p) (omega arith)))

wrong_rows_zeros : (m : ℕ) (ys : List ℕ) → ((j p : ℕ) → p < row_width → get_or ys (in_row j p) 0 ≡ 0) → wrong_rows m ys ≡ 0
unfolding wrong_rows
wrong_rows_zeros zero ys z = refl
wrong_rows_zeros (suc m) ys z =
    ap₂ (λ (q : Bool) (i : ℕ). cond q 0 1 + i)
    (zeros_all row_width ys (λ p h. ap (λ (i : ℕ). get_or ys i 0) (let e : p ≡ in_row 0 p = omega arith in e) ∙ z 0 p h))
    (wrong_rows_zeros m (drop row_width ys)
    (λ j p h. get_or-drop row_width ys (in_row j p) 0 ∙ ap (λ (i : ℕ). get_or ys i 0) (let e : row_width + in_row j p ≡ in_row (suc j) p = omega arith in e) ∙ z (suc j) p h))

pub wrong_rows_ended :
    (turns places : ℕ) (ys : List ℕ) → turns ≤ places → ((j p : ℕ) → turns ≤ j → p < row_width → get_or ys (in_row j p) 0 ≡ 0) →
    wrong_rows turns ys ≡ wrong_rows places ys
wrong_rows_ended turns places ys h z =
    sym
    (ap (λ (i : ℕ). wrong_rows i ys) (let e : places ≡ turns + (places - turns) = omega arith in e) ∙ wrong_rows_plus turns (places - turns) ys
    ∙ ap (◌+◌ (wrong_rows turns ys))
    (wrong_rows_zeros (places - turns) (drop (row_width * turns) ys)
    (λ j p l.
    get_or-drop (row_width * turns) ys (in_row j p) 0 ∙ ap (λ (i : ℕ). get_or ys i 0) (let e : row_width * turns + in_row j p ≡ in_row (turns + j) p = omega arith in e)
    ∙ z (turns + j) p (omega arith) l))
    ∙ (let e : wrong_rows turns ys + 0 ≡ wrong_rows turns ys = omega arith in e))

-- a value is changed where its row has an error
row_changed :
    (width : ℕ) (v u ys : List ℕ) → length v ≡ length u → length v ≤ width → width ≤ length ys →
    ((p : ℕ) → p < length v → eqb (get_or v p 0) (get_or u p 0) ≡ eqb (get_or ys p 0) 0) → ((p : ℕ) → length v ≤ p → p < width → get_or ys p 0 ≡ 0) →
    same v u ≡ all_zero (take width ys)
unfolding same
row_changed width [] [] ys e l m c z = sym (zeros_all width ys (λ p h. z p (omega arith) h))
row_changed width [] (x ∷ u) ys e l m c z = absurd (omega arith)
row_changed width (x ∷ v) [] ys e l m c z = absurd (omega arith)
row_changed zero (x ∷ v) (y ∷ u) ys e l m c z = absurd (omega arith)
row_changed (suc width) (x ∷ v) (y ∷ u) [] e l m c z = absurd (omega arith)
row_changed (suc width) (x ∷ v) (y ∷ u) (b ∷ ys) e l m c z =
    ap₂ ◌&&◌ (c 0 (omega arith))
    (row_changed width v u ys (omega arith) (omega arith) (omega arith) (λ p h. c (suc p) (omega arith)) (λ p h k. z (suc p) (omega arith) (omega arith)))

pub rows_changed :
    (k w : ℕ) (vs us : List (List ℕ)) (ys : List ℕ) → length vs ≡ k → length us ≡ k → Values w vs → Values w us → w ≤ row_width → row_width * k ≤ length ys →
    ((j p : ℕ) → j < k → p < w → eqb (get_or (plane p vs) j 0) (get_or (plane p us) j 0) ≡ eqb (get_or ys (in_row j p) 0) 0) →
    ((j p : ℕ) → j < k → w ≤ p → p < row_width → get_or ys (in_row j p) 0 ≡ 0) → differ_values vs us ≡ wrong_rows k ys
unfolding differ_values wrong_rows plane
rows_changed zero w [] us ys e f a b l m c z = refl
rows_changed zero w (v ∷ vs) us ys e f a b l m c z = absurd (omega arith)
rows_changed (suc k) w [] us ys e f a b l m c z = absurd (omega arith)
rows_changed (suc k) w (v ∷ vs) [] ys e f a b l m c z = absurd (omega arith)
rows_changed (suc k) w (v ∷ vs) (u ∷ us) ys e f a b l m c z =
    ap₂ (λ (q : Bool) (i : ℕ). cond q 0 1 + i)
    (row_changed row_width v u ys (a.0 ∙ sym b.0) (omega (arith, a.0)) (omega arith)
    (λ p h. c 0 p (omega arith) (omega (arith, a.0)) ∙ ap (λ (i : ℕ). eqb (get_or ys i 0) 0) (first p))
    (λ p h g. ap (λ (i : ℕ). get_or ys i 0) (sym (first p)) ∙ z 0 p (omega arith) (omega (arith, a.0)) g))
    (rows_changed k w vs us (drop row_width ys) (omega arith) (omega arith) a.2 b.2 l (omega (arith, length-drop row_width ys))
    (λ j p h g. c (suc j) p (omega arith) g ∙ ap (λ (i : ℕ). eqb i 0) (sym (behind j p)))
    (λ j p h g q. behind j p ∙ z (suc j) p (omega arith) g q))
  where
    first : (p : ℕ) → in_row 0 p ≡ p
    first p = omega arith

    behind : (j p : ℕ) → get_or (drop row_width ys) (in_row j p) 0 ≡ get_or ys (in_row (suc j) p) 0
    behind j p = get_or-drop row_width ys (in_row j p) 0 ∙ ap (λ (i : ℕ). get_or ys i 0) (let e : row_width + in_row j p ≡ in_row (suc j) p = omega arith in e)
