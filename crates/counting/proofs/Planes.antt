-- Tables as arrays: the values, rows and columns that they hold, entry by entry; and a row put in plane by plane, which changes that row
-- of these planes, and nothing else. Assumes nothing.
use mathlib.Core.Path.{◌≡◌, refl, sym, ◌∙◌, ap}
use mathlib.Core.Bool.{Bool, true, false, cond, ◌&&◌}
use mathlib.Core.List.{List, [], ◌∷◌, map}
use Prim.Native.Nat.{ℕ, ◌+◌, ◌*◌, ◌≤◌, ◌<◌}
use native.Mathlib.Omega.{arith}
use native.Mathlib.Nat.{mul_comm}
use native.Mathlib.Numerals.{add-one}
use lib.Dec.{eqb}
use lib.ListN.{length, get_or, take, drop, set, replicate, length-set, get_or-replicate}
use lib.Seq.{ext_get_or, get_or-take, drop-cons, drop-length, get_or-set_same, get_or-set_other}
use borrow.Author.Count.{below_more}
use borrow.Author.Tests.{eqb-true, eqb-false}
use Rattle.std.specs.List.{list_all}
use Rattle.std.proofs.lemmas.List.{get_or-map, length-map}
use Rattle.std.proofs.lemmas.List.Folds.{list_all-map}
use Rattle.std.proofs.lemmas.List.Recursion.{same_from_clauses}
use Rattle.arrays.specs.Array.{in_front, Written}
use Rattle.arrays.proofs.Written.{written_as}
use Rattle.arrays.proofs.Front.{written_front, front_at}
use Rattle.code.specs.Size.{most_columns, value_room}
use Rattle.code.specs.Vector.{plane, same, cut}
use Rattle.code.proofs.Vectors.Cut.{plane_cut, plane_cut_length}
use Rattle.grading.specs.Value.{Value, Rows, is_blank}
use Rattle.grading.specs.Count.{found, next_best, most_from}
use Rattle.counting.specs.Steps.Table.{Planes, byte_in, value_in, row_in, rows_in, Shaped, row_plane, written_plane, RowPut}
use Rattle.grading.proofs.Value.{entries_length, entries_of, entries_alike}
use Rattle.counting.proofs.Placed.{cut_entries}

-- a value's bytes
module _ (w : ℕ) (x : Planes) (i k : ℕ) where
  pub value_long : length (value_in w x i k) ≡ w
  unfolding value_in
  value_long = entries_length w 0 _

  pub value_byte : (p : ℕ) → p < w → get_or (value_in w x i k) p 0 ≡ byte_in x p i k
  unfolding value_in
  value_byte p h = entries_of w p _ 0 h

-- the value is blank where the byte of each of its planes is 0
abbrev byte_at : (i k : ℕ) → List (List ℕ) → ℕ
byte_at i k plane = get_or (get_or plane i []) k 0

pub blank_planes : (w : ℕ) (x : Planes) (i k : ℕ) → length (take w x) ≡ w → list_all (λ plane. eqb (byte_at i k plane) 0) (take w x) ≡ is_blank (value_in w x i k)
unfolding is_blank byte_in
blank_planes w x i k long =
    sym (list_all-map (λ b. eqb b 0) (byte_at i k) (take w x))
    ∙ ap (list_all (λ b. eqb b 0)) bytes
    ∙ same_from_clauses (list_all (λ b. eqb b 0)) is_blank (λ b rest. eqb b 0 && rest) refl (λ _ _. refl) (λ _ _. refl) (value_in w x i k)
  where
    bytes : map (byte_at i k) (take w x) ≡ value_in w x i k
    bytes =
        ext_get_or 0 _ _ (length-map (take w x) (byte_at i k) ∙ long ∙ sym (value_long w x i k))
        (λ p l. (let h : p < w = rw (length-map (take w x) (byte_at i k), long) at l in
        get_or-map (byte_at i k) (take w x) p [] 0 (rw long h) ∙ ap (byte_at i k) (get_or-take w x p [] h) ∙ sym (value_byte w x i k p h)))

module _ (n w : ℕ) (x : Planes) where
  pub rows_length : length (rows_in n w x) ≡ n
  unfolding rows_in
  rows_length = entries_length n 0 _

  pub row_at : (i : ℕ) → i < n → get_or (rows_in n w x) i [] ≡ row_in n w x i
  unfolding rows_in
  row_at i h = entries_of n i (row_in n w x) [] h

  pub value_at : (i k : ℕ) → i < n → k < n → get_or (get_or (rows_in n w x) i []) k [] ≡ value_in w x i k
  unfolding row_in
  value_at i k h l = ap (λ (row : List (List ℕ)). get_or row k []) (row_at i h) ∙ entries_of n k (value_in w x i) [] l

  -- what is left of the rows, from a row on
  rows_cons : (i : ℕ) → i < n → drop i (rows_in n w x) ≡ get_or (rows_in n w x) i [] ∷ drop (i + 1) (rows_in n w x)
  rows_cons i h = drop-cons (rows_in n w x) i [] (rw rows_length h) ∙ ap (λ (m : ℕ). get_or (rows_in n w x) i [] ∷ drop m (rows_in n w x)) (sym (add-one i))

  pub rows_none : (i : ℕ) → i ≡ n → drop i (rows_in n w x) ≡ []
  rows_none i e = ap (λ (m : ℕ). drop m (rows_in n w x)) (e ∙ sym rows_length) ∙ drop-length (rows_in n w x)

  -- one row more
  pub found_on :
      (k : ℕ) (v : Value) (i : ℕ) → k < n → i < n →
      found k v (drop i (rows_in n w x)) ≡ cond (same (value_in w x i k) v) 1 0 + found k v (drop (i + 1) (rows_in n w x))
  unfolding found
  found_on k v i h l = rw (rows_cons i l, value_at i k l h)

  pub most_on :
      (k : ℕ) (all : Rows) (b : Value) (i : ℕ) → k < n → i < n →
      most_from k all (drop i (rows_in n w x)) b
      ≡ most_from k all (drop (i + 1) (rows_in n w x)) (next_best k all (value_in w x i k) b)
  unfolding most_from
  most_on k all b i h l =
      rw (rows_cons i l)
      (ap (λ (v : Value). most_from k all (drop (i + 1) (rows_in n w x)) (next_best k all v b)) (value_at i k l h))

-- one row of a plane put in
module _ (x : Planes) (p i : ℕ) (row : List ℕ) (p_in : p < length x) (i_in : i < length (get_or x p [])) where
  abbrev put : Planes
  put = set x p (set (get_or x p []) i row)

  row_new : get_or (get_or put p []) i [] ≡ row
  row_new = rw (get_or-set_same x p (set (get_or x p []) i row) [] p_in, get_or-set_same (get_or x p []) i row [] i_in)

  plane_kept : (q : ℕ) → (q ≡ p → ⊥) → get_or put q [] ≡ get_or x q []
  plane_kept q d = get_or-set_other x p q (set (get_or x p []) i row) [] d

  row_kept : (q j : ℕ) → (j ≡ i → ⊥) → get_or (get_or put q []) j [] ≡ get_or (get_or x q []) j []
  row_kept q j d = go (eqb q p) refl
    where
      here : get_or (get_or put p []) j [] ≡ get_or (get_or x p []) j []
      here = rw (get_or-set_same x p (set (get_or x p []) i row) [] p_in, get_or-set_other (get_or x p []) i j row [] d)

      go : (b : Bool) → eqb q p ≡ b → get_or (get_or put q []) j [] ≡ get_or (get_or x q []) j []
      go true e = rw (eqb-true q p e) here
      go false e = ap (λ (plane : List (List ℕ)). get_or plane j []) (plane_kept q (eqb-false q p e))

  shape_put : length row ≡ most_columns → Shaped x → Shaped put
  shape_put long s =
      record { planes = length-set x p _ ∙ s.planes; rows = λ q h. rows q h (eqb q p) refl; bytes = λ q j h l. bytes q j h l (eqb q p) refl (eqb j i) refl }
    where
      rows : (q : ℕ) → q < value_room → (b : Bool) → eqb q p ≡ b → length (get_or put q []) ≡ most_columns
      rows q h true e =
          let here = eqb-true q p e in
          rw (here, get_or-set_same x p (set (get_or x p []) i row) [] p_in, length-set (get_or x p []) i row) (s.rows p (rw (← here) h))
      rows q h false e = rw (plane_kept q (eqb-false q p e)) (s.rows q h)

      bytes : (q j : ℕ) → q < value_room → j < most_columns → (b : Bool) → eqb q p ≡ b → (d : Bool) → eqb j i ≡ d →
          length (get_or (get_or put q []) j []) ≡ most_columns
      bytes q j h l b e false f = rw (row_kept q j (eqb-false j i f)) (s.bytes q j h l)
      bytes q j h l true e true f = rw (eqb-true q p e, eqb-true j i f, row_new) long
      bytes q j h l false e true f = rw (plane_kept q (eqb-false q p e)) (s.bytes q j h l)

-- a byte of each value, gathered into a row
pub plane_gathered :
    (n w p : ℕ) (row old now : List ℕ) → n ≤ length old → p < w → Written 0 n (λ k. get_or row (w * k + p) 0) old now →
    now ≡ in_front (plane p (cut n w row)) old
plane_gathered n w p row old now h l g =
    written_front n (plane p (cut n w row)) old now (plane_cut_length p n w row) h
    (written_as (λ k m. ap (λ (i : ℕ). get_or row (i + p) 0) (mul_comm w k) ∙ sym (plane_cut n w p row k m l)) g)

-- a row put in, plane by plane
module _ (i : ℕ) (f : ℕ → List ℕ) (x : Planes) where
  pub row_put_more :
      (p : ℕ) (bytes : List ℕ) (now : Planes) → RowPut p i f x now → p < value_room → i < most_columns → length bytes ≡ most_columns → bytes ≡ f p →
      RowPut (p + 1) i f x (set now p (set (get_or now p []) i bytes))
  unfolding row_plane
  row_put_more p bytes now a h l long e =
      record {
        shape = shape_put now p i bytes p_in i_in long a.shape;
        new = below_more (λ q. get_or (get_or z q []) i [] ≡ f q) p passed (row_new now p i bytes p_in i_in ∙ e);
        planes_kept = λ q g. plane_kept now p i bytes p_in i_in q (omega arith) ∙ a.planes_kept q (omega arith);
        rows_kept = λ q j d. row_kept now p i bytes p_in i_in q j d ∙ a.rows_kept q j d;
      }
    where
      z : Planes
      z = set now p (set (get_or now p []) i bytes)

      p_in : p < length now
      p_in = rw a.shape.planes h

      i_in : i < length (get_or now p [])
      i_in = rw (a.shape.rows p h) l

      passed : (q : ℕ) → q < p → get_or (get_or z q []) i [] ≡ f q
      passed q d = ap (λ (rows : List (List ℕ)). get_or rows i []) (plane_kept now p i bytes p_in i_in q (omega arith)) ∙ a.new q d

module _ (n w i : ℕ) (x now : Planes) where
  -- it has the values of the row that was written
  pub row_written : (row : List ℕ) → RowPut w i (written_plane n w row x i) x now → n * w ≤ length row → row_in n w now i ≡ cut n w row
  unfolding row_in value_in byte_in row_plane written_plane
  row_written row a fits =
      entries_alike n 0 _ _ (λ k l. entries_alike w 0 _ _ (λ p m. byte p k (omega arith) (omega arith))) ∙ sym (cut_entries n w row fits)
    where
      byte : (p k : ℕ) → p < w → k < n → get_or (get_or (get_or now p []) i []) k 0 ≡ get_or row (k * w + p) 0
      byte p k h l =
          ap (λ (bs : List ℕ). get_or bs k 0) (a.new p h) ∙ front_at n (plane p (cut n w row)) _ k (plane_cut_length p n w row) l ∙ plane_cut n w p row k l h

  -- or those of the row that was copied
  pub row_copied : (j : ℕ) → RowPut w i (row_plane x j) x now → row_in n w now i ≡ row_in n w x j
  unfolding row_in value_in byte_in row_plane
  row_copied j a =
      entries_alike n 0 _ _ (λ k l. entries_alike w 0 _ _ (λ p m. ap (λ (bs : List ℕ). get_or bs k 0) (a.new p (omega arith))))

  pub row_put_others : (f : ℕ → List ℕ) → RowPut w i f x now → (j : ℕ) → (j ≡ i → ⊥) → row_in n w now j ≡ row_in n w x j
  unfolding row_in value_in byte_in row_plane
  row_put_others f a j d = entries_alike n 0 _ _ (λ k l. entries_alike w 0 _ _ (λ p m. ap (λ (bs : List ℕ). get_or bs k 0) (a.rows_kept p j d)))

-- a table as it is made
abbrev pub zero_row : List ℕ
zero_row = replicate most_columns 0

abbrev pub zero_plane : List (List ℕ)
zero_plane = replicate most_columns zero_row

pub shape_zeros : Shaped (replicate value_room zero_plane)
shape_zeros =
    record {
      planes = refl;
      rows = λ p h. ap length (plane_of p h);
      bytes = λ p i h l. ap (λ (rows : List (List ℕ)). length (get_or rows i [])) (plane_of p h) ∙ ap length (row_of i l);
    }
  where
    plane_of : (p : ℕ) → p < value_room → get_or (replicate value_room zero_plane) p [] ≡ zero_plane
    plane_of p h = get_or-replicate {A = List (List ℕ)} value_room p zero_plane [] h

    row_of : (i : ℕ) → i < most_columns → get_or zero_plane i [] ≡ zero_row
    row_of i h = get_or-replicate {A = List ℕ} most_columns i zero_row [] h
