-- The errors of the columns added to a vector, value by value: one more column is one more value behind those before it, in the
-- values that bytes are cut into, in their sum with the errors, and in the bytes that they are glued to. So what a loop over the
-- columns writes is the vector and its errors, glued, in front of the output; and in each plane the errors of the columns are the
-- bytes of its weighted errors. Assumes nothing.
use mathlib.Core.Path.{◌≡◌, refl, sym, ◌∙◌, ap, ap₂}
use mathlib.Core.List.{List, [], ◌∷◌, ◌++◌, append_assoc, append-nil}
use Prim.Native.Nat.{ℕ, zero, suc, ◌+◌, ◌*◌, ◌-◌, ◌<◌, ◌≤◌}
use native.Mathlib.Omega.{arith}
use native.Mathlib.Nat.{suc-mul}
use native.Mathlib.Numerals.{add-one}
use lib.ListN.{length, get_or, take, drop, length-append, length-drop}
use lib.Seq.{length-take-le, get_or-take, take_at, drop_at, drop-drop, ext_get_or, get_or-drop}
use Rattle.arrays.specs.Array.{in_front, Filled, Written}
use Rattle.field.specs.Field.{plus, times, power, inverse}
use Rattle.field.proofs.Xor.{plus_zero}
use Rattle.field.proofs.Times.{times_zero}
use Rattle.field.proofs.Power.{power_lt}
use Rattle.lanes.specs.Lanes.{row_width, in_row, lane}
use Rattle.code.specs.Polynomial.{first_exponent, added, scaled}
use Rattle.code.specs.Vector.{cut, glued, plane, is_vector}
use Rattle.arrays.proofs.Bytes.{Bytes, bytes_take, bytes_drop}
use Rattle.code.proofs.Polynomials.Arithmetic.{get_or_added, get_or_scaled, length_added, length_scaled, bytes_scaled}
use Rattle.code.proofs.Vectors.Cut.{next_value, cut_length}
use Rattle.repair.specs.Difference.{plus_values}
use Rattle.repair.specs.Steps.Columns.{column_errors}
use Rattle.arrays.proofs.Part.{part_long}
use Rattle.sums.proofs.AtPlace.Powers.{weight_inverse}
use mathlib.Core.Bool.{true}
use Rattle.field.proofs.Logarithm.{times_comm}
use Rattle.field.proofs.Division.{inverse_lt}
use Rattle.code.specs.Settings.{Settings, check_count, value_size}
use Rattle.code.proofs.Vectors.Planes.{Values, vector_back, plane_length}
use Rattle.locator.specs.Errors.{error_byte}
use Rattle.lanes.proofs.Lane.{lane_at}
use Rattle.locator.proofs.Errors.Places.{place_exponent_column}
use Rattle.locator.proofs.Decoder.{ErrorBytes}

-- one more value
cut_more : (k w : ℕ) (bs : List ℕ) → cut (suc k) w bs ≡ cut k w bs ++ (take w (drop (k * w) bs) ∷ [])
unfolding cut
cut_more zero w bs = ap (λ (i : ℕ). take w (drop i bs) ∷ []) (let e : 0 ≡ 0 * w = omega arith in e)
cut_more (suc k) w bs =
    ap (◌∷◌ (take w bs))
    (cut_more k w (drop w bs)
    ∙ ap (λ (us : List ℕ). cut k w (drop w bs) ++ (take w us ∷ [])) (drop-drop (k * w) w bs ∙ ap (λ (i : ℕ). drop i bs) (let e : w + k * w ≡ suc k * w = omega (arith, suc-mul k w) in e)))

column_errors_more :
    (n k w : ℕ) (ys : List ℕ) →
    column_errors (suc n) k w ys ≡ column_errors n k w ys ++ (scaled (inverse (power 2 (first_exponent * (254 - (k + n))))) (take w (drop (row_width * n) ys)) ∷ [])
unfolding column_errors
column_errors_more zero k w ys =
    ap (λ (i : ℕ). scaled (inverse (power 2 (first_exponent * (254 - i)))) (take w ys) ∷ []) (let e : k ≡ k + 0 = omega arith in e)
column_errors_more (suc n) k w ys =
    ap (◌∷◌ (scaled (inverse (power 2 (first_exponent * (254 - k)))) (take w ys)))
    (column_errors_more n (suc k) w (drop row_width ys)
    ∙ ap₂ (λ (i : ℕ) (us : List ℕ). column_errors n (suc k) w (drop row_width ys) ++ (scaled (inverse (power 2 (first_exponent * (254 - i)))) (take w us) ∷ []))
    (let e : suc k + n ≡ k + suc n = omega arith in e)
    (drop-drop (row_width * n) row_width ys ∙ ap (λ (i : ℕ). drop i ys) (let e : row_width + row_width * n ≡ row_width * suc n = omega arith in e)))

plus_values_more :
    (vs us : List (List ℕ)) (v u : List ℕ) → length vs ≡ length us → plus_values (vs ++ (v ∷ [])) (us ++ (u ∷ [])) ≡ plus_values vs us ++ (added v u ∷ [])
unfolding plus_values
plus_values_more [] [] v u e = refl
plus_values_more [] (y ∷ us) v u e = absurd (omega arith)
plus_values_more (x ∷ vs) [] v u e = absurd (omega arith)
plus_values_more (x ∷ vs) (y ∷ us) v u e = ap (◌∷◌ (added x y)) (plus_values_more vs us v u (omega arith))

glued_more : (vs : List (List ℕ)) (v : List ℕ) → glued (vs ++ (v ∷ [])) ≡ glued vs ++ v
unfolding glued
glued_more [] v = append-nil v
glued_more (x ∷ vs) v = ap (λ (bs : List ℕ). x ++ bs) (glued_more vs v) ∙ sym (append_assoc x (glued vs) v)

pub column_errors_length : (n k w : ℕ) (ys : List ℕ) → length (column_errors n k w ys) ≡ n
unfolding column_errors
column_errors_length zero k w ys = refl
column_errors_length (suc n) k w ys = ap suc (column_errors_length n (suc k) w (drop row_width ys))

-- the first columns of a vector with their errors added, as bytes
unfoldable pub mended_front : (columns size : ℕ) → (vector weighted : List ℕ) → List ℕ
mended_front k w vs ys = glued (plus_values (cut k w vs) (column_errors k 0 w ys))

mended_front_more :
    (k w : ℕ) (vs ys : List ℕ) →
    mended_front (suc k) w vs ys
    ≡ mended_front k w vs ys ++ added (take w (drop (k * w) vs)) (scaled (inverse (power 2 (first_exponent * (254 - k)))) (take w (drop (row_width * k) ys)))
unfolding mended_front
mended_front_more k w vs ys =
    ap glued
    (ap₂ plus_values (cut_more k w vs)
    (column_errors_more k 0 w ys
    ∙ ap (λ (i : ℕ). column_errors k 0 w ys ++ (scaled (inverse (power 2 (first_exponent * (254 - i)))) (take w (drop (row_width * k) ys)) ∷ []))
    (let e : 0 + k ≡ k = omega arith in e))
    ∙ plus_values_more (cut k w vs) (column_errors k 0 w ys) _ _ (cut_length k w vs ∙ sym (column_errors_length k 0 w ys)))
    ∙ glued_more (plus_values (cut k w vs) (column_errors k 0 w ys)) _

-- a value with its errors, as written byte by byte
value_added :
    (c w : ℕ) (vs es now : List ℕ) → c < 256 → Bytes vs → length vs ≡ w → length es ≡ w →
    Filled w w (λ p. plus (get_or vs p 0) (times c (get_or es p 0))) now → now ≡ added vs (scaled c es)
value_added c w vs es now h b l m f =
    ext_get_or 0 now (added vs (scaled c es)) (f.long ∙ sym (length_added vs (scaled c es) (omega (arith, length_scaled c es)) ∙ l))
    (λ p k.
    f.new p (rw f.long at k)
    ∙ sym (get_or_added vs (scaled c es) p b (bytes_scaled c es) ∙ ap (plus (get_or vs p 0)) (get_or_scaled c es p h)))

-- or copied, where it has none
pub value_kept :
    (c : ℕ) (vs es old now : List ℕ) → c < 256 → length vs ≡ length old → length old ≤ row_width → ((i : ℕ) → get_or vs i 0 < 256) →
    ((p : ℕ) → p < row_width → get_or es p 0 ≡ 0) → Written 0 (length vs) (λ p. get_or vs (0 + p) 0) old now →
    Filled (length old) (length old) (λ p. plus (get_or vs p 0) (times c (get_or es p 0))) now
value_kept c vs es old now h e l byte z w =
    record {
      long = w.long;
      new = λ p k.
          let q : 0 + p ≡ p = omega arith in
          ap (λ (i : ℕ). get_or now i 0) (sym q) ∙ w.new p (omega arith) ∙ ap (λ (i : ℕ). get_or vs i 0) q
          ∙ sym (ap (plus (get_or vs p 0)) (ap (times c) (z p (omega arith)) ∙ times_zero c h) ∙ plus_zero (get_or vs p 0) (byte p));
    }

-- what the loop has written after k columns: their values, and the old output behind them
pub record MendedTo (k size : ℕ) (vector weighted output output_now : List ℕ) : Type 0 where
  pub long : length (mended_front k size vector weighted) ≡ k * size
  pub bytes : output_now ≡ mended_front k size vector weighted ++ drop (k * size) output

pub mended_none : (size : ℕ) (vs ys output : List ℕ) → MendedTo 0 size vs ys output output
unfolding mended_front glued plus_values cut column_errors
mended_none size vs ys output = record { long = omega arith; bytes = ap (λ (i : ℕ). drop i output) (let e : 0 ≡ 0 * size = omega arith in e) }

pub mended_long :
    {k w : ℕ} {vs ys output now : List ℕ} → MendedTo k w vs ys output now → k * w ≤ length output → length now ≡ length output
mended_long {k} {w} {vs} {ys} {output} {now} m l =
    omega (arith, ap length m.bytes, length-append (mended_front k w vs ys) (drop (k * w) output), m.long, length-drop (k * w) output)

module _ (k w c : ℕ) (vs ys output so_far now : List ℕ) (m : MendedTo k w vs ys output so_far) (h : k < 254) where
  abbrev at : ℕ
  at = k * w

  pub mended_more :
      w ≤ row_width → k * w + w ≤ length vs → row_width * k + w ≤ length ys → k * w + w ≤ length output → c ≡ power 2 (first_exponent + k * first_exponent) → Bytes vs →
      Filled (length (take (k * w + w - k * w) (drop (k * w) so_far))) (length (take (k * w + w - k * w) (drop (k * w) so_far)))
      (λ p. plus (get_or (take (k * w + w - k * w) (drop (k * w) vs)) p 0) (times c (get_or (take (row_width * k + row_width - row_width * k) (drop (row_width * k) ys)) p 0))) now →
      MendedTo (k + 1) w vs ys output (take (k * w) so_far ++ (now ++ drop (k * w + w - k * w) (drop (k * w) so_far)))
  mended_more small a b d e byte f = record { long = next_long ∙ here; bytes = joined }
    where
      value : List ℕ
      value = take w (drop at vs)

      errors : List ℕ
      errors = take w (drop (row_width * k) ys)

      front : List ℕ
      front = mended_front k w vs ys

      here : at + w ≡ (k + 1) * w
      here = omega (arith, next_value k w)

      plain : at + w - at ≡ w
      plain = omega arith

      rest : drop at so_far ≡ drop at output
      rest = ap (drop at) m.bytes ∙ drop_at front (drop at output) at m.long

      value_long : length value ≡ w
      value_long = length-take-le w (drop at vs) (omega (arith, length-drop at vs))

      errors_long : length errors ≡ w
      errors_long = length-take-le w (drop (row_width * k) ys) (omega (arith, length-drop (row_width * k) ys))

      own_long : length (take (at + w - at) (drop at so_far)) ≡ w
      own_long = part_long at w so_far (omega (arith, mended_long m (omega arith)))

      written : now ≡ added value (scaled c errors)
      written =
          value_added c w value errors now (rw e (power_lt 2 _)) (bytes_take w (drop at vs) (bytes_drop at vs byte)) value_long errors_long
          (record {
            long = f.long ∙ own_long;
            new = λ p l.
                f.new p (rw own_long l)
                ∙ ap₂ (λ (i e : ℕ). plus (get_or (take i (drop at vs)) p 0) (times c e)) plain
                (get_or-take (row_width * k + row_width - row_width * k) (drop (row_width * k) ys) p 0 (omega arith) ∙ sym (get_or-take w (drop (row_width * k) ys) p 0 l));
          })

      next : mended_front (k + 1) w vs ys ≡ front ++ now
      next =
          ap (λ (i : ℕ). mended_front i w vs ys) (add-one k) ∙ mended_front_more k w vs ys
          ∙ ap (λ (us : List ℕ). front ++ us)
          (ap (λ (d : ℕ). added value (scaled d errors)) (sym (e ∙ weight_inverse k h)) ∙ sym written)

      next_long : length (mended_front (k + 1) w vs ys) ≡ at + w
      next_long = ap length next ∙ length-append front now ∙ ap₂ ◌+◌ m.long (f.long ∙ own_long)

      joined : take at so_far ++ (now ++ drop (at + w - at) (drop at so_far)) ≡ mended_front (k + 1) w vs ys ++ drop ((k + 1) * w) output
      joined =
          ap₂ (λ (us bs : List ℕ). us ++ (now ++ bs)) (ap (take at) m.bytes ∙ take_at front (drop at output) at m.long)
          (ap₂ drop plain rest ∙ drop-drop w at output)
          ∙ sym (append_assoc front now (drop (at + w) output)) ∙ ap₂ (λ (us : List ℕ) (i : ℕ). us ++ drop i output) (sym next) here

pub mended_whole :
    (n k w : ℕ) (vs ys output now : List ℕ) → k ≡ n → MendedTo k w vs ys output now →
    now ≡ in_front (glued (plus_values (cut n w vs) (column_errors n 0 w ys))) output
unfolding mended_front in_front
mended_whole n k w vs ys output now e m =
    m.bytes ∙ ap (λ (i : ℕ). mended_front k w vs ys ++ drop i output) (sym m.long) ∙ ap (λ (i : ℕ). in_front (mended_front i w vs ys) output) e

-- the errors of the columns: a vector, and its planes
column_errors_values : (n k w : ℕ) (ys : List ℕ) → w ≤ row_width → row_width * n ≤ length ys → Values w (column_errors n k w ys)
unfolding column_errors
column_errors_values zero k w ys h l = tt
column_errors_values (suc n) k w ys h l = (
  length_scaled _ (take w ys) ∙ length-take-le w ys (omega arith),
  bytes_scaled _ (take w ys),
  column_errors_values n (suc k) w (drop row_width ys) h (omega (arith, length-drop row_width ys)),
)

pub column_errors_vector :
    (s : Settings) (ys : List ℕ) → value_size s ≤ row_width → row_width * s.n ≤ length ys → is_vector s (column_errors s.n 0 (value_size s) ys) ≡ true
column_errors_vector s ys h l =
    vector_back s (column_errors s.n 0 (value_size s) ys)
    (record { many = column_errors_length s.n 0 (value_size s) ys; values = column_errors_values s.n 0 (value_size s) ys h l })

column_errors_at :
    (n k w : ℕ) (ys : List ℕ) (p j : ℕ) → p < w → j < n →
    get_or (plane p (column_errors n k w ys)) j 0 ≡ times (inverse (power 2 (first_exponent * (254 - (k + j))))) (get_or ys (in_row j p) 0)
unfolding column_errors plane
column_errors_at zero k w ys p j h l = absurd (omega arith)
column_errors_at (suc n) k w ys p zero h l =
    get_or_scaled (inverse (power 2 (first_exponent * (254 - k)))) (take w ys) p (inverse_lt _)
    ∙ ap₂ (λ (i b : ℕ). times (inverse (power 2 (first_exponent * (254 - i)))) b) (let e : k ≡ k + 0 = omega arith in e)
    (get_or-take w ys p 0 h ∙ ap (λ (i : ℕ). get_or ys i 0) (let e : p ≡ in_row 0 p = omega arith in e))
column_errors_at (suc n) k w ys p (suc j) h l =
    column_errors_at n (suc k) w (drop row_width ys) p j h (omega arith)
    ∙ ap₂ (λ (i b : ℕ). times (inverse (power 2 (first_exponent * (254 - i)))) b) (let e : suc k + j ≡ k + suc j = omega arith in e)
    (get_or-drop row_width ys (in_row j p) 0 ∙ ap (λ (i : ℕ). get_or ys i 0) (let e : row_width + (in_row j p) ≡ in_row (suc j) p = omega arith in e))

pub column_errors_plane :
    (s : Settings) (p many : ℕ) (ys : List ℕ) → p < value_size s → s.n ≤ many → ((i : ℕ) → get_or ys i 0 < 256) →
    ErrorBytes s (lane p many ys) (plane p (column_errors s.n 0 (value_size s) ys))
unfolding error_byte
column_errors_plane s p many ys h l byte =
    record {
      many = plane_length p (column_errors s.n 0 (value_size s) ys) ∙ column_errors_length s.n 0 (value_size s) ys;
      each = λ j g.
          column_errors_at s.n 0 (value_size s) ys p j h g
          ∙ times_comm (inverse (power 2 (first_exponent * (254 - (0 + j))))) (get_or ys (in_row j p) 0) (inverse_lt _) (byte _)
          ∙ ap₂ (λ (y i : ℕ). times y (inverse (power 2 (first_exponent * i)))) (sym (lane_at p many ys j (omega arith)))
          ((let e : 254 - (0 + j) ≡ 254 - j = omega arith in e) ∙ sym (place_exponent_column s.n (check_count s) j g));
    }
