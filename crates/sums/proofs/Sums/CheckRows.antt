-- Check values in rows: one value more fills the next row's first bytes, and the bytes of plane p in the rows are those of plane
-- p of the values, since value j's byte p stands at j·size + p in the one list and in row j in the other. Assumes nothing.
use mathlib.Core.Path.{◌≡◌, refl, sym, ◌∙◌, ap, ap₂}
use mathlib.Core.Bool.{true}
use mathlib.Core.List.{List, [], ◌∷◌}
use Prim.Native.Nat.{ℕ, zero, suc, ◌+◌, ◌*◌, ◌≤◌, ◌<◌}
use native.Mathlib.Omega.{arith}
use native.Mathlib.Decide.{dec_lt}
use lib.ListN.{length, get_or}
use Rattle.arrays.specs.Array.{all_zero, Written}
use Rattle.arrays.proofs.Zeros.{zero_at}
use Rattle.field.specs.Field.{plus}
use Rattle.lanes.specs.Lanes.{row_width, in_row, lane}
use Rattle.code.specs.Size.{check_rows}
use Rattle.code.specs.Polynomial.{added}
use Rattle.code.specs.Vector.{plane, cut}
use Rattle.code.proofs.Polynomials.Arithmetic.{length_added}
use Rattle.sums.specs.Rows.{ValuesAdded}
use Rattle.code.proofs.Vectors.Cut.{plane_cut, plane_cut_length}
use Rattle.lanes.proofs.Lane.{lane_is}

-- row by row
pub values_none : (size : ℕ) (own checks rows : List ℕ) → length rows ≡ check_rows → all_zero rows ≡ true → ValuesAdded 0 size own checks rows
values_none size own checks rows e z =
    record { long = e; sums = λ c p h l. absurd (omega arith); spare = λ c p h l. zero_at rows z (in_row c p); beyond = λ i h. zero_at rows z i }

pub values_more :
    (c size from : ℕ) (own checks rows now : List ℕ) → size ≤ row_width → from ≡ c * size → ValuesAdded c size own checks rows →
    Written (row_width * c) size (λ p. plus (get_or own (from + p) 0) (get_or checks (from + p) 0)) rows now → ValuesAdded (c + 1) size own checks now
values_more c size from own checks rows now h e v w =
    record {
      long = w.long ∙ v.long;
      sums = λ d p g l. sums d p g l (dec_lt d c);
      spare = λ d p g l. spare d p g l (dec_lt d c);
      beyond = λ i g. w.after i (omega arith) ∙ v.beyond i (omega arith);
    }
  where
    sums :
        (d p : ℕ) → d < c + 1 → p < size → Dec (d < c) →
        get_or now (in_row d p) 0 ≡ plus (get_or own (d * size + p) 0) (get_or checks (d * size + p) 0)
    sums d p g l (yes b) = w.before _ (omega arith) ∙ v.sums d p b l
    sums d p g l (no b) =
        let q : d ≡ c = omega arith in
        rw q (w.new p l ∙ ap (λ (i : ℕ). plus (get_or own (i + p) 0) (get_or checks (i + p) 0)) e)

    spare : (d p : ℕ) → size ≤ p → p < row_width → Dec (d < c) → get_or now (in_row d p) 0 ≡ 0
    spare d p g l (yes b) = w.before _ (omega arith) ∙ v.spare d p g l
    spare d p g l (no b) = w.after _ (omega arith) ∙ v.spare d p g l

added_at : (us vs : List ℕ) (j : ℕ) → length us ≡ length vs → j < length us → get_or (added us vs) j 0 ≡ plus (get_or us j 0) (get_or vs j 0)
unfolding added
added_at [] vs j e h = absurd (omega arith)
added_at (u ∷ us) [] j e h = absurd (omega arith)
added_at (u ∷ us) (v ∷ vs) zero e h = refl
added_at (u ∷ us) (v ∷ vs) (suc j) e h = added_at us vs j (omega arith) (omega arith)

module _ (count size : ℕ) (own checks rows : List ℕ) (v : ValuesAdded count size own checks rows) (p : ℕ) where
  pub values_lane : p < size → lane p count rows ≡ added (plane p (cut count size own)) (plane p (cut count size checks))
  values_lane h =
      lane_is p count rows (added us vs) (length_added us vs (omega (arith, us_long, vs_long)) ∙ us_long)
      (λ j l.
      v.sums j p l h ∙ ap₂ plus (sym (plane_cut count size p own j l h)) (sym (plane_cut count size p checks j l h))
      ∙ sym (added_at us vs j (us_long ∙ sym vs_long) (omega (arith, us_long))))
    where
      us : List ℕ
      us = plane p (cut count size own)

      vs : List ℕ
      vs = plane p (cut count size checks)

      us_long : length us ≡ count
      us_long = plane_cut_length p count size own

      vs_long : length vs ≡ count
      vs_long = plane_cut_length p count size checks
