-- From what the search of all planes finds to the answer: where roots are left in a plane, it has no codeword near; where none are left in
-- any, the vector of their errors is the zeros repaired, and a row with an error is a place changed. Assumes nothing.
use mathlib.Core.Path.{◌≡◌, refl, sym, ◌∙◌, ap, ap₂}
use mathlib.Core.Bool.{true, false}
use mathlib.Core.List.{List}
use mathlib.Core.Logic.{inl, inr}
use Prim.Native.Nat.{ℕ, ◌+◌, ◌*◌, ◌≤◌, ◌<◌}
use native.Mathlib.Omega.{arith}
use lib.Dec.{eqb}
use lib.ListN.{length, get_or, drop, length-replicate, length-drop, get_or-replicate}
use lib.Seq.{get_or-drop}
use Rattle.arrays.specs.Array.{in_front, all_zero}
use Rattle.lanes.specs.Lanes.{row_width, in_row, lane}
use Rattle.code.specs.Settings.{Settings, settings, settings_refusal, check_count, value_size}
use Rattle.field.specs.Field.{plus}
use Rattle.field.proofs.Xor.{zero_plus}
use Rattle.field.proofs.Times.{times_lt}
use Rattle.code.specs.Vector.{plane, is_vector, differ_values, cut, glued}
use Rattle.code.specs.Repair.{Repaired, changed_places}
use Rattle.code.specs.Entry.{values_in}
use Rattle.arrays.proofs.Bytes.{byte_at}
use Rattle.lanes.proofs.Lane.{lane_length, lane_at}
use Rattle.code.proofs.Vectors.Planes.{Values, vector_of, checks_back}
use Rattle.code.proofs.Vectors.ByPlanes.{by_planes, by_planes_length, by_planes_values, by_planes_plane}
use Rattle.code.proofs.ValidSettings.{sizes}
use Rattle.locator.specs.Errors.{error_byte, mended}
use Rattle.repair.specs.Difference.{plus_values, zeros}
use Rattle.repair.specs.Entry.{DoneBy, TriedBy, none_found}
use Rattle.repair.specs.Steps.Changed.{wrong_rows}
use Rattle.repair.specs.Steps.Columns.{column_errors}
use Rattle.search.specs.Planes.{Decoded}
use Rattle.locator.proofs.Decoder.{ErrorBytes, mended_zeros}
use Rattle.locator.proofs.Errors.Mended.{mended_length, mended_bytes, mended_at, error_there}
use Rattle.repair.proofs.ColumnErrors.{column_errors_vector, column_errors_plane}
use Rattle.repair.proofs.WrongRows.{wrong_rows_plus, wrong_rows_ended, rows_changed}
use Rattle.repair.proofs.FoundPlanes.{all_near, none_somewhere, tried_each}
use Rattle.repair.proofs.Difference.Rows.{ChecksApart, apart, apart_many, apart_values, apart_bytes, apart_lane}
use Rattle.repair.proofs.Difference.Values.{zero_values, plane_zeros}

module _ (n : ℕ) {t w : ℕ} {own checks rows : List ℕ} (a : ChecksApart t w own checks rows) (allowed : settings_refusal (settings n t w) ≡ 0) where
  abbrev s : Settings
  s = settings n t w

  abbrev ours : List (List ℕ)
  ours = cut (2 * t) w own

  abbrev theirs : List (List ℕ)
  theirs = cut (2 * t) w checks

  abbrev difference : List (List ℕ)
  difference = apart t w own checks

  -- what the search found, and the places that it tried
  module _ (left tried weighted : List ℕ) (turns : ℕ) (d : Decoded w s rows left tried weighted turns) where
    tried_places : TriedBy s ours theirs tried
    unfolding TriedBy settings check_count value_size
    tried_places =
        record {
          long = d.tried_long;
          each = λ p h.
              rw (plane_zeros s p, sym (apart_lane a p h)) (tried_each w s rows left tried weighted turns d p h (rw (apart_lane a p h) (apart_bytes a p)));
          others = λ p h. (d.rest p h).1;
        }

    -- some plane has no codeword near
    pub answer_none : (vector out : List ℕ) → all_zero left ≡ false → DoneBy s (values_in s n vector) ours theirs none_found 0 out out × TriedBy s ours theirs tried
    unfolding settings check_count value_size DoneBy
    answer_none vector out e =
        let (p, h, none) = none_somewhere w s rows left tried weighted turns d e in (
          inr (
            refl,
            refl,
            record { at_plane = p; inside = h; none_near = λ us ds near. none us ds (rw (plane_zeros s p, sym (apart_lane a p h)) at near) },
            refl,
          ),
          tried_places,
        )

  -- every plane has one
  module _ (left tried weighted : List ℕ) (turns : ℕ) (small : w ≤ row_width) (none_left : all_zero left ≡ true) (d : Decoded w s rows left tried weighted turns) where
    abbrev errors : List (List ℕ)
    errors = column_errors n 0 w weighted

    -- the checks of each plane's codeword
    abbrev mended_checks : ℕ → List ℕ
    mended_checks p = mended s n (lane p (2 * t) rows) (drop n (lane p (n + 2 * t) weighted))

    abbrev found_checks : List (List ℕ)
    found_checks = by_planes (2 * t) w mended_checks

    room : row_width * (n + 2 * t) ≤ length weighted
    unfolding settings
    room = let z = sizes s allowed in omega (arith, d.long, z.few_columns, z.few_bad)

    checks_plane : (p : ℕ) → p < w → plane p found_checks ≡ mended_checks p
    checks_plane p h = by_planes_plane (2 * t) w mended_checks p h (mended_length s n _ _ ∙ lane_length p (2 * t) rows)

    checks_values : Values w found_checks
    checks_values = by_planes_values (2 * t) w mended_checks (λ p h. mended_bytes s n _ _ (rw (apart_lane a p h) (apart_bytes a p)))

    errors_fine : is_vector s errors ≡ true
    unfolding settings value_size
    errors_fine = column_errors_vector s weighted small (omega (arith, room))

    errors_at : (p : ℕ) → p < w → ErrorBytes s (lane p (n + 2 * t) weighted) (plane p errors)
    unfolding settings value_size
    errors_at p h = column_errors_plane s p (n + 2 * t) weighted h (omega arith) d.bytes

    repaired : Repaired s (zeros s) difference errors found_checks
    unfolding settings check_count value_size
    repaired =
        record {
          vector = errors_fine;
          checks = checks_back s found_checks (by_planes_length (2 * t) w mended_checks) checks_values;
          planes = λ p h.
              rw (
                plane_zeros s p,
                sym (apart_lane a p h),
                checks_plane p h,
                mended_zeros s (lane p (n + 2 * t) weighted) _ (omega (arith, lane_length p (n + 2 * t) weighted)) (errors_at p h),
              )
              (all_near w s rows left tried weighted turns d none_left p h).near;
        }

    -- a row with an error is a place changed: the columns' rows, and behind them the checks'
    columns_changed : differ_values (zeros s) errors ≡ wrong_rows n weighted
    unfolding settings value_size zeros error_byte
    columns_changed =
        let fine = vector_of s errors errors_fine in
        rows_changed n w (zeros s) errors weighted (length-replicate n _) fine.many (zero_values n w) fine.values small (omega (arith, room)) at
        (λ j p h l k. d.others j p l k)
      where
        at : (j p : ℕ) → j < n → p < w → eqb (get_or (plane p (zeros s)) j 0) (get_or (plane p errors) j 0) ≡ eqb (get_or weighted (in_row j p) 0) 0
        at j p h l =
            let byte = (errors_at p l).each j h ∙ ap (error_byte s j) (lane_at p (n + 2 * t) weighted j (omega arith)) in
            ap₂ eqb (ap (λ (bs : List ℕ). get_or bs j 0) (plane_zeros s p) ∙ get_or-replicate n j 0 0 h) (byte ∙ sym (zero_plus _ (times_lt _ _)))
            ∙ error_there s j 0 (get_or weighted (in_row j p) 0) (omega arith) (d.bytes _)

    checks_changed : differ_values difference found_checks ≡ wrong_rows (2 * t) (drop (row_width * n) weighted)
    unfolding settings
    checks_changed =
        rows_changed (2 * t) w difference found_checks (drop (row_width * n) weighted) (apart_many a) (by_planes_length (2 * t) w mended_checks) (apart_values a) checks_values small
        (omega (arith, room, length-drop (row_width * n) weighted)) at
        (λ j p h l k. behind j p ∙ d.others (n + j) p l k)
      where
        behind : (j p : ℕ) → get_or (drop (row_width * n) weighted) (in_row j p) 0 ≡ get_or weighted (in_row (n + j) p) 0
        behind j p =
            get_or-drop (row_width * n) weighted (in_row j p) 0
            ∙ ap (λ (i : ℕ). get_or weighted i 0) (let e : row_width * n + in_row j p ≡ in_row (n + j) p = omega arith in e)

        at :
            (j p : ℕ) → j < 2 * t → p < w →
            eqb (get_or (plane p difference) j 0) (get_or (plane p found_checks) j 0) ≡ eqb (get_or (drop (row_width * n) weighted) (in_row j p) 0) 0
        at j p h l =
            let lanes = lane p (n + 2 * t) weighted in
            let long : length (lane p (2 * t) rows) ≡ length (drop n lanes) = omega (arith, lane_length p (2 * t) rows, length-drop n lanes, lane_length p (n + 2 * t) weighted) in
            ap₂ (λ (bs us : List ℕ). eqb (get_or bs j 0) (get_or us j 0)) (sym (apart_lane a p l)) (checks_plane p l)
            ∙ ap (eqb (get_or (lane p (2 * t) rows) j 0))
            (mended_at s n (lane p (2 * t) rows) (drop n lanes) j (n + j) refl (omega (arith, lane_length p (2 * t) rows)) long
            ∙ ap (λ (y : ℕ). plus (get_or (lane p (2 * t) rows) j 0) (error_byte s (n + j) y))
            (get_or-drop n lanes j 0 ∙ lane_at p (n + 2 * t) weighted (n + j) (omega arith) ∙ sym (behind j p)))
            ∙ error_there s (n + j) _ _ (byte_at (lane p (2 * t) rows) j (rw (apart_lane a p l) (apart_bytes a p))) (rw (behind j p) (d.bytes _))

    changed_rows : wrong_rows turns weighted ≡ changed_places (zeros s) difference errors found_checks
    unfolding changed_places settings check_count
    changed_rows =
        wrong_rows_ended turns (n + 2 * t) weighted d.ended.within d.ended.ahead ∙ wrong_rows_plus n (2 * t) weighted
        ∙ sym (ap₂ ◌+◌ columns_changed checks_changed)

    pub answer_found :
        (changed : ℕ) (vector out now : List ℕ) → changed ≡ wrong_rows turns weighted →
        now ≡ in_front (glued (plus_values (cut n w vector) (column_errors n 0 w weighted))) out →
        DoneBy s (values_in s n vector) ours theirs 0 changed out now × TriedBy s ours theirs tried
    unfolding settings value_size DoneBy values_in
    answer_found changed vector out now count back =
        (inl (refl, (errors, found_checks, repaired, count ∙ changed_rows, back)), tried_places left tried weighted turns d)
