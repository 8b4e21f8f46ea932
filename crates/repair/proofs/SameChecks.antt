-- The answer where the checks are the same: the zeros are a codeword with no checks, so they need no repair, and no place is tried.
-- Assumes nothing.
use mathlib.Core.Path.{◌≡◌, refl, sym, ◌∙◌, ap, ap₂}
use mathlib.Core.Bool.{true}
use mathlib.Core.List.{List, ◌++◌}
use mathlib.Core.Logic.{inl}
use Prim.Native.Nat.{ℕ, ◌*◌, ◌<◌}
use native.Mathlib.Omega.{arith}
use lib.ListN.{length, get_or, replicate, length-replicate}
use lib.Seq.{take_all}
use Rattle.arrays.specs.Array.{in_front}
use Rattle.arrays.proofs.Bytes.{Bytes, bytes_zeros}
use Rattle.arrays.proofs.Zeros.{zeros_at}
use Rattle.lanes.specs.Lanes.{in_row}
use Rattle.lanes.proofs.Lane.{lane_zeros}
use Rattle.code.specs.Size.{value_room}
use Rattle.code.specs.Settings.{Settings, settings, check_count, value_size}
use Rattle.code.specs.Polynomial.{root}
use Rattle.code.specs.Plane.{is_codeword}
use Rattle.code.specs.Vector.{plane, cut, glued}
use Rattle.code.specs.Repair.{Near, changed_places, Tried}
use Rattle.code.specs.Entry.{values_in}
use Rattle.code.proofs.Vectors.Cut.{glued_cut}
use Rattle.code.proofs.Codewords.Near.{differ_self}
use Rattle.code.proofs.Codewords.Tried.{last_difference_self}
use Rattle.code.proofs.Codewords.Word.{word_back}
use Rattle.code.proofs.Vectors.Planes.{vector_back, checks_back, differ_values_self}
use Rattle.sums.proofs.Sums.CheckSums.{syndrome_zeros, summed_zeros}
use Rattle.repair.specs.Difference.{zeros}
use Rattle.repair.specs.Entry.{DoneBy, TriedBy, none_tried}
use Rattle.repair.proofs.Difference.Values.{zero_values, plus_zeros, plane_zeros}
use Rattle.repair.proofs.Difference.Rows.{ChecksApart, apart, apart_many, apart_values, apart_lane}

glued_whole : (n w : ℕ) (vector : List ℕ) → length vector ≡ n * w → glued (cut n w vector) ≡ vector
glued_whole n w vector l = glued_cut n w vector (omega arith) ∙ take_all (n * w) vector (omega arith)

module _ (n : ℕ) {t w : ℕ} {own checks rows : List ℕ} (a : ChecksApart t w own checks rows) (none : (i : ℕ) → get_or rows i 0 ≡ 0) where
  abbrev s : Settings
  s = settings n t w

  abbrev difference : List (List ℕ)
  difference = apart t w own checks

  near_same : (p : ℕ) → p < w → Near s (plane p (zeros s)) (plane p difference) (plane p (zeros s)) (plane p difference)
  unfolding settings check_count
  near_same p h =
      record {
        codeword = ap₂ (is_codeword s) (plane_zeros s p) (sym (apart_lane a p h) ∙ lane_zeros p (2 * t) rows (λ j k. none (in_row j p))) ∙ zero_codeword;
        within = omega (arith, differ_self (plane p (zeros s)), differ_self (plane p difference));
      }
    where
      zero_codeword : is_codeword s (replicate n 0) (replicate (2 * t) 0) ≡ true
      zero_codeword =
          word_back s (replicate n 0) (replicate (2 * t) 0)
          (record {
            shape =
                record {
                  many = length-replicate n 0;
                  many_checks = length-replicate (2 * t) 0;
                  bytes = bytes_zeros n;
                  check_bytes = bytes_zeros (2 * t);
                };
            roots = λ i h. syndrome_zeros s i n (replicate (2 * t) 0) ∙ summed_zeros (root i) _ (2 * t);
          })

  pub answer_same :
      (vector out now : List ℕ) → length vector ≡ n * w → Bytes vector → now ≡ in_front vector out →
      DoneBy s (values_in s n vector) (cut (2 * t) w own) (cut (2 * t) w checks) 0 0 out now
      × TriedBy s (cut (2 * t) w own) (cut (2 * t) w checks) none_tried
  unfolding settings check_count value_size DoneBy TriedBy Tried none_tried values_in zeros changed_places
  answer_same vector out now l b back = (
    inl (
      refl,
      (
        zeros s,
        difference,
        record {
          vector = vector_back s (zeros s) (record { many = length-replicate n (replicate w 0); values = zero_values n w });
          checks = checks_back s difference (apart_many a) (apart_values a);
          planes = near_same;
        },
        omega (arith, differ_values_self (zeros s), differ_values_self difference),
        back ∙ ap (λ (bs : List ℕ). in_front bs out) (sym (glued_whole n w vector l) ∙ ap glued (sym (plus_zeros n w vector l b))),
      ),
    ),
    record {
      long = length-replicate {A = ℕ} value_room 0;
      each = λ p h. inl (_, _, near_same p h, zeros_at value_room p ∙ sym (last_difference_self (plane p (zeros s) ++ plane p difference)));
      others = λ p h. zeros_at value_room p;
    },
  )
