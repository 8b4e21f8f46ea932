-- Errors that explain the power sums mend the word. The word with its errors added has the weighted errors' places for
-- differences, so its syndromes are the sums S plus those of the errors, which are zero; and it differs from the word only where
-- a weighted error is not zero, in at most t places. Assumes nothing.
use mathlib.Core.Path.{◌≡◌, sym, ◌∙◌, ap, ap₂}
use mathlib.Core.List.{List, ◌++◌}
use Prim.Native.Nat.{ℕ, suc, ◌+◌, ◌-◌, ◌<◌}
use native.Mathlib.Omega.{arith}
use lib.ListN.{length, take, drop, length-drop, take-append-drop}
use lib.Seq.{length-take-le}
use Rattle.field.specs.Field.{plus}
use Rattle.field.proofs.Xor.{plus_again}
use Rattle.code.specs.Settings.{Settings, settings_refusal, check_count}
use Rattle.code.specs.Plane.{syndrome}
use Rattle.code.specs.Repair.{Near}
use Rattle.arrays.proofs.Bytes.{Bytes, bytes_take, bytes_drop}
use Rattle.code.proofs.Codewords.PowerSum.{power_sum}
use Rattle.code.proofs.ValidSettings.{sizes}
use Rattle.code.proofs.Codewords.Word.{Shape, word_back, word_errors, word_errors_sum}
use Rattle.code.proofs.Codewords.Linear.{syndrome_lt}
use Rattle.locator.specs.Errors.{mended, wrong_places, place_exponent}
use Rattle.locator.proofs.Errors.Places.{place_exponent_column, place_exponent_next, placed, placed_append}
use Rattle.locator.proofs.Errors.Explained.{Explained}
use Rattle.locator.proofs.Errors.Totals.{wrong_places_append}
use Rattle.locator.proofs.Errors.Mended.{mended_length, mended_bytes, mended_differ, mended_errors}

module _ (s : Settings) (bs cs ys : List ℕ) (S : ℕ → ℕ) (r : settings_refusal s ≡ 0) (v : Shape s bs cs) (same : (i : ℕ) → i < check_count s → S i ≡ syndrome s i bs cs) (long : length ys ≡ s.n + check_count s) (bytes : Bytes ys) (h : Explained s S ys) where
  abbrev us : List ℕ
  us = mended s 0 bs (take s.n ys)

  abbrev ds : List ℕ
  ds = mended s s.n cs (drop s.n ys)

  columns_long : length bs ≡ length (take s.n ys)
  columns_long = v.many ∙ sym (length-take-le s.n ys (omega arith))

  checks_long : length cs ≡ length (drop s.n ys)
  checks_long = v.many_checks ∙ sym (length-drop s.n ys ∙ (let e : length ys - s.n ≡ check_count s = omega arith in e))

  shape : Shape s us ds
  shape =
      record {
        many = mended_length s 0 bs _ ∙ v.many;
        many_checks = mended_length s s.n cs _ ∙ v.many_checks;
        bytes = mended_bytes s 0 bs _ v.bytes;
        check_bytes = mended_bytes s s.n cs _ v.check_bytes;
      }

  places : word_errors s bs cs us ds ≡ placed s 0 ys
  unfolding word_errors
  places =
      let z = sizes s r in
      ap₂ ◌++◌
      (mended_errors s 255 0 bs (take s.n ys) columns_long (omega arith) (bytes_take s.n ys bytes)
      (λ i k e l. place_exponent_column s.n (check_count s) k (omega arith) ∙ (let q : 254 - k ≡ 255 - suc i = omega arith in q)))
      (mended_errors s (check_count s) s.n cs (drop s.n ys) checks_long (omega arith) (bytes_drop s.n ys bytes)
      (λ i k e l. ap (place_exponent s.n (check_count s)) e ∙ place_exponent_next s.n (check_count s) i))
      ∙ sym (placed_append s 0 s.n (take s.n ys) (drop s.n ys) (omega (arith, columns_long))) ∙ ap (placed s 0) (take-append-drop s.n ys)

  root : (i : ℕ) → i < check_count s → syndrome s i us ds ≡ 0
  root i l =
      sym (plus_again (syndrome s i bs cs) (syndrome s i us ds) (syndrome_lt s i us ds))
      ∙ ap₂ plus (sym (same i l))
      (sym (word_errors_sum s bs cs us ds i (sizes s r) v shape) ∙ ap (power_sum i) places)
      ∙ h.sums i l

  pub explained_near : Near s bs cs us ds
  explained_near =
      record {
        codeword = word_back s us ds (record { shape = shape; roots = root });
        within =
            omega (
              arith,
              mended_differ s 0 bs (take s.n ys) v.bytes columns_long,
              mended_differ s s.n cs (drop s.n ys) v.check_bytes checks_long,
              wrong_places_append (take s.n ys) (drop s.n ys),
              ap wrong_places (take-append-drop s.n ys),
              h.few,
            );
      }
