-- What the codeword test says, as records, and two words of a plane as one list of places: those of the
-- columns' bytes, then those of the checks. The places are different, since every check's power lies below every column's, and
-- their power sums are the sums of the two words' syndromes. Assumes nothing.
use mathlib.Core.Path.{◌≡◌, refl, sym, ◌∙◌, ap, ap₂}
use mathlib.Core.Bool.{Bool, true, ◌&&◌}
use mathlib.Core.List.{List, ◌++◌}
use Prim.Native.Nat.{ℕ, zero, suc, ◌+◌, ◌<◌, ◌≤◌}
use mathlib.Mathlib.Data.Bool.Basic.{and_intro}
use native.Mathlib.Omega.{arith}
use lib.Dec.{eqb}
use lib.ListN.{length}
use borrow.Author.Tests.{eqb-true, eq-eqb}
use Rattle.arrays.proofs.Bool.{and_split}
use Rattle.field.specs.Field.{plus}
use Rattle.field.proofs.Xor.{plus_swap}
use Rattle.code.specs.Settings.{Settings, check_count}
use Rattle.code.specs.Polynomial.{root}
use Rattle.code.specs.Plane.{syndrome, all_zero_from, byte_list, is_codeword, differ}
use Rattle.code.proofs.ValidSettings.{Sizes}
use Rattle.arrays.proofs.Bytes.{Bytes}
use Rattle.code.proofs.Tests.{bytes_of, bytes_back, all_from, all_below_at, all_below_back}
use Rattle.code.proofs.Codewords.Place.{Place, BytePlaces, Different, AllZero, nonzero, byte_places_append, nonzero_append, all_zero_split}
use Rattle.code.proofs.Codewords.PowerSum.{power_sum, power_sum_append}
use Rattle.code.proofs.Codewords.Errors.{summed_below, summed_is_below, errors, errors_bytes, errors_sum, errors_different_both, errors_count, equal_of_errors_zero}

-- n bytes and 2t check bytes
pub record Shape (s : Settings) (bs cs : List ℕ) : Type 0 where
  pub many : length bs ≡ s.n
  pub many_checks : length cs ≡ check_count s
  pub bytes : Bytes bs
  pub check_bytes : Bytes cs

-- a codeword
pub record Word (s : Settings) (bs cs : List ℕ) : Type 0 where
  pub shape : Shape s bs cs
  pub roots : (i : ℕ) → i < check_count s → syndrome s i bs cs ≡ 0

syndrome_tests : (n i : ℕ) (s : Settings) (bs cs : List ℕ) → all_zero_from n i s bs cs ≡ all_from n i (λ k. eqb (syndrome s k bs cs) 0)
unfolding all_zero_from all_from
syndrome_tests zero i s bs cs = refl
syndrome_tests (suc n) i s bs cs = ap (λ (t : Bool). eqb (syndrome s i bs cs) 0 && t) (syndrome_tests n (suc i) s bs cs)

pub word_of : (s : Settings) (bs cs : List ℕ) → is_codeword s bs cs ≡ true → Word s bs cs
unfolding is_codeword
word_of s bs cs e =
    let whole = and_split _ (all_zero_from (check_count s) 0 s bs cs) e in
    let parts = and_split (eqb (length bs) s.n && eqb (length cs) (check_count s)) (byte_list bs && byte_list cs) whole.0 in
    let lengths = and_split (eqb (length bs) s.n) (eqb (length cs) (check_count s)) parts.0 in
    let lists = and_split (byte_list bs) (byte_list cs) parts.1 in
    record {
      shape = record {
        many = eqb-true _ _ lengths.0;
        many_checks = eqb-true _ _ lengths.1;
        bytes = bytes_of bs lists.0;
        check_bytes = bytes_of cs lists.1;
      };
      roots = λ i h. eqb-true _ _ (all_below_at (check_count s) (λ k. eqb (syndrome s k bs cs) 0) (sym (syndrome_tests (check_count s) 0 s bs cs) ∙ whole.1) i h);
    }

pub word_back : (s : Settings) (bs cs : List ℕ) → Word s bs cs → is_codeword s bs cs ≡ true
unfolding is_codeword
word_back s bs cs v =
    let shape = v.shape in
    and_intro
    (and_intro (and_intro (eq-eqb _ _ shape.many) (eq-eqb _ _ shape.many_checks)) (and_intro (bytes_back bs shape.bytes) (bytes_back cs shape.check_bytes)))
    (syndrome_tests (check_count s) 0 s bs cs ∙ all_below_back (check_count s) (λ k. eqb (syndrome s k bs cs) 0) (λ i h. eq-eqb _ _ (v.roots i h)))

-- a syndrome by sums whose powers fall to zero
pub syndrome_below :
    (s : Settings) (i : ℕ) (bs cs : List ℕ) → Sizes s → length bs ≡ s.n → length cs ≡ check_count s →
    syndrome s i bs cs ≡ plus (summed_below (root i) 255 bs) (summed_below (root i) (check_count s) cs)
unfolding syndrome
syndrome_below s i bs cs z e f = ap₂ plus (summed_is_below (root i) 255 bs (omega arith)) (summed_is_below (root i) (check_count s) cs (omega arith))

-- the places of two words
unfoldable pub word_errors : Settings → (bs cs us ds : List ℕ) → List Place
word_errors s bs cs us ds = errors 255 bs us ++ errors (check_count s) cs ds

module _ (s : Settings) (bs cs us ds : List ℕ) where
  pub word_errors_bytes : BytePlaces (word_errors s bs cs us ds)
  unfolding word_errors
  word_errors_bytes = byte_places_append (errors 255 bs us) (errors (check_count s) cs ds) (errors_bytes 255 bs us) (errors_bytes (check_count s) cs ds)

  pub word_errors_count : nonzero (word_errors s bs cs us ds) ≤ differ bs us + differ cs ds
  unfolding word_errors
  word_errors_count =
      omega (arith, nonzero_append (errors 255 bs us) (errors (check_count s) cs ds), errors_count 255 bs us, errors_count (check_count s) cs ds)

  pub word_errors_different : Sizes s → length bs ≡ s.n → Different (word_errors s bs cs us ds)
  unfolding word_errors check_count
  word_errors_different z e = errors_different_both 255 (check_count s) bs us cs ds (omega arith) (omega arith)

  pub word_errors_sum :
      (i : ℕ) → Sizes s → Shape s bs cs → Shape s us ds → power_sum i (word_errors s bs cs us ds) ≡ plus (syndrome s i bs cs) (syndrome s i us ds)
  unfolding word_errors
  word_errors_sum i z v w =
      power_sum_append i (errors 255 bs us) (errors (check_count s) cs ds)
      ∙ ap₂ plus (errors_sum i 255 bs us (v.many ∙ sym w.many) v.bytes w.bytes)
      (errors_sum i (check_count s) cs ds (v.many_checks ∙ sym w.many_checks) v.check_bytes w.check_bytes)
      ∙ plus_swap _ _ _ _
      ∙ sym (ap₂ plus (syndrome_below s i bs cs z v.many v.many_checks) (syndrome_below s i us ds z w.many w.many_checks))

  pub equal_of_word_errors_zero : Sizes s → Shape s bs cs → Shape s us ds → AllZero (word_errors s bs cs us ds) → (bs ≡ us) × (cs ≡ ds)
  unfolding word_errors
  equal_of_word_errors_zero z v w zeros =
      let parts = all_zero_split (errors 255 bs us) (errors (check_count s) cs ds) zeros in (
        equal_of_errors_zero 255 bs us (omega arith) (v.many ∙ sym w.many) v.bytes w.bytes parts.0,
        equal_of_errors_zero (check_count s) cs ds (omega arith) (v.many_checks ∙ sym w.many_checks) v.check_bytes w.check_bytes parts.1,
      )
