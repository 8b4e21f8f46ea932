-- A test that tells "none", so that examples can be computed. Where the locator of the syndromes tells no error at any place, and yet
-- the first syndrome is not 0, no error does not explain the syndromes; but a codeword that were near would be explained by the errors
-- that the locator tells. Assumes nothing.
use mathlib.Core.Path.{◌≡◌, refl, sym, ◌∙◌, ap, ap₂}
use mathlib.Core.Bool.{Bool, true, false, ◌&&◌, ◌||◌, not}
use mathlib.Core.List.{List}
use Prim.Native.Nat.{ℕ, zero, suc, ◌+◌, ◌-◌, ◌≤◌, ◌<◌}
use native.Mathlib.Omega.{arith}
use lib.Dec.{eqb, ltb}
use lib.ListN.{length, replicate, length-replicate}
use borrow.Author.Tests.{eqb-true, eqb-false, ltb-true, not-true}
use Rattle.arrays.proofs.Zeros.{zeros_at}
use Rattle.arrays.proofs.Bool.{and_split, true_not_false}
use Rattle.field.specs.Field.{plus, xor_from}
use Rattle.field.proofs.Xor.{plus_lt}
use Rattle.field.proofs.Times.{zero_times}
use Rattle.field.proofs.Power.{doublings, power_doublings}
use Rattle.code.specs.Settings.{Settings, settings_refusal, check_count, value_size}
use Rattle.code.specs.Plane.{syndrome, byte_list}
use Rattle.code.specs.Vector.{plane}
use Rattle.code.specs.Repair.{Near, NoRepair}
use Rattle.code.proofs.Tests.{bytes_of, all_from, all_below_at}
use Rattle.code.proofs.Codewords.PowerSum.{power_sum}
use Rattle.code.proofs.Codewords.Word.{Shape}
use Rattle.code.proofs.Codewords.Quick.{quick_summed, summed_quick}
use Rattle.locator.specs.Locator.{massey, value}
use Rattle.locator.specs.Errors.{place_exponent}
use Rattle.locator.proofs.Errors.Places.{placed}
use Rattle.locator.proofs.Errors.Explained.{Located, Explained}
use Rattle.locator.proofs.Decoding.Complete.{near_explained}
use Rattle.grading.specs.Value.{Vector}

-- a syndrome
unfoldable pub quick_sum : Settings → (bytes checks : List ℕ) → (i : ℕ) → ℕ
quick_sum s bs cs i = plus (quick_summed i 254 bs) (quick_summed i (check_count s - 1) cs)

sum_quick : (s : Settings) (bs cs : List ℕ) (i : ℕ) → quick_sum s bs cs i ≡ syndrome s i bs cs
unfolding quick_sum syndrome
sum_quick s bs cs i = sym (ap₂ plus (summed_quick i 254 bs) (summed_quick i (check_count s - 1) cs))

sum_byte : (s : Settings) (bs cs : List ℕ) (i : ℕ) → quick_sum s bs cs i < 256
unfolding quick_sum
sum_byte s bs cs i = plus_lt _ _

-- no error told at a place
unfoldable pub right_at : Settings → (S : ℕ → ℕ) → (locator : List ℕ) → (j : ℕ) → Bool
right_at s S ps j = eqb (value S ps (doublings (place_exponent s.n (check_count s) j) 1)) 0

-- a plane that is tested
unfoldable pub plane_none : Settings → (bytes checks : List ℕ) → Bool
plane_none s bs cs =
    ((eqb (length bs) s.n && eqb (length cs) (check_count s)) && (byte_list bs && byte_list cs))
    && ((ltb 0 (check_count s) && not (eqb (plus (quick_sum s bs cs 0) 0) 0))
    && all_from (s.n + check_count s) 0 (right_at s (quick_sum s bs cs) (massey (quick_sum s bs cs) (check_count s)).locator))

no_sum : (s : Settings) (i j k : ℕ) → power_sum i (placed s j (replicate k 0)) ≡ 0
unfolding power_sum placed plus xor_from
no_sum s i j zero = refl
no_sum s i j (suc k) = ap₂ plus (zero_times _) (no_sum s i (suc j) k)

none_near : (s : Settings) (bs cs us ds : List ℕ) → settings_refusal s ≡ 0 → plane_none s bs cs ≡ true → Near s bs cs us ds → ⊥
unfolding plane_none right_at
none_near s bs cs us ds fine e near =
    eqb-false _ 0 (not-true _ some.1) (ap (plus (quick_sum s bs cs 0)) (sym (no_sum s 0 0 many)) ∙ explained.sums 0 (ltb-true 0 (check_count s) some.0))
  where
    many : ℕ
    many = s.n + check_count s

    told : ℕ → ℕ
    told j = value (quick_sum s bs cs) (massey (quick_sum s bs cs) (check_count s)).locator (doublings (place_exponent s.n (check_count s) j) 1)

    parts : ((((eqb (length bs) s.n && eqb (length cs) (check_count s)) && (byte_list bs && byte_list cs)) ≡ true)
        × (((ltb 0 (check_count s) && not (eqb (plus (quick_sum s bs cs 0) 0) 0)) && all_from many 0 (λ j. eqb (told j) 0)) ≡ true))
    parts = and_split _ _ e

    sizes : ((eqb (length bs) s.n && eqb (length cs) (check_count s)) ≡ true) × ((byte_list bs && byte_list cs) ≡ true)
    sizes = and_split _ _ parts.0

    tests : ((ltb 0 (check_count s) && not (eqb (plus (quick_sum s bs cs 0) 0) 0)) ≡ true) × (all_from many 0 (λ j. eqb (told j) 0) ≡ true)
    tests = and_split _ _ parts.1

    some : (ltb 0 (check_count s) ≡ true) × (not (eqb (plus (quick_sum s bs cs 0) 0) 0) ≡ true)
    some = and_split _ _ tests.0

    shape : Shape s bs cs
    shape =
        let long = and_split (eqb (length bs) s.n) _ sizes.0 in
        let bytes = and_split (byte_list bs) _ sizes.1 in
        record {
          many = eqb-true _ _ long.0;
          many_checks = eqb-true _ _ long.1;
          bytes = bytes_of bs bytes.0;
          check_bytes = bytes_of cs bytes.1;
        }

    located : Located s (quick_sum s bs cs) (replicate many 0)
    located =
        record {
          many = length-replicate many 0;
          each =
              λ j h.
              zeros_at many j ∙ sym (eqb-true (told j) 0 (all_below_at many (λ i. eqb (told i) 0) tests.1 j h))
              ∙ ap (value (quick_sum s bs cs) (massey (quick_sum s bs cs) (check_count s)).locator) (sym (power_doublings (place_exponent s.n (check_count s) j)));
        }

    explained : Explained s (quick_sum s bs cs) (replicate many 0)
    explained = near_explained s bs cs us ds (quick_sum s bs cs) fine shape (λ i h. sum_quick s bs cs i) near (sum_byte s bs cs) (replicate many 0) located

-- a vector one of whose planes has none
unfoldable pub none_from : (left p : ℕ) → Settings → (vs cs : Vector) → Bool
none_from zero p s vs cs = false
none_from (suc l) p s vs cs = plane_none s (plane p vs) (plane p cs) || none_from l (suc p) s vs cs

unfoldable pub quick_none : Settings → (vs cs : Vector) → Bool
quick_none s vs cs = none_from (value_size s) 0 s vs cs

none_of_planes : (s : Settings) (vs cs : Vector) (l p : ℕ) → settings_refusal s ≡ 0 → p + l ≤ value_size s → none_from l p s vs cs ≡ true → NoRepair s vs cs
unfolding none_from
none_of_planes s vs cs zero p fine h e = true_not_false (sym e)
none_of_planes s vs cs (suc l) p fine h e = go (plane_none s (plane p vs) (plane p cs)) refl e (none_of_planes s vs cs l (suc p) fine (omega arith))
  where
    go : (q : Bool) → plane_none s (plane p vs) (plane p cs) ≡ q → (q || none_from l (suc p) s vs cs) ≡ true →
        (none_from l (suc p) s vs cs ≡ true → NoRepair s vs cs) → NoRepair s vs cs
    go true g d later = record { at_plane = p; inside = omega arith; none_near = λ us ds. none_near s (plane p vs) (plane p cs) us ds fine g }
    go false g d later = later d

pub none_quick : (s : Settings) (vs cs : Vector) → settings_refusal s ≡ 0 → quick_none s vs cs ≡ true → NoRepair s vs cs
unfolding quick_none
none_quick s vs cs fine e = none_of_planes s vs cs (value_size s) 0 fine (omega arith) e
