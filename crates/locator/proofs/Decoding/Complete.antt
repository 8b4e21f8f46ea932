-- Where a codeword is near, the decoder finds it. The places in which the codeword and the word differ have the syndromes for
-- power sums, and at most t of them are wrong. So the locator has at most t roots to tell, all of them among the places, and the errors
-- that it tells explain the syndromes. Assumes nothing.
use mathlib.Core.Path.{◌≡◌, sym, ◌∙◌, ap}
use mathlib.Core.List.{List}
use Prim.Native.Nat.{ℕ, ◌+◌, ◌<◌, ◌≤◌}
use native.Mathlib.Omega.{arith}
use lib.ListN.{length, get_or}
use Rattle.field.specs.Field.{plus, power}
use Rattle.field.proofs.Xor.{plus_zero}
use Rattle.field.proofs.Logarithm.{no_zero_divisors}
use Rattle.code.specs.Settings.{Settings, settings_refusal, check_count}
use Rattle.code.specs.Polynomial.{eval}
use Rattle.code.specs.Plane.{syndrome}
use Rattle.code.specs.Repair.{Near}
use Rattle.code.proofs.Codewords.Place.{Place, BytePlaces, Different, AllZero, nonzero, weighed}
use Rattle.code.proofs.Codewords.PowerSum.{power_sum}
use Rattle.code.proofs.Polynomials.Arithmetic.{eval_lt}
use Rattle.code.proofs.ValidSettings.{sizes}
use Rattle.code.proofs.Codewords.Word.{Shape, Word, word_of, word_errors, word_errors_bytes, word_errors_count, word_errors_different, word_errors_sum}
use Rattle.code.proofs.Codewords.Linear.{syndrome_lt}
use Rattle.locator.specs.Locator.{massey}
use Rattle.locator.specs.Errors.{place_exponent}
use Rattle.locator.specs.Search.{at_place, roots_below}
use Rattle.locator.proofs.Locator.Size.{size_le_nonzero, roots_all}
use Rattle.locator.proofs.Locator.Roots.{in_at, bytes_in, zero_in}
use Rattle.locator.proofs.Errors.Places.{word_errors_length, word_errors_power}
use Rattle.locator.proofs.Errors.Explained.{Located, Explained}
use Rattle.locator.proofs.Errors.Marks.{nonzero_le_roots}
use Rattle.locator.proofs.Decoding.Counted.{few_roots_below, counted_explained}

module _ (s : Settings) (bs cs us ds : List ℕ) (S : ℕ → ℕ) (r : settings_refusal s ≡ 0) (v : Shape s bs cs) (same : (i : ℕ) → i < check_count s → S i ≡ syndrome s i bs cs) (near : Near s bs cs us ds) where
  word : Word s us ds
  word = word_of s us ds near.codeword

  places : List Place
  places = word_errors s bs cs us ds

  bytes : BytePlaces places
  unfolding places
  bytes = word_errors_bytes s bs cs us ds

  different : Different places
  unfolding places
  different = word_errors_different s bs cs us ds (sizes s r) v.many

  few : nonzero places ≤ s.t
  unfolding places
  few = omega (arith, word_errors_count s bs cs us ds, near.within)

  sums : (i : ℕ) → i < check_count s → S i ≡ power_sum i places
  unfolding places
  sums i h =
      same i h ∙ sym (word_errors_sum s bs cs us ds i (sizes s r) v word.shape ∙ ap (plus _) (word.roots i h) ∙ plus_zero _ (syndrome_lt s i bs cs))

  -- the locator: no longer than there are errors, and zero at each
  size_low : (massey S (check_count s)).size ≤ nonzero places
  size_low = size_le_nonzero places bytes different S (check_count s) sums (check_count s) (omega arith)

  pub near_size : (massey S (check_count s)).size ≤ s.t
  near_size = omega (arith, size_low, few)

  roots : AllZero (weighed (eval (massey S (check_count s)).locator) places)
  unfolding check_count
  roots = roots_all places bytes different S (check_count s) sums (check_count s) (omega arith) (omega (arith, few))

  -- with as many roots among the places as its size, for each place with an error is one
  abbrev none : Place
  none = record { x = 0; y = 0 }

  places_length : length places ≡ s.n + check_count s
  unfolding places
  places_length = word_errors_length s bs cs us ds (sizes s r) v word.shape

  places_power : (j : ℕ) → j < s.n + check_count s → (get_or places j none).x ≡ power 2 (place_exponent s.n (check_count s) j)
  unfolding places
  places_power = word_errors_power s bs cs us ds (sizes s r) v word.shape none

  wrong_root : (j : ℕ) → j < length places → ((get_or places j none).y ≡ 0 → ⊥) → at_place s (massey S (check_count s)).locator j ≡ 0
  unfolding at_place
  wrong_root j h wrong =
      let in_places = in_at places j none h in
      ap (eval (massey S (check_count s)).locator) (sym (places_power j (rw places_length at h)))
      ∙ no_zero_divisors (get_or places j none).y _ (bytes_in _ places bytes in_places).1 (eval_lt _ _)
      (zero_in (eval (massey S (check_count s)).locator) _ places roots in_places) wrong

  pub near_counted : roots_below (at_place s (massey S (check_count s)).locator) (s.n + check_count s) ≡ (massey S (check_count s)).size
  near_counted =
      let v = at_place s (massey S (check_count s)).locator in
      let all : 0 + length places ≡ s.n + check_count s = omega (arith, places_length) in
      omega (
        arith,
        size_low,
        few_roots_below s S r,
        nonzero_le_roots v places 0 none (λ i h wrong. ap v (let e : 0 + i ≡ i = omega arith in e) ∙ wrong_root i h wrong),
        ap (roots_below v) all,
      )

  -- so the errors that it tells explain the syndromes
  pub near_explained : ((i : ℕ) → S i < 256) → (ys : List ℕ) → Located s S ys → Explained s S ys
  near_explained byte ys located = counted_explained s S r byte near_counted ys located near_size
