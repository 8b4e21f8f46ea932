-- Where the locator has as many roots among the places as its size, the errors that it tells explain the syndromes. It cancels
-- them, so they are the power sums of weights at its roots; no locator is longer than there are weights not zero, so none of
-- them is zero, and the values at the places are these weights. Assumes nothing.
use mathlib.Core.Path.{◌≡◌, refl, sym, ◌∙◌, ap, ap₂}
use mathlib.Core.List.{List}
use Prim.Native.Nat.{ℕ, ◌+◌, ◌<◌, ◌≤◌}
use native.Mathlib.Omega.{arith}
use lib.ListN.{length, get_or}
use Rattle.field.specs.Field.{plus, power}
use Rattle.field.proofs.Xor.{plus_self}
use Rattle.code.specs.Settings.{Settings, settings_refusal, check_count}
use Rattle.code.specs.Polynomial.{eval}
use Rattle.code.proofs.Codewords.Place.{Place, BytePlaces, Different, AllZero, nonzero, weighed}
use Rattle.code.proofs.Codewords.PowerSum.{power_sum}
use Rattle.code.proofs.Polynomials.Arithmetic.{eval_lt}
use Rattle.code.proofs.ValidSettings.{sizes}
use Rattle.locator.specs.Locator.{massey, value}
use Rattle.locator.specs.Errors.{place_exponent}
use Rattle.locator.specs.Search.{at_place, roots_below}
use Rattle.locator.proofs.Polynomials.Steps.{value_no_root}
use Rattle.locator.proofs.Locator.Shape.{StateShape, massey_shape}
use Rattle.locator.proofs.Locator.Massey.{massey_cancels}
use Rattle.locator.proofs.Locator.Size.{size_le_nonzero}
use Rattle.locator.proofs.Locator.Roots.{in_at, value_at_place}
use Rattle.locator.proofs.Locator.Along.{Along, along_length, along_x, along_bytes, along_different, along_zero, along_nonzero, along_full}
use Rattle.locator.proofs.Locator.Recurrence.{Weights, weights}
use Rattle.locator.proofs.Errors.Places.{placed, placed_length, placed_at, placed_nonzero, placed_equal}
use Rattle.locator.proofs.Errors.Explained.{Located, Explained}
use Rattle.locator.proofs.Errors.Marks.{marks, marks_length, marks_root, marked, marked_bytes, marked_different, marked_zero, marked_count, few_marked}

module _ (s : Settings) (S : ℕ → ℕ) (r : settings_refusal s ≡ 0) where
  abbrev locator : List ℕ
  locator = (massey S (check_count s)).locator

  abbrev size : ℕ
  size = (massey S (check_count s)).size

  shape : StateShape (check_count s) (massey S (check_count s))
  shape = massey_shape S (check_count s)

  -- no more roots than the degree
  pub few_roots_below : roots_below (at_place s (massey S (check_count s)).locator) (s.n + check_count s) ≤ (massey S (check_count s)).size
  few_roots_below = few_marked s locator size (sizes s r) shape.monic

  -- no error but at a root
  pub located_none :
      (ys : List ℕ) → Located s S ys → (j : ℕ) → j < s.n + check_count s → (at_place s (massey S (check_count s)).locator j ≡ 0 → ⊥) → get_or ys j 0 ≡ 0
  unfolding at_place
  located_none ys located j h n = located.each j h ∙ value_no_root S locator (power 2 (place_exponent s.n (check_count s) j)) n

  module _ (bytes : (i : ℕ) → S i < 256) (counted : roots_below (at_place s (massey S (check_count s)).locator) (s.n + check_count s) ≡ (massey S (check_count s)).size) where
    abbrev none : Place
    none = record { x = 0; y = 0 }

    abbrev roots : List Place
    roots = marked s locator

    roots_bytes : BytePlaces roots
    roots_bytes = marked_bytes s locator

    roots_many : nonzero roots ≡ size
    roots_many = marked_count s locator ∙ counted

    -- the weights at the roots
    found : Weights roots S (check_count s)
    found =
        weights roots roots_bytes (marked_different s locator (sizes s r)) size locator S (check_count s) shape.monic
        (marked_zero s locator) roots_many bytes
        (massey_cancels S bytes S (check_count s) (λ i h. refl) (check_count s) (omega arith)).zeros

    places : List Place
    places = found.weighted

    along : Along roots places
    unfolding places
    along = found.along

    places_bytes : BytePlaces places
    places_bytes = along_bytes roots places along roots_bytes

    places_different : Different places
    places_different = along_different roots places along (marked_different s locator (sizes s r))

    sums : (i : ℕ) → i < check_count s → S i ≡ power_sum i places
    unfolding places
    sums i h = sym (found.sums i h)

    zeros : AllZero (weighed (eval locator) places)
    zeros = along_zero (eval locator) roots places (eval_lt locator) along roots_bytes (marked_zero s locator)

    size_low : size ≤ nonzero places
    size_low = size_le_nonzero places places_bytes places_different S (check_count s) sums (check_count s) (omega arith)

    places_length : length places ≡ s.n + check_count s
    unfolding marked
    places_length =
        along_length roots places along ∙ placed_length s 0 _ ∙ marks_length (at_place s locator) 0 (s.n + check_count s)

    root_at :
        (j : ℕ) → j < s.n + check_count s →
        get_or roots j none ≡ record { x = power 2 (place_exponent s.n (check_count s) j); y = get_or (marks (at_place s locator) 0 (s.n + check_count s)) j 0 }
    unfolding marked
    root_at j h = placed_at s 0 _ j j none (omega arith) (rw (marks_length (at_place s locator) 0 (s.n + check_count s)) h)

    power_at : (j : ℕ) → j < s.n + check_count s → (get_or places j none).x ≡ power 2 (place_exponent s.n (check_count s) j)
    power_at j h = along_x roots places j none along ∙ ap (λ (p : Place). p.x) (root_at j h)

    value_is : (j : ℕ) → j < s.n + check_count s → value S locator (get_or places j none).x ≡ (get_or places j none).y
    value_is j h =
        value_at_place S (check_count s) places places_bytes places_different sums locator zeros (get_or places j none)
        (in_at places j none (rw places_length h)) size shape.monic shape.below size_low

    -- are the errors that it tells
    module _ (ys : List ℕ) (located : Located s S ys) where
      weight_at : (j : ℕ) → j < s.n + check_count s → get_or ys j 0 ≡ (get_or places j none).y
      weight_at j h = located.each j h ∙ ap (value S locator) (sym (power_at j h)) ∙ value_is j h

      all_right : placed s 0 ys ≡ places
      all_right =
          placed_equal s places none ys (located.many ∙ sym places_length) (λ j h. power_at j (rw places_length at h))
          (λ j h. weight_at j (rw places_length at h))

      pub counted_explained : (massey S (check_count s)).size ≤ s.t → Explained s S ys
      counted_explained few =
          record {
            few = omega (arith, few, roots_many, along_nonzero roots places along, placed_nonzero s 0 ys, ap nonzero all_right);
            sums = λ i h. ap₂ plus (sums i h) (ap (power_sum i) all_right) ∙ plus_self _;
          }

      -- and at each root there is one
      pub counted_wrong : (j : ℕ) → j < s.n + check_count s → at_place s (massey S (check_count s)).locator j ≡ 0 → get_or ys j 0 ≡ 0 → ⊥
      counted_wrong j h root wrong =
          omega (
            arith,
            marks_root (at_place s locator) 0 (s.n + check_count s) j j (omega arith) h root,
            ap (λ (p : Place). p.y) (root_at j h),
            along_full roots places along (omega (arith, roots_many, size_low)) j none
                (omega (arith, places_length, along_length roots places along)) (sym (weight_at j h) ∙ wrong),
          )
