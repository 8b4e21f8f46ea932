-- The places of a plane at which a polynomial is zero, marked with 1 and the others with 0. The places are different, for their
-- exponents fall from each to the next; so a monic polynomial has no more marks than its degree. Assumes nothing.
use mathlib.Core.Path.{◌≡◌, refl, ◌∙◌, ap}
use mathlib.Core.Bool.{Bool, true, false, cond}
use mathlib.Core.List.{List, [], ◌∷◌}
use Prim.Native.Nat.{ℕ, zero, suc, ◌+◌, ◌-◌, ◌<◌, ◌≤◌}
use native.Mathlib.Omega.{arith}
use native.Mathlib.Decide.{ℕ_discrete, dec_lt}
use lib.Dec.{eqb}
use lib.ListN.{length, get_or}
use borrow.Author.Tests.{eqb-true, eq-eqb, ne_eqb}
use Rattle.field.specs.Field.{times, power}
use Rattle.field.proofs.Times.{zero_times, times_zero}
use Rattle.field.proofs.Power.{power_lt, powers_differ}
use Rattle.code.specs.Settings.{Settings, check_count}
use Rattle.code.specs.Polynomial.{eval}
use Rattle.arrays.proofs.Bytes.{Bytes}
use Rattle.code.proofs.Codewords.Place.{Place, BytePlaces, Apart, Different, AllZero, nonzero, weighed}
use Rattle.code.proofs.ValidSettings.{Sizes}
use Rattle.locator.specs.Errors.{place_exponent, wrong_places}
use Rattle.locator.specs.Search.{at_place, roots_below}
use Rattle.locator.proofs.Polynomials.Monic.{Monic}
use Rattle.locator.proofs.Locator.Roots.{few_roots}
use Rattle.locator.proofs.Errors.Places.{place_exponent_column, place_exponent_check, placed, placed_nonzero}
use Rattle.locator.proofs.Errors.Last.{roots_below_root, roots_below_mono}

-- different places
place_exponent_lt : (s : Settings) (j : ℕ) → Sizes s → place_exponent s.n (check_count s) j < 255
unfolding check_count
place_exponent_lt s j z = go (dec_lt j s.n)
  where
    go : Dec (j < s.n) → place_exponent s.n (check_count s) j < 255
    go (yes l) = omega (arith, place_exponent_column s.n (check_count s) j l)
    go (no l) = omega (arith, place_exponent_check s.n (check_count s) j (omega arith))

place_exponent_falls :
    (s : Settings) (j k : ℕ) → Sizes s → j < k → k < s.n + check_count s →
    place_exponent s.n (check_count s) k < place_exponent s.n (check_count s) j
unfolding check_count
place_exponent_falls s j k z h l = go (dec_lt j s.n) (dec_lt k s.n)
  where
    column : (i : ℕ) → i < s.n → place_exponent s.n (check_count s) i ≡ 254 - i
    column = place_exponent_column s.n (check_count s)

    check : (i : ℕ) → s.n ≤ i → place_exponent s.n (check_count s) i ≡ s.n + check_count s - suc i
    check = place_exponent_check s.n (check_count s)

    go : Dec (j < s.n) → Dec (k < s.n) → place_exponent s.n (check_count s) k < place_exponent s.n (check_count s) j
    go (yes a) (yes b) = omega (arith, column j a, column k b)
    go (yes a) (no b) = omega (arith, column j a, check k (omega arith))
    go (no a) b = omega (arith, check j (omega arith), check k (omega arith))

placed_apart :
    (s : Settings) (e j : ℕ) (ys : List ℕ) → e < 255 → ((k : ℕ) → j ≤ k → k < j + length ys → place_exponent s.n (check_count s) k < e) →
    Apart (power 2 e) (placed s j ys)
unfolding placed
placed_apart s e j [] h lower = tt
placed_apart s e j (y ∷ ys) h lower = (
  powers_differ (place_exponent s.n (check_count s) j) e (lower j (omega arith) (omega arith)) h,
  placed_apart s e (suc j) ys h (λ k a b. lower k (omega arith) (omega arith)),
)

placed_different : (s : Settings) (j : ℕ) (ys : List ℕ) → Sizes s → j + length ys ≤ s.n + check_count s → Different (placed s j ys)
unfolding placed
placed_different s j [] z h = tt
placed_different s j (y ∷ ys) z h = (
  placed_apart s (place_exponent s.n (check_count s) j) (suc j) ys (place_exponent_lt s j z)
      (λ k a b. place_exponent_falls s j k z (omega arith) (omega arith)),
  placed_different s (suc j) ys z (omega arith),
)

placed_bytes : (s : Settings) (j : ℕ) (ys : List ℕ) → Bytes ys → BytePlaces (placed s j ys)
unfolding placed
placed_bytes s j [] b = tt
placed_bytes s j (y ∷ ys) b = (power_lt 2 _, b.0, placed_bytes s (suc j) ys b.1)

-- the marks of so many places from place j on, by the values there
unfoldable pub marks : (v : ℕ → ℕ) → (j many : ℕ) → List ℕ
marks v j zero = []
marks v j (suc k) = cond (eqb (v j) 0) 1 0 ∷ marks v (suc j) k

pub marks_length : (v : ℕ → ℕ) (j k : ℕ) → length (marks v j k) ≡ k
unfolding marks
marks_length v j zero = refl
marks_length v j (suc k) = ap suc (marks_length v (suc j) k)

mark_lt : (t : Bool) → cond t 1 0 < 256
mark_lt true = omega arith
mark_lt false = omega arith

marks_bytes : (v : ℕ → ℕ) (j k : ℕ) → Bytes (marks v j k)
unfolding marks
marks_bytes v j zero = tt
marks_bytes v j (suc k) = (mark_lt (eqb (v j) 0), marks_bytes v (suc j) k)

pub marks_root : (v : ℕ → ℕ) (j k i m : ℕ) → m ≡ j + i → i < k → v m ≡ 0 → get_or (marks v j k) i 0 ≡ 1
unfolding marks
marks_root v j zero i m e h z = absurd (omega arith)
marks_root v j (suc k) zero m e h z = rw (eq-eqb (v j) 0 (ap v (let q : j ≡ m = omega arith in q) ∙ z))
marks_root v j (suc k) (suc i) m e h z = marks_root v (suc j) k i m (omega arith) (omega arith) z

mark_counts : (t : Bool) → ◌≡◌ {A = ℕ} (cond (eqb (cond t 1 0) 0) 0 1) (cond t 1 0)
mark_counts true = refl
mark_counts false = refl

marks_count : (v : ℕ → ℕ) (j k : ℕ) → wrong_places (marks v j k) + roots_below v j ≡ roots_below v (j + k)
unfolding marks wrong_places roots_below
marks_count v j zero = rw (let e : j + 0 ≡ j = omega arith in e) (omega arith)
marks_count v j (suc k) =
    rw (let e : j + suc k ≡ suc j + k = omega arith in e) (omega (arith, mark_counts (eqb (v j) 0), marks_count v (suc j) k))

mark_times : (a : ℕ) → times (cond (eqb a 0) 1 0) a ≡ 0
mark_times a = go (eqb a 0) refl
  where
    go : (t : Bool) → eqb a 0 ≡ t → times (cond t 1 0) a ≡ 0
    go true e = ap (times 1) (eqb-true a 0 e) ∙ times_zero 1 (omega arith)
    go false e = zero_times a

marks_zero : (s : Settings) (ps : List ℕ) (j k : ℕ) → AllZero (weighed (eval ps) (placed s j (marks (at_place s ps) j k)))
unfolding marks placed weighed at_place
marks_zero s ps j zero = tt
marks_zero s ps j (suc k) = (mark_times (eval ps (power 2 (place_exponent s.n (check_count s) j))), marks_zero s ps (suc j) k)

-- the marked places of a polynomial
unfoldable pub marked : Settings → (ps : List ℕ) → List Place
marked s ps = placed s 0 (marks (at_place s ps) 0 (s.n + check_count s))

module _ (s : Settings) (ps : List ℕ) where
  pub marked_bytes : BytePlaces (marked s ps)
  unfolding marked
  marked_bytes = placed_bytes s 0 _ (marks_bytes (at_place s ps) 0 (s.n + check_count s))

  pub marked_different : Sizes s → Different (marked s ps)
  unfolding marked
  marked_different z = placed_different s 0 _ z (omega (arith, marks_length (at_place s ps) 0 (s.n + check_count s)))

  pub marked_zero : AllZero (weighed (eval ps) (marked s ps))
  unfolding marked
  marked_zero = marks_zero s ps 0 (s.n + check_count s)

  pub marked_count : nonzero (marked s ps) ≡ roots_below (at_place s ps) (s.n + check_count s)
  unfolding marked roots_below
  marked_count =
      placed_nonzero s 0 _
      ∙ (let e : 0 + (s.n + check_count s) ≡ s.n + check_count s = omega arith in
      omega (arith, marks_count (at_place s ps) 0 (s.n + check_count s), ap (roots_below (at_place s ps)) e))

  -- no more than the degree
  pub few_marked : (n : ℕ) → Sizes s → Monic n ps → roots_below (at_place s ps) (s.n + check_count s) ≤ n
  few_marked n z m = omega (arith, marked_count, few_roots (marked s ps) marked_bytes (marked_different z) n ps m marked_zero)

-- places that are zero but at roots: no more are not zero than there are roots
pub nonzero_le_roots :
    (v : ℕ → ℕ) (qs : List Place) (j : ℕ) (p : Place) → ((i : ℕ) → i < length qs → ((get_or qs i p).y ≡ 0 → ⊥) → v (j + i) ≡ 0) →
    nonzero qs + roots_below v j ≤ roots_below v (j + length qs)
unfolding nonzero
nonzero_le_roots v [] j p h = rw (let e : j + 0 ≡ j = omega arith in e) (omega arith)
nonzero_le_roots v (q ∷ qs) j p h =
    rw (let e : j + suc (length qs) ≡ suc j + length qs = omega arith in e)
    (omega (
      arith,
      go (ℕ_discrete q.y 0),
      nonzero_le_roots v qs (suc j) p (λ i l n. ap v (let e : suc j + i ≡ j + suc i = omega arith in e) ∙ h (suc i) (omega arith) n),
    ))
  where
    go : Dec (q.y ≡ 0) → cond (eqb q.y 0) 0 1 + roots_below v j ≤ roots_below v (suc j)
    go (yes e) = rw (eq-eqb q.y 0 e) (omega (arith, roots_below_mono v j (suc j) (omega arith)))
    go (no e) =
        rw (ne_eqb q.y 0 e)
        (omega (arith, roots_below_root v j (ap v (let q : j ≡ j + 0 = omega arith in q) ∙ h 0 (omega arith) e)))
