-- Which place a number has among heights that ascend: place i holds at most z where more than i of them are at most z, and at least z where
-- all but i of them are at least z; and of the height at place i itself both counts are as large. Each by induction over the list: what
-- follows a height is at least that height. Assumes nothing.
use mathlib.Core.Path.{◌≡◌, refl}
use mathlib.Core.Bool.{Bool, true, false, cond}
use mathlib.Core.List.{List, [], ◌∷◌}
use Prim.Native.Nat.{ℕ, zero, suc, ◌+◌, ◌≤◌, ◌<◌}
use native.Mathlib.Omega.{arith}
use lib.IntN.{ℤ, pos}
use lib.ListN.{length, get_or}
use lib.Signed.{◌≤ℤ◌, le_z, le_z_yes, ≤ℤ_refl}
use Rattle.level.specs.Promise.{AtMost, Ascends, total}
use Rattle.levelling.proofs.Whole.{order_parts, ≤ℤ_trans, test_false}

-- 1 for a number that is at most z; 1 for one that is at least z
unfoldable pub up_to : ℤ → ℤ → ℕ
up_to z x = cond (le_z x z) 1 0

unfoldable pub from_on : ℤ → ℤ → ℕ
from_on z x = cond (le_z z x) 1 0

module _ {x z : ℤ} where
  pub to_yes : x ≤ℤ z → up_to z x ≡ 1
  unfolding up_to
  to_yes h = go (le_z x z) refl
    where
      go : (t : Bool) → le_z x z ≡ t → ◌≡◌ {A = ℕ} (cond t 1 0) 1
      go true e = refl
      go false e = absurd (omega (arith, order_parts h, test_false x z e))

  pub to_back : 0 < up_to z x → x ≤ℤ z
  unfolding up_to
  to_back h = go (le_z x z) refl h
    where
      go : (t : Bool) → le_z x z ≡ t → 0 < cond t 1 0 → x ≤ℤ z
      go true e l = le_z_yes (rw e tt)
      go false e l = absurd (omega arith)

pub from_to : (z x : ℤ) → from_on z x ≡ up_to x z
unfolding from_on up_to
from_to z x = refl

to_few : (z x : ℤ) → up_to z x ≤ 1
unfolding up_to
to_few z x = go (le_z x z)
  where
    go : (t : Bool) → cond t 1 0 ≤ 1
    go true = omega arith
    go false = omega arith

-- what stands behind a height
at_most_at : (z : ℤ) (xs : List ℤ) (i : ℕ) → AtMost z xs → i < length xs → z ≤ℤ get_or xs i (pos 0)
unfolding AtMost
at_most_at z [] i m h = absurd (omega arith)
at_most_at z (x ∷ xs) zero m h = m.0
at_most_at z (x ∷ xs) (suc i) m h = at_most_at z xs i m.1 (omega arith)

all_from : (z x : ℤ) (xs : List ℤ) → z ≤ℤ x → AtMost x xs → total (from_on z) xs ≡ length xs
unfolding total AtMost
all_from z x [] h m = refl
all_from z x (y ∷ ys) h m = omega (arith, from_to z y, to_yes (≤ℤ_trans h m.0), all_from z x ys h m.1)

from_length : (z : ℤ) (xs : List ℤ) → total (from_on z) xs ≤ length xs
unfolding total
from_length z [] = omega arith
from_length z (x ∷ xs) = omega (arith, from_to z x, to_few x z, from_length z xs)

-- one of those at most z is at least the first
first_to : (z x : ℤ) (xs : List ℤ) → AtMost x xs → 0 < total (up_to z) xs → x ≤ℤ z
unfolding total AtMost
first_to z x [] m h = absurd (omega arith)
first_to z x (y ∷ ys) m h = go (up_to z y) refl (first_to z x ys m.1)
  where
    go : (k : ℕ) → up_to z y ≡ k → (0 < total (up_to z) ys → x ≤ℤ z) → x ≤ℤ z
    go zero e c = c (omega arith)
    go (suc k) e c = ≤ℤ_trans m.0 (to_back (omega arith))

-- a place by how many are on either side of z
pub place_to : (z : ℤ) (xs : List ℤ) (i : ℕ) → Ascends xs → i < total (up_to z) xs → get_or xs i (pos 0) ≤ℤ z
unfolding total Ascends
place_to z [] i s h = absurd (omega arith)
place_to z (x ∷ xs) zero s h = go (up_to z x) refl
  where
    go : (k : ℕ) → up_to z x ≡ k → x ≤ℤ z
    go zero e = first_to z x xs s.0 (omega arith)
    go (suc k) e = to_back (omega arith)
place_to z (x ∷ xs) (suc i) s h = place_to z xs i s.1 (omega (arith, to_few z x))

pub place_from : (z : ℤ) (xs : List ℤ) (i : ℕ) → Ascends xs → i < length xs → length xs ≤ i + total (from_on z) xs → z ≤ℤ get_or xs i (pos 0)
unfolding total Ascends
place_from z [] i s l h = absurd (omega arith)
place_from z (x ∷ xs) zero s l h = to_back (omega (arith, from_to z x, from_length z xs))
place_from z (x ∷ xs) (suc i) s l h = go (from_on z x) refl (place_from z xs i s.1 (omega arith))
  where
    go : (k : ℕ) → from_on z x ≡ k → (length xs ≤ i + total (from_on z) xs → z ≤ℤ get_or xs i (pos 0)) → z ≤ℤ get_or xs i (pos 0)
    go zero e c = c (omega arith)
    go (suc k) e c = c (omega (arith, all_from z x xs (to_back (omega (arith, from_to z x))) s.0))

-- how many are on either side of a place
pub to_place : (xs : List ℤ) (i : ℕ) → Ascends xs → i < length xs → i < total (up_to (get_or xs i (pos 0))) xs
unfolding total Ascends
to_place [] i s h = absurd (omega arith)
to_place (x ∷ xs) zero s h = omega (arith, to_yes (≤ℤ_refl x))
to_place (x ∷ xs) (suc i) s h = omega (arith, to_yes (at_most_at x xs i s.0 (omega arith)), to_place xs i s.1 (omega arith))

pub from_place : (xs : List ℤ) (i : ℕ) → Ascends xs → i < length xs → length xs ≤ i + total (from_on (get_or xs i (pos 0))) xs
unfolding total Ascends
from_place [] i s h = absurd (omega arith)
from_place (x ∷ xs) zero s h = omega (arith, from_to x x, to_yes (≤ℤ_refl x), all_from x x xs (≤ℤ_refl x) s.0)
from_place (x ∷ xs) (suc i) s h = omega (arith, from_place xs i s.1 (omega arith))
