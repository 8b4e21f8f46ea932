-- The lowest and the highest of heights, and their spread. Every height is between the two, and there is one as low and one as high: the
-- first and the last place in ascending order, by the counts of Rank, which are those of the heights in any order. Assumes nothing.
use mathlib.Core.Path.{◌≡◌, refl, subst}
use mathlib.Core.List.{List, [], ◌∷◌}
use Prim.Native.Nat.{ℕ, zero, suc, ◌-◌, ◌≤◌, ◌<◌}
use native.Mathlib.Omega.{arith}
use lib.IntN.{ℤ, pos, ◌-ℤ◌}
use lib.ListN.{length}
use lib.Signed.{◌≤ℤ◌, ≤ℤ_refl}
use Rattle.level.specs.Level.{ascending}
use Rattle.level.specs.Promise.{Ascends, total, AscendingSorts}
use Rattle.level.proofs.Sorting.{ascending_sorts}
use Rattle.level.proofs.Gathering.{ascending_length}
use Rattle.gradecast.specs.Promise.{Among, first, other}
use Rattle.levelling.specs.Spread.{lowest, highest, spread}
use Rattle.levelling.specs.Promise.{LowestHighest}
use Rattle.levelling.proofs.Whole.{order_parts, parts_order, above_pos, below_pos, ≤ℤ_antisym, difference_parts}
use Rattle.levelling.proofs.Rank.{up_to, from_on, from_to, to_yes, to_back, place_to, place_from, to_place, from_place}

pub ascends : (hs : List ℤ) → Ascends (ascending hs)
unfolding AscendingSorts
ascends hs = (ascending_sorts hs).0

pub totals : (hs : List ℤ) (weight : ℤ → ℕ) → total weight (ascending hs) ≡ total weight hs
unfolding AscendingSorts
totals hs = (ascending_sorts hs).1

-- one of a list and the list's weight
among_total : {z : ℤ} {hs : List ℤ} (weight : ℤ → ℕ) → Among z hs → weight z ≤ total weight hs
unfolding total
among_total weight (first hs) = omega arith
among_total weight (other h hs i) = omega (arith, among_total weight i)

pub among_some : {z : ℤ} {hs : List ℤ} → Among z hs → 0 < length hs
among_some (first hs) = omega arith
among_some (other h hs i) = omega arith

total_among : (weight : ℤ → ℕ) (hs : List ℤ) → 0 < total weight hs → (z : ℤ) × Among z hs × (0 < weight z)
unfolding total
total_among weight [] h = absurd (omega arith)
total_among weight (x ∷ hs) h = go (weight x) refl (total_among weight hs)
  where
    go :
        (k : ℕ) → weight x ≡ k → (0 < total weight hs → (z : ℤ) × Among z hs × (0 < weight z)) →
        (z : ℤ) × Among z (x ∷ hs) × (0 < weight z)
    go zero e c = let r = c (omega arith) in (r.0, other x hs r.1, r.2)
    go (suc k) e c = (x, first hs, omega arith)

-- every height is between the two
pub lowest_under : {z : ℤ} {hs : List ℤ} → Among z hs → lowest hs ≤ℤ z
unfolding lowest
lowest_under {z} {hs} i =
    place_to z (ascending hs) _ (ascends hs) (omega (arith, totals hs (up_to z), among_total (up_to z) i, to_yes (≤ℤ_refl z)))

pub highest_over : {z : ℤ} {hs : List ℤ} → Among z hs → z ≤ℤ highest hs
unfolding highest
highest_over {z} {hs} i =
    place_from z (ascending hs) _ (ascends hs) (omega (arith, ascending_length hs, among_some i))
    (omega (arith, ascending_length hs, totals hs (from_on z), among_total (from_on z) i, from_to z z, to_yes (≤ℤ_refl z)))

-- one as low as the lowest, and one as high as the highest
one_lowest : (hs : List ℤ) → 0 < length hs → (z : ℤ) × Among z hs × (z ≤ℤ lowest hs)
unfolding lowest
one_lowest hs h =
    let r = total_among (up_to (lowest hs)) hs (omega (arith, totals hs (up_to (lowest hs)), to_place (ascending hs) 0 (ascends hs) (omega (arith, ascending_length hs)))) in
    (r.0, r.1, to_back r.2)

one_highest : (hs : List ℤ) → 0 < length hs → (z : ℤ) × Among z hs × (highest hs ≤ℤ z)
unfolding highest
one_highest hs h =
    let r =
    total_among (from_on (highest hs)) hs
    (omega (
      arith,
      totals hs (from_on (highest hs)),
      ascending_length hs,
      from_place (ascending hs) (length hs - 1) (ascends hs) (omega (arith, ascending_length hs)),
    )) in
    (r.0, r.1, to_back (omega (arith, from_to (highest hs) r.0, r.2)))

pub lowest_highest : LowestHighest
unfolding LowestHighest
lowest_highest hs some =
    let low = one_lowest hs some in
    let high = one_highest hs some in (
      subst (λ (z : ℤ). Among z hs) (≤ℤ_antisym low.2 (lowest_under low.1)) low.1,
      subst (λ (z : ℤ). Among z hs) (≤ℤ_antisym (highest_over high.1) high.2) high.1,
      λ z i. (lowest_under i, highest_over i),
    )

-- a spread is never below zero, and at most what any two are apart at most
pub spread_natural : (hs : List ℤ) → pos 0 ≤ℤ spread hs
unfolding spread lowest highest ascending
spread_natural [] = ≤ℤ_refl (pos 0)
spread_natural (h ∷ hs) = between (lowest_under (first hs)) (highest_over (first hs))
  where
    between : {low high : ℤ} → low ≤ℤ h → h ≤ℤ high → pos 0 ≤ℤ (high -ℤ low)
    between {low} {high} a b = parts_order (pos 0) _ (omega (arith, order_parts a, order_parts b, difference_parts high low, above_pos 0, below_pos 0))

pub spread_under : (hs : List ℤ) (d : ℤ) → pos 0 ≤ℤ d → ((y z : ℤ) → Among y hs → Among z hs → (y -ℤ z) ≤ℤ d) → spread hs ≤ℤ d
unfolding spread lowest highest ascending LowestHighest
spread_under [] d natural near = natural
spread_under (h ∷ hs) d natural near = let ends = lowest_highest (h ∷ hs) (omega arith) in near _ _ ends.1 ends.0
