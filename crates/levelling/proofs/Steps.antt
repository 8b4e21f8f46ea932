-- Exchange after exchange. A step halves the spread, rounded up, since the lowest and the highest of the new heights are two of them; and
-- what is at most 2p is at most p after one. No new height is outside the old ones. Assumes nothing.
use mathlib.Core.Path.{◌≡◌, ◌∙◌, ap}
use mathlib.Core.List.{List}
use Prim.Native.Nat.{ℕ, zero, suc, ◌*◌, ◌^◌, ◌≤◌, ◌<◌}
use native.Mathlib.Nat.{mul_assoc}
use native.Mathlib.Omega.{arith}
use lib.IntN.{ℤ, pos, negsuc, ◌-ℤ◌}
use lib.ListN.{length}
use lib.Signed.{◌≤ℤ◌}
use Rattle.gradecast.specs.Promise.{Among}
use Rattle.level.specs.Level.{Short}
use Rattle.levelling.specs.Spread.{lowest, highest, spread}
use Rattle.levelling.specs.Promise.{Between, StayInside, LowestHighest, Halves, LevelsOut, ShortLevelsOut, StaysBetween}
use Rattle.levelling.proofs.Whole.{above, below, above_pos, below_pos, parts_order, ≤ℤ_trans, difference_parts}
use Rattle.levelling.proofs.Ends.{lowest_highest, among_some, spread_natural, spread_under}
use Rattle.levelling.proofs.Half.{half_up_natural, half_up_at_most}

pub halves : Halves
unfolding Halves
halves old new near = spread_under new _ (half_up_natural _ (spread_natural old)) (λ y z i j. (near y z i j).0)

pub levels_out : LevelsOut
unfolding LevelsOut Halves
levels_out zero m heights near h = rw (let e : 2 ^ 0 * m ≡ m = omega arith in e) at h
levels_out (suc k) m heights near h =
    let double : 2 ^ suc k ≡ 2 * 2 ^ k = omega arith in
    let e : 2 ^ suc k * m ≡ 2 * (2 ^ k * m) = ap (λ (p : ℕ). p * m) double ∙ mul_assoc 2 (2 ^ k) m in
    levels_out k m (λ j. heights (suc j)) (λ j i. near (suc j) (omega arith))
    (≤ℤ_trans (halves (heights 0) (heights 1) (near 0 (omega arith))) (half_up_at_most (2 ^ k * m) (spread (heights 0)) (rw e at h)))

-- heights of 32 bits
short_parts : (z : ℤ) → Short z → (above z ≤ 2147483648) × (below z ≤ 2147483648)
unfolding above below
short_parts (pos a) h = omega arith
short_parts (negsuc a) h = omega arith

pub short_levels_out : ShortLevelsOut
unfolding ShortLevelsOut LevelsOut
short_levels_out heights short near = levels_out _ 1 heights near spread_short
  where
    literals : (above (pos 0) ≡ 0) × (below (pos 0) ≡ 0) × (above (pos 4294967296) ≡ 4294967296) × (below (pos 4294967296) ≡ 0)
    literals = (above_pos 0, below_pos 0, above_pos 4294967296, below_pos 4294967296)

    apart : (y z : ℤ) → Among y (heights 0) → Among z (heights 0) → (y -ℤ z) ≤ℤ pos 4294967296
    apart y z i j =
        parts_order (y -ℤ z) (pos 4294967296)
        (omega (arith, literals, difference_parts y z, short_parts y (short y i), short_parts z (short z j)))

    spread_short : spread (heights 0) ≤ℤ pos 4294967296
    spread_short = spread_under (heights 0) (pos 4294967296) (parts_order (pos 0) (pos 4294967296) (omega (arith, literals))) apart

-- what is between the lowest and the highest of heights that are themselves inside of others is inside of these
between_next : (old new : List ℤ) (z : ℤ) → 0 < length new → StayInside old new → Between new z → Between old z
unfolding LowestHighest
between_next old new z some inside b =
    let ends = lowest_highest new some in
    (≤ℤ_trans (inside (lowest new) ends.0).0 b.0, ≤ℤ_trans b.1 (inside (highest new) ends.1).1)

pub stays_between : StaysBetween
unfolding StaysBetween LowestHighest
stays_between zero heights inside some z i = (lowest_highest (heights 0) (among_some i)).2 z i
stays_between (suc zero) heights inside some z i = inside 0 (omega arith) z i
stays_between (suc (suc k)) heights inside some z i =
    between_next (heights 0) (heights (suc k)) z (some (suc k) (omega arith) (omega arith))
    (stays_between (suc k) heights (λ j h. inside j (omega arith)) (λ j h m. some j h (omega arith))) (inside (suc k) (omega arith) z i)
