-- Halves, over numbers alone. A level is half of a first and a last, rounded down, with a number mid between the two and both between low
-- and high: so twice a level is at least low + mid − 1 and at most mid + high. The level is between low and high, and two such levels
-- are at most half of high − low apart, rounded up. Assumes nothing.
use mathlib.Core.Path.{◌≡◌, sym, ◌∙◌, ap}
use mathlib.Core.Logic.{◌⊎◌, inl, inr}
use Prim.Native.Nat.{ℕ, ◌+◌, ◌*◌, ◌≤◌}
use native.Mathlib.Omega.{arith}
use lib.IntN.{ℤ, pos, ◌+ℤ◌, ◌-ℤ◌, +ℤ-neg_ℤ_cancel}
use lib.Signed.{◌≤ℤ◌}
use Rattle.level.specs.Level.{halved}
use Rattle.level.specs.Promise.{HalvedDown}
use Rattle.level.proofs.Sorting.{halved_down}
use Rattle.levelling.specs.Spread.{half_up}
use Rattle.levelling.specs.Promise.{HalvedUp}
use Rattle.levelling.proofs.Whole.{above, below, above_pos, below_pos, order_parts, parts_order, sum_parts, difference_parts, half_parts}

pub record Halfway (low mid high level : ℤ) : Type 0 where
  pub first : ℤ
  pub last : ℤ
  pub from_low : low ≤ℤ first
  pub to_mid : first ≤ℤ mid
  pub from_mid : mid ≤ℤ last
  pub to_high : last ≤ℤ high
  pub half : level ≡ halved (first +ℤ last)

module _ {low mid high level : ℤ} (x : Halfway low mid high level) where
  -- twice the level is at least low + mid − 1 and at most mid + high
  sides :
      (above low + above mid + 2 * below level ≤ 2 * above level + below low + below mid + 1)
      × (2 * above level + below mid + below high ≤ above mid + above high + 2 * below level)
  sides =
      omega (
        arith,
        order_parts x.from_low,
        order_parts x.to_mid,
        order_parts x.from_mid,
        order_parts x.to_high,
        sum_parts x.first x.last,
        half_parts (x.first +ℤ x.last),
        ap above x.half,
        ap below x.half,
      )

  pub halfway_over : low ≤ℤ level
  halfway_over = parts_order low level (omega (arith, sides, order_parts x.from_low, order_parts x.to_mid))

  pub halfway_under : level ≤ℤ high
  halfway_under = parts_order level high (omega (arith, sides, order_parts x.from_mid, order_parts x.to_high))

-- twice the half of a number, rounded up, is at least that number, and at most one more
half_up_parts :
    (z : ℤ) → (above z + 2 * below (half_up z) ≤ 2 * above (half_up z) + below z) × (2 * above (half_up z) + below z ≤ above z + 2 * below (half_up z) + 1)
unfolding half_up
half_up_parts z = omega (arith, half_parts (z +ℤ pos 1), sum_parts z (pos 1), above_pos 1, below_pos 1)

pub halfway_near : {low mid high y z : ℤ} → Halfway low mid high y → Halfway low mid high z → (y -ℤ z) ≤ℤ half_up (high -ℤ low)
halfway_near {low} {mid} {high} {y} {z} g h =
    parts_order (y -ℤ z) (half_up (high -ℤ low))
    (omega (arith, sides g, sides h, half_up_parts (high -ℤ low), difference_parts y z, difference_parts high low))

pub half_up_natural : (z : ℤ) → pos 0 ≤ℤ z → pos 0 ≤ℤ half_up z
half_up_natural z h = parts_order (pos 0) (half_up z) (omega (arith, order_parts h, half_up_parts z, above_pos 0, below_pos 0))

-- what is at most 2p has half, rounded up, at most p
pub half_up_at_most : (p : ℕ) (z : ℤ) → z ≤ℤ pos (2 * p) → half_up z ≤ℤ pos p
half_up_at_most p z h =
    parts_order (half_up z) (pos p)
    (omega (arith, order_parts h, half_up_parts z, above_pos p, below_pos p, above_pos (2 * p), below_pos (2 * p)))

pub halved_up : HalvedUp
unfolding HalvedUp half_up HalvedDown
halved_up z = go (half_up z) (halved_down (z +ℤ pos 1))
  where
    go : (a : ℤ) → (a +ℤ a ≡ z +ℤ pos 1) ⊎ ((a +ℤ a) +ℤ pos 1 ≡ z +ℤ pos 1) → (a +ℤ a ≡ z) ⊎ (a +ℤ a ≡ z +ℤ pos 1)
    go a (inl e) = inr e
    go a (inr e) = inl (sym (+ℤ-neg_ℤ_cancel (a +ℤ a) (pos 1)) ∙ ap (λ (y : ℤ). y -ℤ pos 1) e ∙ +ℤ-neg_ℤ_cancel z (pos 1))
