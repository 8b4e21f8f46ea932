-- What a good column has left after dropping. Of n columns b are blank, all of them bad, so that at most t−b of the n−b heights held above 0
-- are of bad columns, and the t−b lowest and highest are dropped. The first left is at least the lowest good height, since all but t−b are;
-- the last left is at most the highest. Let mid be the good height at place t, in ascending order: t+1 good heights are at most mid, and t+1
-- at least mid, and all of them are among those held. So the first left is at most mid, and the last at least mid. Assumes nothing.
use mathlib.Core.Path.{◌≡◌, refl, sym, ◌∙◌, ap}
use mathlib.Core.Bool.{true}
use mathlib.Core.List.{List}
use Prim.Native.Nat.{ℕ, ◌+◌, ◌*◌, ◌-◌, ◌≤◌, ◌<◌}
use native.Mathlib.Omega.{arith}
use lib.IntN.{ℤ, pos, ◌+ℤ◌}
use lib.ListN.{length, get_or}
use lib.Seq.{take-length}
use lib.Signed.{◌≤ℤ◌}
use borrow.Author.Tests.{le-ltb}
use Rattle.code.specs.Settings.{Settings}
use Rattle.grading.specs.Value.{Value}
use Rattle.grading.specs.Held.{Held}
use Rattle.grading.specs.Promise.{member, unlisted, Numbered}
use Rattle.grading.proofs.Count.{unlisted_few}
use Rattle.record.proofs.Refusal.{line_passed}
use Rattle.level.specs.Level.{height, confident, ascending, blank_columns, dropped, without_ends, left, halved, middle, level_of, blank_columns_refusal}
use Rattle.level.specs.Promise.{Ascends, total}
use Rattle.level.proofs.Gathering.{ascending_length}
use Rattle.level.proofs.Left.{blank_or_confident}
use Rattle.level.proofs.Remaining.{middle_is}
use Rattle.levelling.proofs.Rank.{up_to, from_on, from_to, to_yes, place_to, place_from, to_place, from_place}
use Rattle.levelling.proofs.Ends.{ascends, totals}
use Rattle.levelling.proofs.Slots.{Shows, heights_in, heights_length, heights_total, heights_held, blank_few}
use Rattle.levelling.proofs.Half.{Halfway}

module _ (s : Settings) (ns : List ℕ) (own : ℕ → Value) where
  -- the good heights, and the one at place t
  unfoldable pub good_heights : List ℤ
  good_heights = heights_in ns own s.n 1

  unfoldable pub mid : ℤ
  mid = get_or (ascending good_heights) s.t (pos 0)

module _ (s : Settings) (ns : List ℕ) (own : ℕ → Value) (numbered : Numbered s ns) where
  goods : List ℤ
  goods = good_heights s ns own

  many_goods : s.n ≤ length goods + s.t
  unfolding goods good_heights
  many_goods =
      omega (arith, heights_length ns own s.n 1, unlisted_few s.n ns numbered.inside numbered.different, numbered.many)

  mid_place : s.t < length (ascending goods)
  mid_place = omega (arith, many_goods, numbered.enough, ascending_length goods)

  goods_to_mid : s.t < total (up_to (mid s ns own)) goods
  unfolding mid goods
  goods_to_mid = omega (arith, totals goods (up_to (mid s ns own)), to_place (ascending goods) s.t (ascends goods) mid_place)

  goods_from_mid : s.t < total (from_on (mid s ns own)) goods
  unfolding mid goods
  goods_from_mid =
      omega (
        arith,
        totals goods (from_on (mid s ns own)),
        from_place (ascending goods) s.t (ascends goods) mid_place,
        ascending_length goods,
        many_goods,
        numbered.enough,
      )

  module _ (hs : List Held) (room : length hs ≡ s.n) (shows : Shows ns own hs 1) where
    held : List ℤ
    held = ascending (confident hs)

    held_ascends : Ascends held
    unfolding held
    held_ascends = ascends (confident hs)

    many_held : blank_columns hs + length held ≡ s.n
    unfolding held
    many_held = omega (arith, ascending_length (confident hs), blank_or_confident hs, room)

    few_blank : blank_columns hs ≤ s.t
    few_blank =
        omega (
          arith,
          blank_few ns own hs 1 shows,
          ap (λ (k : ℕ). unlisted ns k 1) room,
          unlisted_few s.n ns numbered.inside numbered.different,
          numbered.many,
        )

    -- 22 does not apply
    pub not_refused : blank_columns_refusal s hs ≡ 0
    unfolding blank_columns_refusal
    not_refused = line_passed 22 _ (le-ltb s.t (blank_columns hs) few_blank)

    enough_held : 2 * dropped s hs + 1 ≤ length held
    unfolding dropped
    enough_held = omega (arith, many_held, few_blank, numbered.enough)

    -- the first and the last left
    low_place : ℕ
    low_place = dropped s hs

    high_place : ℕ
    high_place = length held - (dropped s hs + 1)

    level_is : level_of s hs ≡ halved (get_or held low_place (pos 0) +ℤ get_or held high_place (pos 0))
    unfolding level_of left held low_place high_place
    level_is =
        sym
        (middle_is (dropped s hs) (length held) held (omega arith) enough_held low_place high_place refl (omega (arith, enough_held))
        ∙ ap (λ (zs : List ℤ). middle (without_ends (dropped s hs) zs)) (take-length held))

    -- a weight of the good heights is among those held
    weighed : (weight : ℤ → ℕ) → total weight goods ≤ total weight held
    unfolding goods good_heights held
    weighed weight =
        omega (
          arith,
          heights_held ns own weight hs 1 shows,
          totals (confident hs) weight,
          ap (λ (k : ℕ). total weight (heights_in ns own k 1)) room,
        )

    all_weighed : (weight : ℤ → ℕ) → ((m : ℕ) → member m ns ≡ true → weight (height (own m)) ≡ 1) → s.n ≤ total weight held + s.t
    unfolding goods good_heights
    all_weighed weight h = omega (arith, weighed weight, heights_total ns own weight h s.n 1, many_goods)

    module _
        (low high : ℤ) (above : (m : ℕ) → member m ns ≡ true → low ≤ℤ height (own m)) (below : (m : ℕ) → member m ns ≡ true → height (own m) ≤ℤ high) where
      pub halfway : Halfway low (mid s ns own) high (level_of s hs)
      unfolding low_place high_place dropped
      halfway =
          record {
            first = get_or held low_place (pos 0);
            last = get_or held high_place (pos 0);
            from_low =
                place_from low held low_place held_ascends (omega (arith, enough_held))
                (omega (arith, all_weighed (from_on low) (λ m e. from_to low _ ∙ to_yes (above m e)), many_held, few_blank));
            to_mid = place_to (mid s ns own) held low_place held_ascends (omega (arith, weighed (up_to (mid s ns own)), goods_to_mid));
            from_mid =
                place_from (mid s ns own) held high_place held_ascends (omega (arith, enough_held))
                (omega (arith, weighed (from_on (mid s ns own)), goods_from_mid, enough_held));
            to_high =
                place_to high held high_place held_ascends
                (omega (arith, all_weighed (up_to high) (λ m e. to_yes (below m e)), many_held, few_blank, enough_held));
            half = level_is;
          }
