-- The conditions can be met, and the bound is: four columns as built of which the last one's radio reaches only some. Columns 1 and 2 hold
-- its height at confidence 1 and drop one at either end, column 3 holds nothing of it and drops none. At both ends of 32 bits their levels are
-- 2^31 − 1 and −1, and 2^31 apart, half of the spread of 2^32 − 1, rounded up. Where column 3 stands two tenths below the others, it levels
-- one tenth below; there all level where they stand, so that a spread of a tenth stays, exchange after exchange. Assumes nothing.
use mathlib.Core.Path.{◌≡◌, refl, sym, ◌∙◌, ap, subst}
use mathlib.Core.Bool.{true}
use mathlib.Core.List.{List, [], ◌∷◌, map, map-map}
use Prim.Native.Nat.{ℕ, zero, suc, ◌*◌, ◌^◌, ◌≤◌}
use native.Mathlib.Omega.{arith}
use lib.Dec.{le→leb}
use lib.IntN.{ℤ, pos, negsuc, ◌-ℤ◌}
use lib.ListN.{get_or}
use lib.Pow.{pow_pos}
use lib.Signed.{◌≤ℤ◌}
use Rattle.grading.specs.Held.{Held, held_as}
use Rattle.grading.specs.Value.{blank}
use Rattle.code.specs.Settings.{value_size}
use Rattle.code.specs.Plane.{byte_list}
use Rattle.record.specs.Record.{Found, found_as, nothing_found}
use Rattle.gradecast.specs.Promise.{Good, Among, first, other}
use Rattle.gradecast.specs.Built.{Built, BuiltConditions, defined}
use Rattle.gradecast.proofs.Goods.{among_map}
use Rattle.exchanges.proofs.Testing.Conditions.{good}
use Rattle.exchanges.proofs.Building.Tested.{goods, tested_columns, tested_same, tested_conditions, tested_finished, tested_bytes, tested_at}
use Rattle.exchanges.proofs.Examples.Radio.{four_bytes, Heights, both_ends, two_tenths, a_tenth, height_at, radio_script, radio_scripts, radio_held, radio_found, radio_outcome}
use Rattle.exchanges.proofs.Examples.Defined.{RadioMet, both_ends_met, two_tenths_met, a_tenth_met}
use Rattle.level.specs.Level.{bits, signed, height, confident, placed, ascending, blank_columns, dropped, without_ends, left, halved, middle, level_of}
use Rattle.levelling.specs.Spread.{lowest, highest, spread, half_up}
use Rattle.levelling.specs.Promise.{Between, Together}
use Rattle.levelling.specs.Built.{own_heights, AtLevel, Moved, BuiltRepeated, BuiltLevelsOut, BuiltShortLevelsOut, BuiltStaysBetween}
use Rattle.levelling.proofs.Examples.Each.{each_of}
use Rattle.levelling.proofs.Built.{level_answer, levels_together, built_levels_out, built_short_levels_out, built_stays_between}

module _ (e : Heights) (x : RadioMet e) where
  -- the three good columns as built
  unfoldable pub columns : List Built
  columns = tested_columns four_bytes 7 (radio_scripts e) x.meets

  conditions : BuiltConditions four_bytes 7 columns
  unfolding columns
  conditions = tested_conditions four_bytes 7 (radio_scripts e) x.meets

  -- one of them that holds this has the level of it
  stands : (held : List Held) (g : Good) → Among g (goods four_bytes 7 (radio_scripts e)) → g.last.found.held ≡ held → AtLevel columns (level_of four_bytes held)
  unfolding columns defined
  stands held g i h =
      let b = tested_at four_bytes 7 (radio_scripts e) x.meets g i in
      let finished = tested_finished four_bytes 7 (radio_scripts e) x.meets b.0 b.1 in
      let answer = level_answer four_bytes 7 columns conditions b.0 b.1 finished refl in
      record {
        column = b.0;
        good = b.1;
        finished = finished;
        answer = answer.0;
        says = answer.1;
        moved = ap (level_of four_bytes) (sym (ap (λ (a : Good). a.last.found.held) b.2 ∙ h)) ∙ sym answer.2;
      }

  level_one : AtLevel columns (level_of four_bytes (radio_held e 1))
  unfolding goods radio_scripts radio_outcome radio_found found_as
  level_one = stands (radio_held e 1) _ (first _) (ap (λ (fs : List Found). (get_or fs 0 nothing_found).held) x.found)

  level_three : AtLevel columns (level_of four_bytes (radio_held e 3))
  unfolding goods radio_scripts radio_outcome radio_found found_as
  level_three = stands (radio_held e 3) _ (other _ _ (other _ _ (first _))) (ap (λ (fs : List Found). (get_or fs 2 nothing_found).held) x.found)

  -- their own heights
  heights_are : own_heights columns ≡ height e.most ∷ height e.most ∷ height e.third ∷ []
  unfolding columns own_heights goods radio_scripts radio_script height_at good defined
  heights_are =
      sym (map-map _ _ columns) ∙ ap (map (λ g. height g.own)) (tested_same four_bytes 7 (radio_scripts e) x.meets)

-- good columns as built that meet the conditions, and two of their levels, as far apart as the promise allows
pub record BoundReached (bs : List Built) (y z : ℤ) : Type 0 where
  pub conditions : BuiltConditions four_bytes 7 bs
  pub y_level : AtLevel bs y
  pub z_level : AtLevel bs z
  pub together : Together (own_heights bs) y z
  pub apart : (y -ℤ z) ≡ half_up (spread (own_heights bs))

-- at both ends of 32 bits: 2^31 apart, of a spread of 2^32 − 1
pub bound_reached : (bs : List Built) × BoundReached bs (pos 2147483647) (negsuc 0) × (spread (own_heights bs) ≡ pos 4294967295)
unfolding both_ends radio_held held_as blank value_size bits signed height confident placed ascending blank_columns dropped without_ends left halved middle
    level_of lowest highest spread half_up
bound_reached =
    let heights = heights_are both_ends both_ends_met in (
      columns both_ends both_ends_met,
      record {
        conditions = conditions both_ends both_ends_met;
        y_level = level_one both_ends both_ends_met;
        z_level = level_three both_ends both_ends_met;
        together =
            levels_together four_bytes 7 _ _ _ (conditions both_ends both_ends_met) refl (level_one both_ends both_ends_met)
            (level_three both_ends both_ends_met);
        apart = ap (λ (hs : List ℤ). half_up (spread hs)) (sym heights);
      },
      ap spread heights,
    )

-- columns at 1001, 1001 and 999 level at 1001, 1001 and 1000, and there each levels where it stands
level_of_a_tenth : (e : Heights) (x : RadioMet e) → level_of four_bytes (radio_held e 1) ≡ pos 1001 → level_of four_bytes (radio_held e 3) ≡ pos 1000 →
    Moved four_bytes 7 (columns e x) (columns a_tenth a_tenth_met)
unfolding a_tenth own_heights bits signed height
level_of_a_tenth e x high low = record { conditions = conditions e x; four = refl; at_level = at_level }
  where
    at_high : AtLevel (columns e x) (pos 1001)
    at_high = subst (AtLevel (columns e x)) high (level_one e x)

    at_level : (b : Built) → Among b (columns a_tenth a_tenth_met) → AtLevel (columns e x) (height b.own)
    at_level b i =
        each_of (AtLevel (columns e x)) (at_high, (at_high, (subst (AtLevel (columns e x)) low (level_three e x), tt)))
        (rw (heights_are a_tenth a_tenth_met) at (among_map (λ b. height b.own) i))

-- the columns before the first exchange, and after each
unfoldable pub tenths : ℕ → List Built
tenths zero = columns two_tenths two_tenths_met
tenths (suc j) = columns a_tenth a_tenth_met

pub tenths_moved : (k : ℕ) → BuiltRepeated k (λ j. four_bytes) (λ j. 7) tenths
unfolding tenths two_tenths a_tenth radio_held held_as blank value_size bits signed height confident placed ascending blank_columns dropped without_ends
    left halved middle level_of
tenths_moved k zero h = level_of_a_tenth two_tenths two_tenths_met refl refl
tenths_moved k (suc j) h = level_of_a_tenth a_tenth a_tenth_met refl refl

first_bytes : (b : Built) → Among b (tenths 0) → byte_list b.own ≡ true
unfolding tenths columns
first_bytes = tested_bytes four_bytes 7 (radio_scripts two_tenths) two_tenths_met.meets

-- a spread of two tenths is one tenth after one exchange, and one tenth stays, in any number of them
pub tenths_spread : (spread (own_heights (tenths 0)) ≡ pos 2) × ((j : ℕ) → spread (own_heights (tenths (suc j))) ≡ pos 1)
unfolding tenths two_tenths a_tenth bits signed height lowest highest spread ascending placed
tenths_spread = (ap spread (heights_are two_tenths two_tenths_met), λ j. ap spread (heights_are a_tenth a_tenth_met))

pub tenths_as_promised :
    (k : ℕ) → (spread (own_heights (tenths (suc k))) ≤ℤ pos 1) × (spread (own_heights (tenths 32)) ≤ℤ pos 1)
    × ((b : Built) → Among b (tenths k) → Between (own_heights (tenths 0)) (height b.own))
unfolding BuiltLevelsOut BuiltShortLevelsOut BuiltStaysBetween
tenths_as_promised k = (
  built_levels_out (suc k) 1 (λ j. four_bytes) (λ j. 7) tenths (tenths_moved (suc k)) (rw tenths_spread.0 (record { le = le→leb 2 (2 ^ suc k * 1) enough })),
  built_short_levels_out (λ j. four_bytes) (λ j. 7) tenths first_bytes (tenths_moved 32),
  built_stays_between k (λ j. four_bytes) (λ j. 7) tenths (tenths_moved k),
)
  where
    enough : 2 ≤ 2 ^ suc k * 1
    enough = let double : 2 ^ suc k ≡ 2 * 2 ^ k = omega arith in omega (arith, double, pow_pos k)
