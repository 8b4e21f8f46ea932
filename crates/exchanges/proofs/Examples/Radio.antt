-- Exchanges with heights of four bytes, in which column 4 does what a good column does, but its radio reaches only some: in rounds one and
-- three columns 1 and 2, in round two column 2. It stands as high as these two, and column 3 somewhere else. So columns 1 and 2 end with its
-- height at confidence 1, and column 3 with none. Assumes nothing: these are definitions.
use mathlib.Core.Bool.{Bool, true, cond, not, ◌&&◌, ◌||◌}
use mathlib.Core.List.{List, [], ◌∷◌, ◌++◌}
use mathlib.Core.Option.{none, some}
use Prim.Native.Nat.{ℕ}
use lib.Dec.{eqb}
use lib.ListN.{replicate}
use Rattle.code.specs.Settings.{Settings}
use Rattle.grading.specs.Value.{Value, Vector, blank}
use Rattle.grading.specs.Held.{Held, held_as}
use Rattle.record.specs.Frame.{header}
use Rattle.record.specs.Record.{Found, found_as, told_missing}
use Rattle.column.specs.Call.{Call, taking, closing}
use Rattle.exchanges.proofs.Testing.Conditions.{Script}
use Rattle.exchanges.proofs.Examples.Exchange.{pick}
use Rattle.exchanges.proofs.Building.Tested.{Outcome}

-- n = 4, t = 1, w = 4
abbrev pub four_bytes : Settings
four_bytes = record { n = 4; t = 1; w = 4 }

-- the height of columns 1, 2 and 4, that of column 3, and the checks of all four, with column 4's height and with a blank for it
pub record Heights : Type 0 where
  pub most : Value
  pub third : Value
  pub whole_checks : List ℕ
  pub blank_checks : List ℕ

-- −2^31 and 2^31 − 1, the two ends of 32 bits
unfoldable pub both_ends : Heights
both_ends =
    record {
      most = 127 ∷ 255 ∷ 255 ∷ 255 ∷ [];
      third = 128 ∷ 0 ∷ 0 ∷ 0 ∷ [];
      whole_checks = 185 ∷ 73 ∷ 73 ∷ 73 ∷ 249 ∷ 59 ∷ 59 ∷ 59 ∷ [];
      blank_checks = 57 ∷ 110 ∷ 110 ∷ 110 ∷ 103 ∷ 250 ∷ 250 ∷ 250 ∷ [];
    }

-- 1001 and 999, two tenths of a millimetre apart
unfoldable pub two_tenths : Heights
two_tenths =
    record {
      most = 0 ∷ 0 ∷ 3 ∷ 233 ∷ [];
      third = 0 ∷ 0 ∷ 3 ∷ 231 ∷ [];
      whole_checks = 0 ∷ 0 ∷ 83 ∷ 185 ∷ 0 ∷ 0 ∷ 44 ∷ 80 ∷ [];
      blank_checks = 0 ∷ 0 ∷ 52 ∷ 116 ∷ 0 ∷ 0 ∷ 162 ∷ 49 ∷ [];
    }

-- 1001 and 1000, one tenth apart
unfoldable pub a_tenth : Heights
a_tenth =
    record {
      most = 0 ∷ 0 ∷ 3 ∷ 233 ∷ [];
      third = 0 ∷ 0 ∷ 3 ∷ 232 ∷ [];
      whole_checks = 0 ∷ 0 ∷ 83 ∷ 22 ∷ 0 ∷ 0 ∷ 44 ∷ 130 ∷ [];
      blank_checks = 0 ∷ 0 ∷ 52 ∷ 219 ∷ 0 ∷ 0 ∷ 162 ∷ 227 ∷ [];
    }

-- whether column 4's frame of a round reaches a column; whether its height is in a column's V, and in its Y
unfoldable pub reaches : (round reader : ℕ) → Bool
reaches m k = not (eqb k 3) && (not (eqb m 2) || eqb k 2)

unfoldable pub hears : ℕ → Bool
hears k = not (eqb k 3)

unfoldable pub agrees : ℕ → Bool
agrees k = eqb k 2 || eqb k 4

module _ (e : Heights) where
  unfoldable pub height_at : ℕ → Value
  height_at k = cond (eqb k 3) e.third e.most

  -- all four heights, with column 4's or a blank for it, and their checks
  unfoldable pub four_heights : (with_four : Bool) → Vector
  four_heights b = e.most ∷ e.most ∷ e.third ∷ cond b e.most (blank four_bytes) ∷ []

  unfoldable pub four_checks : (with_four : Bool) → List ℕ
  four_checks b = cond b e.whole_checks e.blank_checks

  -- a column's frame of a round, in run 7
  unfoldable pub radio_sent : (round sender : ℕ) → List ℕ
  radio_sent m k = header m k 7 ++ pick m (height_at k) (four_checks (hears k)) (four_checks (agrees k))

  -- a column takes the frames of the two other good ones, and column 4's where it is reached
  unfoldable pub radio_round : (round reader a b : ℕ) → List Call → List Call
  radio_round m k a b rest =
      taking a (radio_sent m a) ∷ taking b (radio_sent m b) ∷ cond (reaches m k) (taking 4 (radio_sent m 4) ∷ closing ∷ rest) (closing ∷ rest)

  unfoldable pub radio_script : (reader a b : ℕ) → Script
  radio_script k a b =
      record {
        number = k;
        own = height_at k;
        calls = radio_round 1 k a b (radio_round 2 k a b (radio_round 3 k a b []));
        claims = λ m j. cond (eqb j 4 && not (reaches m k)) none (some (four_heights (cond (eqb m 2) (hears j) (agrees j))));
        frames = λ m. radio_sent m k;
      }

  unfoldable pub radio_scripts : List Script
  radio_scripts = radio_script 1 2 3 ∷ radio_script 2 1 3 ∷ radio_script 3 1 2 ∷ []

  -- what a column holds in the end, and all that it has found
  unfoldable pub radio_held : ℕ → List Held
  radio_held k =
      held_as e.most 2 ∷ held_as e.most 2 ∷ held_as e.third 2 ∷ cond (eqb k 3) (held_as (blank four_bytes) 0) (held_as e.most 1) ∷ []

  unfoldable pub radio_found : ℕ → (two three : List ℕ) → Found
  radio_found k two three = found_as (four_heights (hears k)) (four_heights (agrees k)) (radio_held k) two three

  unfoldable pub radio_outcome : Outcome
  radio_outcome =
      record {
        conditions = true;
        bytes = true;
        finished = true;
        found =
            radio_found 1 (0 ∷ 0 ∷ 1 ∷ told_missing ∷ []) (0 ∷ 1 ∷ 0 ∷ 1 ∷ [])
            ∷ radio_found 2 (0 ∷ 0 ∷ 1 ∷ 0 ∷ []) (1 ∷ 0 ∷ 1 ∷ 0 ∷ [])
            ∷ radio_found 3 (1 ∷ 1 ∷ 0 ∷ told_missing ∷ []) (0 ∷ 1 ∷ 0 ∷ told_missing ∷ [])
            ∷ [];
        refused = replicate 4 0 ∷ replicate 4 0 ∷ replicate 4 0 ∷ [];
        answered = replicate 11 0 ∷ replicate 12 0 ∷ replicate 9 0 ∷ [];
      }
