-- The largest of the planes' numbers, number by number; and as many coefficients as the longest polynomial has, of which the first are a
-- plane's own and the others zeros. Assumes nothing.
use mathlib.Core.Path.{◌≡◌, sym, ◌∙◌}
use mathlib.Core.List.{List}
use Prim.Native.Nat.{ℕ, ◌+◌, ◌≤◌, ◌<◌}
use native.Mathlib.Omega.{arith}
use native.Mathlib.Decide.{dec_lt}
use lib.ListN.{length, get_or, get_or-eq_default}
use Rattle.lanes.specs.Lanes.{lane}
use Rattle.lanes.proofs.Lane.{lane_length, lane_at}
use Rattle.code.specs.Size.{value_room}
use Rattle.errors.specs.Roots.{Longest, Fits, polynomial}

-- behind the planes there are no numbers
pub all_numbers : (numbers : List ℕ) (most : ℕ) → length numbers ≡ value_room → ((p : ℕ) → p < value_room → get_or numbers p 0 ≤ most) → (p : ℕ) → get_or numbers p 0 ≤ most
all_numbers numbers most e h p = go (dec_lt p value_room)
  where
    go : Dec (p < value_room) → get_or numbers p 0 ≤ most
    go (yes l) = h p l
    go (no l) = let z : get_or numbers p 0 ≡ 0 = get_or-eq_default numbers 0 (omega arith) in omega arith

-- of the first numbers none is above the largest, and it is no larger than it must be
pub record LongestTo (p : ℕ) (numbers : List ℕ) (most : ℕ) : Type 0 where
  pub above : (q : ℕ) → q < p → get_or numbers q 0 ≤ most
  pub least : (k : ℕ) → ((q : ℕ) → get_or numbers q 0 ≤ k) → most ≤ k

-- as many coefficients as the longest polynomial has are a plane's own, and zeros behind them
pub same_coefficients :
    (most t : ℕ) (rows roots : List ℕ) → Fits t rows roots → Longest roots most → (p : ℕ) → p < value_room →
    (i : ℕ) → get_or (lane p (most + 1) rows) i 0 ≡ get_or (polynomial rows roots p) i 0
same_coefficients most t rows roots f m p h i = go (dec_lt i (most + 1)) (dec_lt i (get_or roots p 0 + 1))
  where
    go : Dec (i < most + 1) → Dec (i < get_or roots p 0 + 1) → get_or (lane p (most + 1) rows) i 0 ≡ get_or (polynomial rows roots p) i 0
    go (yes a) (yes b) = lane_at p (most + 1) rows i a ∙ sym (lane_at p _ rows i b)
    go (yes a) (no b) =
        lane_at p (most + 1) rows i a ∙ f.past p i h (omega arith) ∙ sym (get_or-eq_default (polynomial rows roots p) 0 (omega (arith, lane_length p (get_or roots p 0 + 1) rows)))
    go (no a) (yes b) = absurd (omega (arith, m.above p))
    go (no a) (no b) =
        get_or-eq_default (lane p (most + 1) rows) 0 (omega (arith, lane_length p (most + 1) rows))
        ∙ sym (get_or-eq_default (polynomial rows roots p) 0 (omega (arith, lane_length p (get_or roots p 0 + 1) rows)))
