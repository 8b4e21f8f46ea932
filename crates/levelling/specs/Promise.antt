-- What is promised over numbers: of the lowest, the highest and the half, and of heights that come together exchange after exchange, whoever
-- has them. Each statement is a type, and proofs/ has its proof. Assumes nothing.
use Rattle.std.specs.Prelude.{◌≡◌, List, ◌⊎◌, ℕ, suc, ◌*◌, ◌^◌, ◌<◌, ℤ, pos, ◌+ℤ◌, ◌-ℤ◌, length, ◌≤ℤ◌}
use Rattle.gradecast.specs.Promise.{Among}
use Rattle.level.specs.Level.{Short}
use Rattle.levelling.specs.Spread.{lowest, highest, spread, half_up}

-- a height is between the lowest and the highest of heights
abbrev pub Between : List ℤ → ℤ → Type 0
Between hs z = (lowest hs ≤ℤ z) × (z ≤ℤ highest hs)

-- two heights differ by at most so much
abbrev pub DifferBy : (most y z : ℤ) → Type 0
DifferBy most y z = ((y -ℤ z) ≤ℤ most) × ((z -ℤ y) ≤ℤ most)

-- the two promises of Ask 4, of two levels and the good heights: both levels are between the lowest and the highest height, and they differ
-- by at most half of the spread, rounded up
pub record Together (heights : List ℤ) (y z : ℤ) : Type 0 where
  pub between : Between heights y × Between heights z
  pub near : DifferBy (half_up (spread heights)) y z

-- the lowest and the highest of some heights are two of them, and all are between these
unfoldable pub LowestHighest : Type 0
LowestHighest =
    (hs : List ℤ) → 0 < length hs → Among (lowest hs) hs × Among (highest hs) hs × ((z : ℤ) → Among z hs → Between hs z)

-- twice the half of a number, rounded up, is that number, or one more
unfoldable pub HalvedUp : Type 0
HalvedUp = (z : ℤ) → (half_up z +ℤ half_up z ≡ z) ⊎ (half_up z +ℤ half_up z ≡ z +ℤ pos 1)

-- ---- exchange after exchange

-- new heights after old ones, by the two promises: each is between the lowest and the highest old one, and any two differ by at most half of
-- the old spread, rounded up
abbrev pub StayInside : (old new : List ℤ) → Type 0
StayInside old new = (z : ℤ) → Among z new → Between old z

abbrev pub ComeNear : (old new : List ℤ) → Type 0
ComeNear old new = (y z : ℤ) → Among y new → Among z new → DifferBy (half_up (spread old)) y z

-- the heights before the first of k exchanges and after each of them, where each time the new ones are so after the old ones
abbrev pub Repeated : (k : ℕ) (so : (old new : List ℤ) → Type 0) (heights : ℕ → List ℤ) → Type 0
Repeated k so heights = (j : ℕ) → j < k → so (heights j) (heights (suc j))

-- after one exchange the spread is at most half of what it was, rounded up
unfoldable pub Halves : Type 0
Halves = (old new : List ℤ) → ComeNear old new → spread new ≤ℤ half_up (spread old)

-- after k exchanges a spread of at most 2^k·m is at most m: with m = 1, any spread that has k bits is at most 1, and with m = 0, a set that
-- stands level goes on to
unfoldable pub LevelsOut : Type 0
LevelsOut =
    (k m : ℕ) (heights : ℕ → List ℤ) → Repeated k ComeNear heights → spread (heights 0) ≤ℤ pos (2 ^ k * m) → spread (heights k) ≤ℤ pos m

-- and no more can be said: a spread of 2^k·m + 1 may be m + 1 after k exchanges; with m = 0, a spread of one tenth may stay
unfoldable pub NoFewer : Type 0
NoFewer =
    (k m : ℕ) → (heights : ℕ → List ℤ) × Repeated k StayInside heights × Repeated k ComeNear heights × (spread (heights 0) ≡ pos (suc (2 ^ k * m)))
    × (spread (heights k) ≡ pos (suc m))

-- of heights of 32 bits every spread is at most 1 after 32 exchanges
unfoldable pub ShortLevelsOut : Type 0
ShortLevelsOut =
    (heights : ℕ → List ℤ) → ((z : ℤ) → Among z (heights 0) → Short z) → Repeated 32 ComeNear heights → spread (heights 32) ≤ℤ pos 1

-- and 31 are not: there are heights of 32 bits, which the promises hold of each time, whose spread is still 2 then
unfoldable pub ShortNeedsAll : Type 0
ShortNeedsAll =
    (heights : ℕ → List ℤ) × ((z : ℤ) → Among z (heights 0) → Short z) × Repeated 31 StayInside heights × Repeated 31 ComeNear heights
    × (spread (heights 31) ≡ pos 2)

-- no height leaves what the first ones are between, if there are heights after each exchange before the last
unfoldable pub StaysBetween : Type 0
StaysBetween =
    (k : ℕ) (heights : ℕ → List ℤ) → Repeated k StayInside heights → ((j : ℕ) → 0 < j → j < k → 0 < length (heights j)) → (z : ℤ) →
    Among z (heights k) → Between (heights 0) z
