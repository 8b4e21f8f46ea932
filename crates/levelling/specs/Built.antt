-- Levelling of the calls as built: what `level` answers to good columns that have finished an exchange, and heights that are moved to what it
-- answered. Assumes nothing: these are definitions.
use Rattle.std.specs.Prelude.{◌≡◌, true, List, map, ℕ, suc, ◌*◌, ◌^◌, ◌<◌, ℤ, pos, ◌≤ℤ◌}
use Rattle.code.specs.Settings.{Settings}
use Rattle.code.specs.Plane.{byte_list}
use Rattle.gradecast.specs.Promise.{Among}
use Rattle.gradecast.specs.Built.{Built, BuiltConditions}
use Rattle.level.specs.Level.{height}
use Rattle.level.specs.Entry.{LevelSays}
use Rattle.level.specs.declared.answer.Level.{Level}
use Rattle.levelling.specs.Spread.{spread}
use Rattle.levelling.specs.Promise.{Between, Together, StayInside, ComeNear}

-- the own heights of good columns, finished or not
unfoldable pub own_heights : List Built → List ℤ
own_heights bs = map (λ b. height b.own) bs

-- what `level` answers to a column's last record
abbrev pub LevelAnswers : Built → Level → Type 0
LevelAnswers b p = LevelSays b.last p.answer p.level p.correction

-- Ask 4 of the calls as built: under the conditions of demand 3 and with w = 4, `level` refuses none of two good columns that have finished;
-- both levels are between the lowest and the highest good height, and differ by at most half of the spread of these, rounded up. Two may
-- also be one and the same
unfoldable pub BuiltLevelling : Type 0
BuiltLevelling =
    (s : Settings) (run : ℕ) (bs : List Built) (g h : Built) → BuiltConditions s run bs → s.w ≡ 4 → Among g bs → Among h bs →
    g.last.round ≡ 4 → h.last.round ≡ 4 → (p q : Level) → LevelAnswers g p → LevelAnswers h q →
    (p.answer ≡ 0) × (q.answer ≡ 0) × Together (own_heights bs) p.level q.level

-- a height is a level that a good column, having finished, was answered
pub record AtLevel (bs : List Built) (z : ℤ) : Type 0 where
  pub column : Built
  pub good : Among column bs
  pub finished : column.last.round ≡ 4
  pub answer : Level
  pub says : LevelAnswers column answer
  pub moved : z ≡ answer.level

-- an exchange under those conditions, and the good columns of the next one, each opened at one of its levels
pub record Moved (s : Settings) (run : ℕ) (old new : List Built) : Type 0 where
  pub conditions : BuiltConditions s run old
  pub four : s.w ≡ 4
  pub at_level : (b : Built) → Among b new → AtLevel old (height b.own)

-- k exchanges, one after the other, each of columns that have so moved
abbrev pub BuiltRepeated : (k : ℕ) (s : ℕ → Settings) (run : ℕ → ℕ) (bs : ℕ → List Built) → Type 0
BuiltRepeated k s run bs = (j : ℕ) → j < k → Moved (s j) (run j) (bs j) (bs (suc j))

-- heights so moved are as the two promises have it
unfoldable pub BuiltLevelled : Type 0
BuiltLevelled =
    (s : Settings) (run : ℕ) (old new : List Built) → Moved s run old new →
    StayInside (own_heights old) (own_heights new) × ComeNear (own_heights old) (own_heights new)

-- fitters repeat the exchange: after k of them a spread of at most 2^k·m is at most m, and so any spread that has k bits is at most 1
unfoldable pub BuiltLevelsOut : Type 0
BuiltLevelsOut =
    (k m : ℕ) (s : ℕ → Settings) (run : ℕ → ℕ) (bs : ℕ → List Built) → BuiltRepeated k s run bs →
    spread (own_heights (bs 0)) ≤ℤ pos (2 ^ k * m) → spread (own_heights (bs k)) ≤ℤ pos m

-- where the first own values are bytes, 32 exchanges are enough, whatever their heights are
unfoldable pub BuiltShortLevelsOut : Type 0
BuiltShortLevelsOut =
    (s : ℕ → Settings) (run : ℕ → ℕ) (bs : ℕ → List Built) → ((b : Built) → Among b (bs 0) → byte_list b.own ≡ true) →
    BuiltRepeated 32 s run bs → spread (own_heights (bs 32)) ≤ℤ pos 1

-- and no good column ever leaves what the first heights are between
unfoldable pub BuiltStaysBetween : Type 0
BuiltStaysBetween =
    (k : ℕ) (s : ℕ → Settings) (run : ℕ → ℕ) (bs : ℕ → List Built) → BuiltRepeated k s run bs → (b : Built) → Among b (bs k) →
    Between (own_heights (bs 0)) (height b.own)
