-- What the examples have in common: columns 1, 2 and 3 are good, with the values 241, 86 and 35, and column 4 sends each of them
-- something else, as its value 35, 35 and 40. Assumes nothing: these are definitions.
use mathlib.Core.Bool.{cond}
use mathlib.Core.List.{List, [], ◌∷◌, ◌++◌}
use mathlib.Core.Option.{Option, some}
use Prim.Native.Nat.{ℕ}
use lib.Dec.{eqb}
use Rattle.code.specs.Settings.{Settings}
use Rattle.grading.specs.Value.{Value, Vector}
use Rattle.record.specs.Frame.{header}
use Rattle.column.specs.Call.{Call}
use Rattle.exchanges.proofs.Testing.Conditions.{Script}

-- n = 4, t = 1, w = 1
abbrev pub four : Settings
four = record { n = 4; t = 1; w = 1 }

unfoldable pub vector : (a b c d : ℕ) → Vector
vector a b c d = (a ∷ []) ∷ (b ∷ []) ∷ (c ∷ []) ∷ (d ∷ []) ∷ []

-- the first, the second or the third: by good column, or by round
unfoldable pub pick : {A : Type 0} → ℕ → A → A → A → A
pick k a b c = cond (eqb k 1) a (cond (eqb k 2) b c)

unfoldable pub own_value : ℕ → Value
own_value k = pick k (241 ∷ []) (86 ∷ []) (35 ∷ [])

-- V of each, and its checks
unfoldable pub heard : ℕ → Vector
heard k = pick k (vector 241 86 35 35) (vector 241 86 35 35) (vector 241 86 35 40)

unfoldable pub heard_checks : ℕ → List ℕ
heard_checks k = pick k (39 ∷ 78 ∷ []) (39 ∷ 78 ∷ []) (82 ∷ 30 ∷ [])

-- an exchange: Y of each and its checks; what column 4 sends to each in a round, the row that each makes of it in round two or three, and
-- what that round tells each of all four
pub record Exchange : Type 0 where
  pub agreed : ℕ → Vector
  pub checks : ℕ → List ℕ
  pub bad : (round reader : ℕ) → List ℕ
  pub bad_row : (round reader : ℕ) → Option Vector
  pub told : (round reader : ℕ) → List ℕ

-- a frame of run 7: any, one of a good column, and one of column 4 to a good column
unfoldable pub frame : (round sender : ℕ) → (operand : List ℕ) → List ℕ
frame m k xs = header m k 7 ++ xs

unfoldable pub sent : Exchange → (round sender : ℕ) → List ℕ
sent e m k = frame m k (pick m (own_value k) (heard_checks k) (e.checks k))

unfoldable pub split : Exchange → (round reader : ℕ) → List ℕ
split e m k = frame m 4 (e.bad m k)

-- a good column: the rows of the others are their V and Y
unfoldable pub script : Exchange → ℕ → List Call → Script
script e k cs =
    record {
      number = k;
      own = own_value k;
      calls = cs;
      claims = λ m j. cond (eqb j 4) (e.bad_row m k) (some (cond (eqb m 2) (heard j) (e.agreed j)));
      frames = λ m. sent e m k;
    }
