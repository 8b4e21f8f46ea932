-- What the steps of a closing compute. Assumes nothing: these are definitions.
use Rattle.std.specs.Prelude.{◌≡◌, cond, List, ℕ, eqb}
use Rattle.arrays.specs.Array.{in_front}
use Rattle.grading.specs.Value.{Vector, Rows}
use Rattle.record.specs.Record.{Rec}
use Rattle.rounds.specs.Exchange.{Table, Closed}
use Rattle.record.specs.View.{view}
use Rattle.record.specs.Stored.{found_now, one_on}
use Rattle.record.specs.declared.Findings.{Findings}
use Rattle.record.specs.declared.Column.{Column}

-- the array of the vector whose checks go round: V's in round two, Y's in round three
unfoldable pub checked_in : (round : ℕ) → Findings → List ℕ
checked_in m f = cond (eqb m 2) f.heard f.agreed

-- a table of rounds two and three, where what it tells goes to the front of an array
unfoldable pub TableTold : Rec → (vs : Vector) → Rows → (array array_now : List ℕ) → Type 0
TableTold r vs rows old now = (told : List ℕ) × Table r vs rows told × (now ≡ in_front told old)

-- what a column has found when its round is closed
pub record Finds (c : Column) (f : Findings) : Type 0 where
  pub reads : Closed c.round (view c) (view (one_on c f))
  pub bytes : f ≡ found_now c.round c.found (view (one_on c f)).found
