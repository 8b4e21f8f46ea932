-- One column's exchange: V, and the tables X and Z of rows, over which values are counted. Assumes nothing: these are definitions.
use Rattle.std.specs.Prelude.{◌≡◌, cond, List, [], ◌⊎◌, ℕ, zero, suc, ◌-◌, ◌≤◌, eqb, length, get_or}
use Rattle.std.proofs.Math.Option.{Option, none, some}
use Rattle.code.specs.Settings.{Settings}
use Rattle.code.specs.Repair.{Repaired, changed_places, NoRepair}
use Rattle.grading.specs.Value.{Value, Vector, Rows, blank, blanks, entries}
use Rattle.grading.specs.Count.{agreed_vector, held_list}
use Rattle.record.specs.Frame.{checks_in}
use Rattle.record.specs.Record.{Rec, told_missing, told_none, found_as, counted, next_round}

-- a value taken, or blank for a missing frame
unfoldable pub value_or_blank : Settings → Option (List ℕ) → Value
value_or_blank s none = blank s
value_or_blank s (some v) = v

-- V at a slot: the own value at the own number, elsewhere the value taken, or blank
unfoldable pub heard_at : Rec → (slot : ℕ) → Value
heard_at r k = cond (eqb k r.who.number) r.who.own (value_or_blank r.who.settings (counted r k))

-- V: the own value, the values taken, and blank for each missing column
unfoldable pub heard_vector : Rec → Vector
heard_vector r = entries r.who.settings.n 1 (heard_at r)

-- a sender's row, and what it tells of the sender: the own vector repaired by the checks received, and how many places that changed; a
-- missing frame or "none" gives a row of blanks, and its mark
unfoldable pub Row : Settings → (own : Vector) → (frame : Option (List ℕ)) → (row : Vector) → (told : ℕ) → Type 0
Row s vs none row m = (row ≡ blanks s) × (m ≡ told_missing)
Row s vs (some x) row m =
    ((ds : Vector) × Repaired s vs (checks_in s x) row ds × (m ≡ changed_places vs (checks_in s x) row ds))
    ⊎ (NoRepair s vs (checks_in s x) × (row ≡ blanks s) × (m ≡ told_none))

-- the table X or Z of a column: n rows, its own row is its vector, V or Y; and what each row tells, the own one 0
pub record Table (r : Rec) (vs : Vector) (rows : Rows) (told : List ℕ) : Type 0 where
  pub many : length rows ≡ r.who.settings.n
  pub told_many : length told ≡ r.who.settings.n
  pub own_row : get_or rows (r.who.number - 1) [] ≡ vs
  pub own_told : get_or told (r.who.number - 1) 0 ≡ 0
  pub others :
      (k : ℕ) → 1 ≤ k → k ≤ r.who.settings.n → (k ≡ r.who.number → ⊥) →
      Row r.who.settings vs (counted r k) (get_or rows (k - 1) []) (get_or told (k - 1) 0)

-- the record after a round is closed: V after one, Y of the table X after two, values and confidences of the table Z after three, and
-- what the tables told
unfoldable pub Closed : (round : ℕ) → Rec → Rec → Type 0
Closed zero r q = q ≡ r
Closed (suc zero) r q = q ≡ next_round r (found_as (heard_vector r) [] [] [] [])
Closed (suc (suc zero)) r q =
    (rows : Rows) × (told : List ℕ) × Table r r.found.heard rows told
    × (q ≡ next_round r (found_as r.found.heard (agreed_vector r.who.settings rows) [] told []))
Closed (suc (suc (suc zero))) r q =
    (rows : Rows) × (told : List ℕ) × Table r r.found.agreed rows told
    × (q ≡ next_round r (found_as r.found.heard r.found.agreed (held_list r.who.settings rows) r.found.told_two told))
Closed (suc (suc (suc (suc m)))) r q = q ≡ r
