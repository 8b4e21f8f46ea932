-- What a bench file says of a group: its settings, the good columns with their own values, and the messages of the bad ones.
-- Assumes nothing: these are definitions.
use Rattle.std.specs.Prelude.{Bool, ◌&&◌, cond, List, [], ◌∷◌, ℕ, eqb}
use Rattle.std.proofs.Math.Option.{Option, none, some}
use Rattle.code.specs.Settings.{Settings}
use Rattle.grading.specs.Value.{Value}
use Rattle.record.specs.Record.{is_taken}

-- an own value, which makes its column a good one
pub record Own : Type 0 where
  pub column : ℕ
  pub value : Value

-- a message from a bad column to a good one: a value in round one, 2t check values in rounds two and three
pub record Message : Type 0 where
  pub round : ℕ
  pub from : ℕ
  pub to : ℕ
  pub operand : List ℕ

unfoldable pub message : (round from to : ℕ) → (operand : List ℕ) → Message
message m k l x = record { round = m; from = k; to = l; operand = x }

-- a scenario: what the commands read so far have said, the last one first
pub record Scenario : Type 0 where
  pub settings : Settings
  pub owns : List Own
  pub messages : List Message

-- a group of which nothing more is said yet
unfoldable pub only_settings : Settings → Scenario
only_settings s = record { settings = s; owns = []; messages = [] }

-- with one own value more
unfoldable pub with_own : Scenario → (column : ℕ) → Value → Scenario
with_own f k v = record { settings = f.settings; owns = record { column = k; value = v } ∷ f.owns; messages = f.messages }

-- with one message more
unfoldable pub with_message : Scenario → Message → Scenario
with_message f m = record { settings = f.settings; owns = f.owns; messages = m ∷ f.messages }

-- the own value of a column; none, a bad column
unfoldable pub own_of : List Own → (column : ℕ) → Option Value
own_of [] k = none
own_of (o ∷ os) k = cond (eqb o.column k) (some o.value) (own_of os k)

-- whether a column is good
unfoldable pub is_good : Scenario → (column : ℕ) → Bool
is_good f k = is_taken (own_of f.owns k)

-- the operand of the message from one column to another in a round, if there is one
unfoldable pub message_of : List Message → (round from to : ℕ) → Option (List ℕ)
message_of [] m k l = none
message_of (x ∷ xs) m k l =
    cond (eqb x.round m && (eqb x.from k && eqb x.to l)) (some x.operand) (message_of xs m k l)
