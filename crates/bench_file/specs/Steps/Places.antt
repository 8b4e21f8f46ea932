-- The places in a bench file where values and check values stand, read as what the file says. Assumes nothing: these are definitions.
use Rattle.std.specs.Prelude.{◌≡◌, not, Option as Place, Some, None, List, ℕ, ◌+◌, ◌*◌, ◌-◌, ◌≤◌, length, get_or, take, drop}
use Rattle.std.proofs.Math.Option.{Option, none, some}
use Rattle.code.specs.Settings.{Settings as Group}
use Rattle.code.specs.declared.settings.Settings.{Settings}
use Rattle.code.specs.Size.{most_columns}
use Rattle.grading.specs.Value.{Value}
use Rattle.record.specs.Frame.{operand_size}
use Rattle.record.specs.Refusal.{open_refusal}
use Rattle.bench_file.specs.Scenario.{Scenario, own_of, message_of}
use Rattle.bench_file.specs.Command.{no_message}
use Rattle.bench_file.specs.declared.places.Places.{Places}

-- the settings, as the definitions have them
abbrev pub group_of : Settings → Group
group_of s = record { n = s.n; t = s.t; w = s.w }

-- so many bytes that stand at a place, or none where there is none
unfoldable pub BytesAt : (file : List ℕ) → (size : ℕ) → (at : Place ℕ) → Option (List ℕ) → Type 0
BytesAt file size None none = Unit {0}
BytesAt file size None (some x) = ⊥
BytesAt file size (Some at) none = ⊥
BytesAt file size (Some at) (some x) = (at + size ≤ length file) × (x ≡ take size (drop at file))

-- how many messages there may be: of each round, from each column to each
abbrev pub most_messages : ℕ
most_messages = 3 * most_columns * most_columns

-- where the place of a message is kept
unfoldable pub message_index : (round from to : ℕ) → ℕ
message_index m k l = (m - 1) * (most_columns * most_columns) + ((k - 1) * most_columns + (l - 1))

-- round, sender and reader of a message that there may be
pub record MessageRange (round from to : ℕ) : Type 0 where
  pub round_low : 1 ≤ round
  pub round_high : round ≤ 3
  pub from_low : 1 ≤ from
  pub from_high : from ≤ most_columns
  pub to_low : 1 ≤ to
  pub to_high : to ≤ most_columns

-- the places of all that was said so far; an own value can be opened with
pub record Located (file : List ℕ) (p : Places) (f : Scenario) : Type 0 where
  pub settings : f.settings ≡ group_of p.settings
  pub owns : (k : ℕ) → 1 ≤ k → k ≤ most_columns → BytesAt file p.settings.w (get_or p.owns (k - 1) None) (own_of f.owns k)
  pub messages :
      (m k l : ℕ) → MessageRange m k l →
      BytesAt file (operand_size f.settings m) (get_or p.messages (message_index m k l) None) (message_of f.messages m k l)
  pub late : no_message f.messages ≡ not p.late
  pub opens : (k : ℕ) (v : Value) → own_of f.owns k ≡ some v → open_refusal f.settings k v ≡ 0

-- something was said of which these are the places
unfoldable pub PlacesOf : (file : List ℕ) → Places → Type 0
PlacesOf file p = (f : Scenario) × Located file p f
