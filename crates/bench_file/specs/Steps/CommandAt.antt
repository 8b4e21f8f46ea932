-- One command of a bench file read at a place: what its first bytes say, and where reading goes on behind it. Assumes nothing: these are
-- definitions.
use Rattle.std.specs.Prelude.{◌≡◌, false, cond, Option, Some, None, Result, Ok, Err, List, ℕ, ◌+◌, ◌≤◌, eqb, length, get_or, take, drop}
use Rattle.code.specs.Size.{most_columns}
use Rattle.record.specs.Refusal.{blank_refusal}
use Rattle.refusal.specs.Number.{number_of}
use Rattle.refusal.specs.declared.Refusal.{Refusal}
use Rattle.bench_file.specs.Scenario.{Scenario}
use Rattle.bench_file.specs.Command.{command_in, is_known, command_size, command_refusal, after_command}
use Rattle.bench_file.specs.Steps.Places.{MessageRange, Located}
use Rattle.bench_file.specs.declared.places.Places.{Places}
use Rattle.bench_file.specs.declared.commands.Command.{Command}
use Rattle.bench_file.specs.declared.commands.Command.TheVariants.{Own, Value, Checks, End}

-- the byte with which a command begins
abbrev pub code_of : Command → ℕ
code_of (Own k) = 4
code_of (Value k l) = 2
code_of (Checks m k l) = 3
code_of End = 15

-- the bytes begin with a command and its operands
abbrev pub Says : List ℕ → Command → Type 0
Says bs (Own k) = (command_in bs ≡ 4) × (get_or bs 1 0 ≡ k)
Says bs (Value k l) = (command_in bs ≡ 2) × (get_or bs 1 0 ≡ k) × (get_or bs 2 0 ≡ l)
Says bs (Checks m k l) = (command_in bs ≡ 3) × (get_or bs 1 0 ≡ m) × (get_or bs 2 0 ≡ k) × (get_or bs 3 0 ≡ l)
Says bs End = command_in bs ≡ 15

-- the command with which bytes begin, if they begin with one
abbrev pub Begins : List ℕ → Option Command → Type 0
Begins bs None = is_known (command_in bs) ≡ false
Begins bs (Some c) = Says bs c

-- operands that there may be
abbrev pub InRange : Command → Type 0
InRange (Own k) = (1 ≤ k) × (k ≤ most_columns)
InRange (Value k l) = MessageRange 1 k l
InRange (Checks m k l) = MessageRange m k l
InRange End = Unit {0}

-- 6, of the bytes behind an own command's two
unfoldable pub value_fault : (file : List ℕ) → (at command w : ℕ) → ℕ
value_fault file at c w = cond (eqb c 4) (blank_refusal (take w (drop (at + 2) file))) 0

-- a command that is not turned down, after what was said so far, and not the end
pub record Accepted (file : List ℕ) (f : Scenario) (at : ℕ) (c : Command) (p : Places) : Type 0 where
  pub located : Located file p f
  pub inside : at ≤ length file
  pub says : Says (drop at file) c
  pub fine : command_refusal f (drop at file) ≡ 0
  pub goes_on : command_in (drop at file) ≡ 15 → ⊥

-- the refusal of the command at a place; the end, and the places of all that was said; or the place of the next command, and the places
-- of what is said after this one
unfoldable pub Stepped : Scenario → (file : List ℕ) → (at : ℕ) → Result (Option ℕ) Refusal → Places → Type 0
Stepped f file at (Err e) p = number_of e ≡ command_refusal f (drop at file)
Stepped f file at (Ok None) p = (command_refusal f (drop at file) ≡ 0) × (command_in (drop at file) ≡ 15) × Located file p f
Stepped f file at (Ok (Some next)) p =
    (command_refusal f (drop at file) ≡ 0) × (command_in (drop at file) ≡ 15 → ⊥)
    × (next ≡ at + command_size f.settings (command_in (drop at file))) × Located file p (after_command f (drop at file))
