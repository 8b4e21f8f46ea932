-- A bench file: the group command, then the others one after the other up to the end command. The first faulty one counts.
-- Assumes nothing: these are definitions.
use Rattle.std.specs.Prelude.{not, ◌||◌, cond, List, [], ◌∷◌, ℕ, zero, suc, ltb, eqb, length, get_or, drop}
use Rattle.code.specs.Settings.{Settings, settings, settings_refusal}
use Rattle.record.specs.Refusal.{first_of}
use Rattle.bench_file.specs.Scenario.{Scenario, only_settings}
use Rattle.bench_file.specs.Command.{command_in, command_size, command_refusal, after_command}

-- what a file parses to: turned down by a number, or the scenario that it says
pub data Parse : Type 0 where
  refused : (number : ℕ) → Parse
  parsed : Scenario → Parse

-- the longest file that is read
abbrev pub longest_file : ℕ
longest_file = 65536

-- 1 group (n, t, w): its settings
unfoldable pub group_in : List ℕ → Settings
group_in bs = settings (get_or bs 1 0) (get_or bs 2 0) (get_or bs 3 0)

-- where the group command is turned down: 19, another command or cut short; then 1 to 3
unfoldable pub group_refusal : List ℕ → ℕ
group_refusal bs = first_of (cond (not (eqb (command_in bs) 1) || ltb (length bs) 4) 19 0 ∷ settings_refusal (group_in bs) ∷ [])

-- the commands behind the group's, no more of them than there are bytes; a file without an end command is cut short
unfoldable pub commands_from : (most : ℕ) → Scenario → List ℕ → Parse
commands_from zero f bs = refused 19
commands_from (suc k) f bs =
    cond (not (eqb (command_refusal f bs) 0)) (refused (command_refusal f bs))
    (cond (eqb (command_in bs) 15) (parsed f)
    (commands_from k (after_command f bs) (drop (command_size f.settings (command_in bs)) bs)))

-- the commands of a file that is not too long
unfoldable pub parse_commands : List ℕ → Parse
parse_commands bs =
    cond (not (eqb (group_refusal bs) 0)) (refused (group_refusal bs)) (commands_from (length bs) (only_settings (group_in bs)) (drop 4 bs))

-- a file: one that is too long is 19 before any command is read
unfoldable pub parse_file : List ℕ → Parse
parse_file bs = cond (ltb longest_file (length bs)) (refused 19) (parse_commands bs)
