-- The conditions of `BenchAgrees` can be met: the file examples/exchange.bench, of four columns with a bad one that tells each good one
-- something else, is not turned down, and no more than t of its columns are bad. By computing. Assumes nothing.
use mathlib.Core.Path.{◌≡◌, refl}
use mathlib.Core.List.{List, [], ◌∷◌}
use Prim.Native.Nat.{ℕ}
use native.Mathlib.Omega.{arith}
use Rattle.code.specs.Settings.{settings, settings_refusal, check_count, value_size}
use Rattle.grading.specs.Value.{is_blank}
use Rattle.record.specs.Frame.{operand_size}
use Rattle.record.specs.Record.{is_taken}
use Rattle.record.specs.Refusal.{line, first_of, blank_refusal}
use Rattle.bench_file.specs.Scenario.{Scenario, message, only_settings, with_own, with_message, own_of, is_good, message_of}
use Rattle.bench_file.specs.Command.{command_in, is_known, head_size, body_size, command_size, body_in, no_message, form_fault, form_refusal, round_in, from_in, to_in, message_in, is_column, column_refusal, message_refusal, checks_round_refusal, operand_refusal, value_refusal, command_refusal, after_command}
use Rattle.bench_file.specs.File.{parsed, group_in, group_refusal, commands_from, parse_commands, parse_file}
use Rattle.bench_agrees.specs.Promise.{bad_from, bad_columns, FewBad}

-- examples/exchange.bench
unfoldable pub file : List ℕ
file =
    1 ∷ 4 ∷ 1 ∷ 1 ∷ 4 ∷ 1 ∷ 241 ∷ 4 ∷ 2 ∷ 86 ∷ 4 ∷ 3 ∷ 35 ∷ 2 ∷ 4 ∷ 1 ∷ 35 ∷ 2 ∷ 4 ∷ 2 ∷ 35 ∷ 2 ∷ 4 ∷ 3 ∷ 40 ∷ 3 ∷ 2 ∷ 4 ∷ 1 ∷ 22 ∷ 61 ∷ 3 ∷ 2 ∷ 4
    ∷ 2 ∷ 0 ∷ 136 ∷ 3 ∷ 2 ∷ 4 ∷ 3 ∷ 121 ∷ 143 ∷ 3 ∷ 3 ∷ 4 ∷ 1 ∷ 87 ∷ 61 ∷ 3 ∷ 3 ∷ 4 ∷ 2 ∷ 87 ∷ 61 ∷ 3 ∷ 3 ∷ 4 ∷ 3 ∷ 123 ∷ 149 ∷ 15 ∷ []

-- what it says
unfoldable pub group : Scenario
group =
    record {
      settings = settings 4 1 1;
      owns =
          record { column = 3; value = 35 ∷ [] } ∷ record { column = 2; value = 86 ∷ [] } ∷ record { column = 1; value = 241 ∷ [] } ∷ [];
      messages =
          message 3 4 3 (123 ∷ 149 ∷ []) ∷ message 3 4 2 (87 ∷ 61 ∷ []) ∷ message 3 4 1 (87 ∷ 61 ∷ []) ∷ message 2 4 3 (121 ∷ 143 ∷ [])
          ∷ message 2 4 2 (0 ∷ 136 ∷ []) ∷ message 2 4 1 (22 ∷ 61 ∷ []) ∷ message 1 4 3 (40 ∷ []) ∷ message 1 4 2 (35 ∷ [])
          ∷ message 1 4 1 (35 ∷ []) ∷ [];
    }

pub example_parse : parse_file file ≡ parsed group
unfolding file group settings settings_refusal check_count value_size is_blank operand_size is_taken line first_of blank_refusal message only_settings with_own with_message
    own_of is_good message_of command_in is_known head_size body_size command_size body_in no_message form_fault form_refusal round_in from_in to_in message_in is_column column_refusal message_refusal
    checks_round_refusal operand_refusal value_refusal command_refusal after_command group_in group_refusal commands_from parse_commands parse_file
example_parse = refl

pub few : FewBad group
unfolding group settings FewBad bad_columns bad_from is_good is_taken own_of
few = omega arith
