-- The exchanges, computed: all that the definitions say of the lists, whether the conditions of demand 3 hold, what each column ends with,
-- and what each call answers. Assumes nothing.
use mathlib.Core.Path.{◌≡◌, refl}
use mathlib.Core.Bool.{true}
use mathlib.Core.List.{[], ◌∷◌, map}
use Prim.Native.Nat.{ℕ}
use Rattle.field.specs.Field.{plus, xor_from, doubled, times, times_from, power, inverse}
use Rattle.field.proofs.Power.{doublings}
use Rattle.code.specs.Settings.{settings_refusal, check_count, value_size}
use Rattle.code.specs.Polynomial.{eval, added, scaled}
use Rattle.code.specs.Plane.{byte_list}
use Rattle.code.specs.Vector.{plane, each_long, is_vector, are_checks, same, differ_values, cut}
use Rattle.code.specs.Entry.{values_in}
use Rattle.code.proofs.Tests.{all_from}
use Rattle.code.proofs.Codewords.Quick.{quick_summed, quick_zero_from, quick_word, quick_planes_from, quick_checks}
use Rattle.locator.specs.Locator.{massey, start, changed, longer, as_long, against, raised, quotient, value}
use Rattle.locator.specs.Errors.{place_exponent}
use Rattle.grading.specs.Value.{blank, blanks, is_blank, bytes_before, entries}
use Rattle.grading.specs.Held.{held_as}
use Rattle.grading.specs.Count.{found as times-found, better_by, better, next_best, most_from, most, agreed_least, sure_least, likely_least, agreed_at, agreed_vector, held_of, held_at, held_list}
use Rattle.grading.specs.Promise.{member, all_different}
use Rattle.record.specs.Frame.{command, operand_size, frame_size, header, command_round, round_in, sender_in, run_in, operand_in, checks_in}
use Rattle.record.specs.Record.{Found, who_as, found_as, nothing_found, no_frames, opened, taken_at, is_taken, frames_of, frame_at, counted, none_refused, raised as count-raised, count_at, one_more, with_refused, with_operand, with_frame, next_round}
use Rattle.record.specs.Refusal.{line, first_of, number_refusal, size_refusal, blank_refusal, round_refusal, slot_refusal, short_refusal, command_refusal, length_refusal, sender_refusal, run_refusal, other_round_refusal, repeated_refusal, room_refusal, unfinished_refusal, frame_refusal, open_refusal, record_refusal, take_refusal, send_refusal, close_refusal, ask_refusal, frame_fault}
use Rattle.rounds.specs.Exchange.{value_or_blank, heard_at, heard_vector}
use Rattle.column.specs.Call.{after_take}
use Rattle.gradecast.specs.Promise.{numbers}
use Rattle.exchanges.proofs.Testing.NoneNear.{quick_sum, right_at, plane_none, none_from, quick_none}
use Rattle.exchanges.proofs.Testing.Table.{row_of, told_of, row_test, table_row, table_of, told_at, told_by, table_test}
use Rattle.exchanges.proofs.Testing.Stepping.{closed_by, closed_test, after_call, call_test, answer, ran, run_test, answers, some_place}
use Rattle.exchanges.proofs.Testing.Frames.{operand_test, frame_test, takes_now, given_test}
use Rattle.exchanges.proofs.Testing.Conditions.{opening, good, sends_test, hands_test, fair_bytes, plays_test, meets_test, every, group_test}
use Rattle.exchanges.proofs.Building.ByteRecord.{byte_frames}
use Rattle.exchanges.proofs.Building.Group.{of_bytes}
use Rattle.exchanges.proofs.Building.Tested.{Outcome, goods, computed}
use Rattle.exchanges.proofs.Examples.Exchange.{four, vector, pick, own_value, heard, heard_checks, Exchange, frame, sent, split, script}
use Rattle.exchanges.proofs.Examples.Printed.{printed, printed_round, printed_calls, printed_scripts, printed_says}
use Rattle.exchanges.proofs.Examples.Rough.{rough, done, refused, calls_of, says_of, rough_one, rough_two, rough_three, rough_lists, rough_scripts}
use Rattle.exchanges.proofs.Examples.Radio.{four_bytes, both_ends, two_tenths, a_tenth, reaches, hears, agrees, height_at, four_heights, four_checks, radio_sent, radio_round, radio_script, radio_scripts, radio_held, radio_found, radio_outcome}

-- V and Y of a column, values 241, 86 and 35 held at confidence 2, and that of column 4; and what rounds two and three told it
unfoldable pub holding : Exchange → (number value confidence : ℕ) → Found
holding e k v c =
    found_as (heard k) (e.agreed k) (held_as (241 ∷ []) 2 ∷ held_as (86 ∷ []) 2 ∷ held_as (35 ∷ []) 2 ∷ held_as (v ∷ []) c ∷ []) (e.told 2 k) (e.told 3 k)

unfoldable pub printed_outcome : Outcome
printed_outcome =
    record {
      conditions = true;
      bytes = true;
      finished = true;
      found = holding printed 1 35 2 ∷ holding printed 2 35 2 ∷ holding printed 3 35 1 ∷ [];
      refused = (0 ∷ 0 ∷ 0 ∷ 3 ∷ []) ∷ (0 ∷ 0 ∷ 0 ∷ 3 ∷ []) ∷ (0 ∷ 0 ∷ 0 ∷ 3 ∷ []) ∷ [];
      answered = printed_says ∷ printed_says ∷ printed_says ∷ [];
    }

unfoldable pub rough_outcome : Outcome
rough_outcome =
    record {
      conditions = true;
      bytes = true;
      finished = true;
      found = holding rough 1 35 1 ∷ holding rough 2 35 1 ∷ holding rough 3 0 0 ∷ [];
      refused = (0 ∷ 4 ∷ 2 ∷ 2 ∷ []) ∷ (1 ∷ 0 ∷ 0 ∷ 5 ∷ []) ∷ (1 ∷ 1 ∷ 0 ∷ 0 ∷ []) ∷ [];
      answered = map says_of rough_lists;
    }

pub outcomes :
    (computed four 7 printed_scripts ≡ printed_outcome) × (computed four 7 rough_scripts ≡ rough_outcome)
    × (quick_none four (heard 1) (checks_in four (rough.bad 2 1)) ≡ true)
    × (computed four_bytes 7 (radio_scripts both_ends) ≡ radio_outcome both_ends)
    × (computed four_bytes 7 (radio_scripts two_tenths) ≡ radio_outcome two_tenths)
    × (computed four_bytes 7 (radio_scripts a_tenth) ≡ radio_outcome a_tenth)
unfolding both_ends two_tenths a_tenth reaches hears agrees height_at four_heights four_checks radio_sent radio_round radio_script radio_scripts radio_held radio_found radio_outcome
    goods computed printed_outcome rough_outcome printed_says holding printed_scripts printed_calls printed_round printed rough_scripts rough_lists rough_one rough_two rough_three rough done refused calls_of says_of script sent split frame heard_checks heard own_value pick vector
    every of_bytes byte_frames group_test plays_test meets_test given_test fair_bytes sends_test hands_test takes_now frame_test operand_test good opening some_place answers answer ran run_test after_call call_test closed_by closed_test table_test table_of table_row told_by told_at row_test row_of told_of quick_none none_from plane_none right_at quick_sum
    numbers member all_different all_from quick_summed quick_zero_from quick_word quick_planes_from quick_checks massey start changed longer as_long against raised quotient value place_exponent eval added scaled plus xor_from doubled times times_from power inverse doublings
    settings_refusal check_count value_size byte_list plane each_long is_vector are_checks same differ_values cut values_in blank blanks is_blank bytes_before entries held_as times-found better_by better next_best most_from most agreed_least sure_least likely_least agreed_at agreed_vector held_of held_at held_list
    command operand_size frame_size header command_round round_in sender_in run_in operand_in checks_in who_as found_as nothing_found no_frames opened taken_at is_taken frames_of frame_at counted none_refused count-raised count_at one_more with_refused with_operand with_frame next_round
    line first_of number_refusal size_refusal blank_refusal round_refusal slot_refusal short_refusal command_refusal length_refusal sender_refusal run_refusal other_round_refusal repeated_refusal room_refusal unfinished_refusal frame_refusal open_refusal record_refusal take_refusal send_refusal close_refusal ask_refusal frame_fault value_or_blank heard_at heard_vector after_take
outcomes = (refl, refl, refl, refl, refl, refl)
