-- The conditions of `SentCounts` can be met: column 2 has closed round one and sends its frame of round two, which column 1 takes in round
-- one, before any value; when column 1 closes the round, the frame counts. Computed. Assumes nothing.
use mathlib.Core.Path.{◌≡◌, refl, ◌∙◌}
use mathlib.Core.List.{List, [], ◌∷◌}
use mathlib.Core.Logic.{inr}
use mathlib.Core.Option.{some}
use Prim.Native.Nat.{ℕ}
use native.Mathlib.Omega.{arith}
use lib.ListN.{replicate}
use Rattle.arrays.specs.Array.{in_front, padded}
use Rattle.field.specs.Field.{plus, xor_from, doubled, times, times_from}
use Rattle.field.proofs.Power.{doublings}
use Rattle.code.specs.Settings.{settings, settings_refusal, check_count, value_size}
use Rattle.code.specs.Plane.{byte_list}
use Rattle.code.specs.Vector.{plane, each_long, are_checks, cut, glued}
use Rattle.code.specs.Entry.{values_in}
use Rattle.code.proofs.Codewords.Quick.{quick_summed, quick_zero_from, quick_word, quick_planes_from, quick_checks, checks_quick}
use Rattle.grading.specs.Value.{blank, is_blank, entries}
use Rattle.record.specs.Frame.{command, operand_size, frame_size, header, command_round, round_in, sender_in, run_in, operand_in, checks_in}
use Rattle.record.specs.Record.{who_as, found_as, taken_at, is_taken, frames_of, frame_at, counted, next_round, no_frames}
use Rattle.record.specs.Refusal.{line, first_of, number_refusal, blank_refusal, round_refusal, slot_refusal, short_refusal, command_refusal, length_refusal, sender_refusal, run_refusal, other_round_refusal, repeated_refusal, room_refusal, record_refusal, frame_refusal, take_refusal, send_refusal, close_refusal}
use Rattle.record.specs.View.{settings_of, who_in, frame_in, frames_in, found_in, view}
use Rattle.record.specs.Stored.{no_slot, no_findings, identity, opened_column, slots_with, with_slot, found_now, one_on}
use Rattle.rounds.specs.Exchange.{value_or_blank, heard_at, heard_vector, Closed}
use Rattle.column.specs.Call.{AfterClose, Leads, Operand, FrameOf}
use Rattle.column.specs.Entry.{TakeSays, SendSays, CloseSays}
use Rattle.column.specs.Promise.{Awaits, sent_frame, SentCounts}
use Rattle.column.proofs.Outcome.{sent_counts}
use Rattle.record.specs.declared.Column.{Column}
use Rattle.exchanges.proofs.Examples.Exchange.{vector, pick, heard, heard_checks, frame}

-- column 2 in round two with its V; its frame of that round; column 1 as opened, with that frame, and one round on
unfoldable pub sender : Column
sender = one_on (opened_column (identity 4 1 1 2 7 (86 ∷ []))) (found_now 1 no_findings (found_as (heard 2) [] [] [] []))

unfoldable pub bytes : List ℕ
bytes = frame 2 2 (heard_checks 2)

unfoldable pub reader : Column
reader = opened_column (identity 4 1 1 1 7 (241 ∷ []))

unfoldable pub reader_now : Column
reader_now = with_slot reader 2 bytes

unfoldable pub reader_next : Column
reader_next = one_on reader_now (found_now 1 no_findings (found_as (vector 241 0 0 0) [] [] [] []))

-- each call says what its promise asks, and the reader awaits the frame
pub early_calls :
    SendSays sender (replicate 6 0) 0 bytes × Awaits reader sender × TakeSays reader 2 (sent_frame sender bytes) 0 reader_now
    × CloseSays reader_now 0 reader_next
unfolding sender bytes reader reader_now reader_next sent_frame frame heard heard_checks pick vector FrameOf Operand Leads AfterClose Closed view settings_of
    who_in frame_in frames_in found_in no_slot identity opened_column slots_with with_slot found_now one_on in_front padded settings settings_refusal
    check_count value_size values_in cut glued plane each_long are_checks byte_list quick_summed quick_zero_from quick_word quick_planes_from quick_checks
    plus xor_from doubled times times_from doublings blank is_blank entries command operand_size frame_size header command_round round_in sender_in run_in
    operand_in checks_in who_as found_as taken_at is_taken frames_of frame_at counted next_round no_frames value_or_blank heard_at heard_vector line
    first_of number_refusal blank_refusal round_refusal slot_refusal short_refusal command_refusal length_refusal sender_refusal run_refusal
    other_round_refusal repeated_refusal room_refusal record_refusal frame_refusal take_refusal send_refusal close_refusal
early_calls = (
  record { answered = refl; done = λ z. (bytes, (refl, refl, checks_quick _ _ _ ∙ refl), refl); refused = λ z. absurd (z refl) },
  record { fine = refl; same_settings = refl; same_run = refl; two = λ e. omega arith; low = omega arith; due = inr refl; empty = refl },
  record { answered = refl; done = λ z. refl; refused = λ z. absurd (z refl) },
  record { answered = refl; reads = refl; done = λ z. refl; refused = λ z. absurd (z refl) },
)

-- so the frame counts in the round that the reader is in then
pub early_counts : counted (view reader_next) 2 ≡ some (39 ∷ 78 ∷ [])
unfolding SentCounts sent_frame sender bytes reader frame heard_checks pick one_on opened_column identity settings_of settings frame_size operand_size
    check_count value_size header operand_in
early_counts =
    (sent_counts sender reader reader_now reader_next (replicate 6 0) bytes 0 0 early_calls.0 early_calls.1 refl refl early_calls.2
    early_calls.3).2
