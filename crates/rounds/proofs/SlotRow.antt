-- One slot's row put into a table: blanks for a missing frame, the last repair's row again for its checks, and else the row that repair
-- left. Every other row stays as it is, the last repair's too, which is another one. Assumes nothing.
use mathlib.Core.Path.{◌≡◌, refl, ◌∙◌}
use mathlib.Core.Bool.{false}
use mathlib.Core.List.{List}
use mathlib.Core.Logic.{inl, inr}
use mathlib.Core.Option.{some}
use Prim.Native.Nat.{ℕ, ◌*◌, ◌≤◌, ◌<◌}
use lib.ListN.{length, take, replicate}
use Rattle.std.specs.Prelude.{Some, None}
use Rattle.code.specs.Settings.{Settings, value_size}
use Rattle.code.specs.Size.{vector_room}
use Rattle.code.specs.Entry.{values_in}
use Rattle.grading.specs.Value.{Vector, blanks}
use Rattle.counting.specs.Steps.Table.{Planes, Shaped, row_plane, written_plane, RowPut}
use Rattle.counting.proofs.Planes.{row_written, row_copied, row_put_others}
use Rattle.record.specs.Frame.{operand_in}
use Rattle.record.specs.Record.{told_missing}
use Rattle.record.specs.declared.Slot.{Slot}
use Rattle.record.proofs.View.{frame_of_empty, frame_of_taken}
use Rattle.repair.specs.declared.RepairAnswer.{RepairAnswer}
use Rattle.rounds.specs.Exchange.{Row}
use Rattle.rounds.specs.Steps.Senders.{checks_size, told_of, RepairedAgain, SlotRepaired, row_of, LastRow, EmptyRow, SlotPut, SlotRow}
use Rattle.rounds.specs.declared.senders.Last.{Last}
use Rattle.rounds.proofs.SenderRow.{zeros_blanks}

-- an array of zeros is one for a row of blanks
pub zeros_empty : (s : Settings) → s.n * value_size s ≤ vector_room → EmptyRow s (replicate vector_room 0)
zeros_empty s h = record { long = refl; blank = zeros_blanks s vector_room h }

module _ (s : Settings) (vs : Vector) (slot : Slot) (i : ℕ) (last : Last) (row : List ℕ) (x : Planes) (memo : LastRow s vs last x)
    (empty : EmptyRow s row) where
  abbrev came : List ℕ
  came = take (checks_size s) (operand_in slot.bytes)

  -- a missing frame: the row is blanks already
  pub slot_missing : slot.taken ≡ 0 → Shaped x → row_of s x i ≡ blanks s → SlotPut s vs slot i last last told_missing row x x
  unfolding SlotRow Row
  slot_missing e shape blank =
      record {
        shape = shape;
        here = rw (frame_of_empty (checks_size s) slot e) (blank, refl);
        others = λ j d. refl;
        memo = memo;
        at = inl refl;
        empty = empty;
      }

  -- a frame: what repair says by its checks
  module _ (checks_now : List ℕ) (row_now : List ℕ) (x_now : Planes) (taken : slot.taken ≡ 0 → ⊥) where
    abbrev with : RepairAnswer → (at : ℕ) → Last
    with a at = record { checks = checks_now; answer = a; at = at }

    frame_row : (told : ℕ) → Row s vs (some came) (row_of s x_now i) told → SlotRow s vs false slot (row_of s x_now i) told
    unfolding SlotRow
    frame_row told r = rw (frame_of_taken (checks_size s) slot taken) r

    -- the last repair from then on, by the checks that are kept
    kept_row :
        (a : RepairAnswer) (at : ℕ) → length checks_now ≡ length last.checks → take (checks_size s) checks_now ≡ came → a.changed < told_missing →
        Row s vs (some came) (row_of s x_now at) (told_of a) → LastRow s vs (with a at) x_now
    kept_row a at long kept few r = record { long = long ∙ memo.long; few = few; row = rw kept r }

    -- the last answer again, and its row
    pub slot_again :
        SlotRepaired s vs slot last.checks checks_now None row row_now → (last.at ≡ i → ⊥) → RowPut (value_size s) i (row_plane x last.at) x x_now →
        SlotPut s vs slot i last (with last.answer last.at) (told_of last.answer) row_now x x_now
    unfolding RepairedAgain
    slot_again r apart put =
        record {
          shape = put.shape;
          here = frame_row (told_of last.answer) (rw (row_copied s.n (value_size s) i x x_now last.at put, same) memo.row);
          others = others;
          memo = kept_row last.answer last.at r.long r.kept memo.few (rw (others last.at apart, same) memo.row);
          at = inl refl;
          empty = rw r.found.1 empty;
        }
      where
        same : came ≡ take (checks_size s) last.checks
        same = r.found.0

        others : (j : ℕ) → (j ≡ i → ⊥) → row_of s x_now j ≡ row_of s x j
        others = row_put_others s.n (value_size s) i x x_now _ put

    module _ (a : RepairAnswer) (r : SlotRepaired s vs slot last.checks checks_now (Some a) row row_now) where
      -- the places changed are few
      pub slot_few : a.changed < told_missing
      unfolding RepairedAgain
      slot_few = r.found.0

      -- a row that repair left, in an array that is blanks again
      pub slot_repaired :
          (blanked : List ℕ) → EmptyRow s blanked → s.n * value_size s ≤ length row_now →
          RowPut (value_size s) i (written_plane s.n (value_size s) row_now x i) x x_now → SlotPut s vs slot i last (with a i) (told_of a) blanked x x_now
      unfolding RepairedAgain values_in
      slot_repaired blanked b fits put =
          record {
            shape = put.shape;
            here = frame_row (told_of a) found;
            others = row_put_others s.n (value_size s) i x x_now _ put;
            memo = kept_row a i r.long r.kept r.found.0 found;
            at = inr refl;
            empty = b;
          }
        where
          found : Row s vs (some came) (row_of s x_now i) (told_of a)
          found = rw (row_written s.n (value_size s) i x x_now row_now put fits) r.found.1
