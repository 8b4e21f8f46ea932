-- In round three nothing follows. No frame is of a round four, so that from round three on none is put among the early slots, which the
-- closing of round two has emptied; the closing of round three makes them the slots. Assumes nothing.
use mathlib.Core.Path.{◌≡◌, refl}
use mathlib.Core.List.{List}
use Prim.Native.Nat.{ℕ, ◌≤◌}
use native.Mathlib.Omega.{arith}
use borrow.Author.Tests.{eq-eqb}
use Rattle.record.specs.Frame.{round_in}
use Rattle.record.specs.Record.{Found}
use Rattle.record.specs.Refusal.{take_refusal}
use Rattle.record.specs.View.{view}
use Rattle.record.specs.Stored.{empty_slots, opened_column, slots_with, with_slot, with_counts, found_now, one_on}
use Rattle.record.specs.declared.Column.{Column}
use Rattle.record.proofs.InTime.{in_time_low}
use Rattle.record.proofs.FrameRefusal.{round_in_most, taken_of}
use Rattle.gradecast.specs.Built.{NothingFollows}
use Rattle.gradecast.proofs.EveryStep.{every_step}

record Ends (c : Column) : Type 0 where
  early : 3 ≤ c.round → c.early ≡ empty_slots
  slots : 4 ≤ c.round → c.slots ≡ empty_slots

-- a frame that is taken in round three is of that round, and none is taken after
ends_taken : (c : Column) (k : ℕ) (bs : List ℕ) → take_refusal (view c) k bs ≡ 0 → Ends c → Ends (with_slot c k bs)
unfolding view with_slot slots_with
ends_taken c k bs e ends =
    record {
      early = λ h. (let same : round_in bs ≡ c.round = omega (arith, low, round_in_most bs) in rw (eq-eqb (round_in bs) c.round same) (ends.early h));
      slots = λ h. absurd (omega (arith, low, round_in_most bs));
    }
  where
    low : c.round ≤ round_in bs
    low = in_time_low (taken_of (view c) k bs e).due

ends_closed : (c : Column) (q : Found) → Ends c → Ends (one_on c (found_now c.round c.found q))
unfolding one_on
ends_closed c q ends = record { early = λ h. refl; slots = λ h. ends.early (omega arith) }

pub nothing_follows : NothingFollows
unfolding NothingFollows opened_column with_counts
nothing_follows s run b ran =
    let first : Ends b.first = rw (ran.opening.done refl) (record { early = λ h. absurd (omega arith); slots = λ h. absurd (omega arith) }) in
    let last = every_step Ends ends_taken (λ c n ends. record { early = ends.early; slots = ends.slots }) ends_closed first ran.steps in
    (last.early, last.slots)
