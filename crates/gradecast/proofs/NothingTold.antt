-- A round tells nothing before it is closed. Opening leaves zeros in both lists, no call but a closing touches them, and a closing only
-- that of its own round. Assumes nothing.
use mathlib.Core.Path.{◌≡◌, refl}
use Prim.Native.Nat.{◌≤◌}
use native.Mathlib.Omega.{arith}
use lib.ListN.{replicate}
use borrow.Author.Tests.{ne_eqb}
use Rattle.code.specs.Size.{most_columns}
use Rattle.record.specs.Record.{Found}
use Rattle.record.specs.Stored.{no_findings, opened_column, with_slot, with_counts, found_now, one_on}
use Rattle.record.specs.declared.Column.{Column}
use Rattle.gradecast.specs.Built.{NothingTold}
use Rattle.gradecast.proofs.EveryStep.{every_step}

record Untold (c : Column) : Type 0 where
  two : c.round ≤ 2 → c.found.told_two ≡ replicate most_columns 0
  three : c.round ≤ 3 → c.found.told_three ≡ replicate most_columns 0

untold_closed : (c : Column) (q : Found) → Untold c → Untold (one_on c (found_now c.round c.found q))
unfolding one_on found_now
untold_closed c q u =
    record {
      two = λ h. rw (ne_eqb c.round 2 (λ f. omega arith)) (u.two (omega arith));
      three = λ h. rw (ne_eqb c.round 3 (λ f. omega arith)) (u.three (omega arith));
    }

pub nothing_told : NothingTold
unfolding NothingTold opened_column no_findings with_slot with_counts
nothing_told s run b ran =
    let first : Untold b.first = rw (ran.opening.done refl) (record { two = λ h. refl; three = λ h. refl }) in
    let last =
    every_step Untold (λ c k bs e u. record { two = u.two; three = u.three }) (λ c n u. record { two = u.two; three = u.three }) untold_closed first
    ran.steps in
    (last.two, last.three)
