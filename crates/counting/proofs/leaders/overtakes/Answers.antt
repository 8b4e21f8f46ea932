-- `overtakes` meets its contract: the tests of the definition, counts before bytes. Assumes nothing.
use mathlib.Core.Path.{◌≡◌, sym, ◌∙◌}
use mathlib.Core.Bool.{false}
use Prim.Native.Nat.{◌≤◌}
use native.Mathlib.Omega.{arith}
use borrow.Author.Tests.{lt-ltb}
use Rattle.grading.specs.Value.{is_blank}
use Rattle.counting.specs.Steps.Tally.{leading}
use Rattle.counting.proofs.Best.{better_fewer, better_blank, better_more, better_tie}
use Rattle.counting.proofs.Settling.{leading_found}
use Rattle.counting.proofs.leaders.overtakes.Goals as goal
use Rattle.counting.proofs.leaders.overtakes.Goals.{Start, then-next-leads-via-then-next-leads, then-next-leads-via-else-next-leads+then-is_blank}

-- what leads is no blank where it is found at all
leading_filled : (s : Start) → 1 ≤ s.args.leads.times →
    is_blank (leading s.args.rows.now.w s.args.rows.now.table.now s.args.k s.args.leads.row s.args.leads.times) ≡ false
leading_filled s h =
    let a = s.args in rw (leading_found a.rows.now.w a.rows.now.table.now a.k a.leads.row a.leads.times h) (s.requires.4 h)

pub returns-then-next-leads : goal.returns-then-next-leads
returns-then-next-leads c =
    elim c.then-next-leads.branch [
      | then-next-leads-via-then-next-leads w ↦
          sym (better_fewer _ _ _ _ w.if-next-leads.true (leading_filled (goal.at.returns-then-next-leads c).Start (omega arith)))
      | then-next-leads-via-else-next-leads+then-is_blank w ↦ sym (better_blank _ _ _ _ (sym w.is_blank.ensures ∙ w.if-is_blank.true))
    ]

pub returns-then-leads-next : goal.returns-then-leads-next
returns-then-leads-next c =
    lt-ltb _ _ c.if-leads-next.true ∙ sym (better_more _ _ _ _ c.if-leads-next.true (sym c.is_blank.ensures ∙ c.if-is_blank.false))

pub returns-else-leads-next : goal.returns-else-leads-next
returns-else-leads-next c =
    let a = c.args in
    let even : a.next.times ≡ a.leads.times = omega arith in
    let first = leading_found a.rows.now.w a.rows.now.table.now a.k a.leads.row a.leads.times (omega arith) in
    (rw (← first) at c.is_before.ensures)
    ∙ sym (better_tie _ _ _ _ even (sym c.is_blank.ensures ∙ c.if-is_blank.false) (leading_filled (goal.at.returns-else-leads-next c).Start (omega arith)))
