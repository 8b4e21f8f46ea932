-- `repair_by` meets its contract. Assumes nothing.
use mathlib.Core.Path.{sym, ◌∙◌}
use native.Mathlib.Omega.{arith}
use Rattle.refusal.proofs.Positive.{number-positive}
use Rattle.repair.proofs.Entry.{repair_by_refused, repair_by_own, repair_by_done}
use Rattle.repair.proofs.repair_by.Goals as goal

pub returns-in-Err : goal.returns-in-Err
returns-in-Err c =
    let a = c.args in
    repair_by_refused a.n a.t a.w a.vector.now a.checks.now a.output.now a.own.now _ _ _ _ (c.number.ensures ∙ c.in-Err.ensures.answer)
    (λ z. omega (arith, number-positive c.in-Err.refusal, c.number.ensures, z)) c.untried.ensures

pub returns-in-Ok : goal.returns-in-Ok
returns-in-Ok c =
    let a = c.args in
    let same = c.in-Ok.ensures.same in
    let long = rw (same.0, same.1, same.2) at c.in-Ok.ensures.lengths in
    let answer = c.untried-in-Ok.ensures in
    repair_by_own a.n a.t a.w a.vector.now a.checks.now a.output.now a.own.now _ _ _ (sym c.in-Ok.ensures.answer) (λ l. c.if-own-checks.true (l ∙ sym long.1))
    (answer.0 ∙ c.number-in-Ok.ensures, answer.1, answer.2)

pub returns-in-Ok-2 : goal.returns-in-Ok-2
returns-in-Ok-2 c =
    let a = c.args in
    let same = c.in-Ok-2.ensures.same in
    let long = rw (same.0, same.1, same.2) at c.in-Ok-2.ensures.lengths in
    repair_by_done a.n a.t a.w a.vector.now a.checks.now a.output.now a.own.now _ _ _ _ (sym c.in-Ok-2.ensures.answer) (c.if-own-checks.false ∙ long.1)
    (rw (same.0, same.1, same.2) at c.by_difference.ensures)
