-- `check_operand` meets its contract: by the command, the lines of an own value or of a message. Assumes nothing.
use mathlib.Core.Path.{sym, ◌∙◌}
use native.Mathlib.Omega.{arith}
use Rattle.std.proofs.lemmas.Result.{err_from_is_err_and}
use Rattle.refusal.proofs.Positive.{number-positive}
use Rattle.record.proofs.Refusal.{first_of_here, first_of_next, first_of_last}
use Rattle.bench_file.proofs.OneCommand.Faults.{operand_end, operand_says_own, operand_says_value, operand_says_checks}
use Rattle.bench_file.proofs.commands.Command.check_operand.Goals as goal

pub returns-in-Own-clause-answer : goal.returns-in-Own-clause-answer
returns-in-Own-clause-answer c file f bs h says =
    c.check_column.ensures.answer file f h ∙ sym (operand_says_own f bs _ (rw c.in-Own.is at says))

pub returns-in-Value-clause-answer : goal.returns-in-Value-clause-answer
returns-in-Value-clause-answer c file f bs h says =
    c.check_message.ensures.answer file f h ∙ sym (operand_says_value f bs _ _ (rw c.in-Value.is at says))

pub returns-in_err-check_round-in-Checks-clause-answer : goal.returns-in_err-check_round-in-Checks-clause-answer
returns-in_err-check_round-in-Checks-clause-answer c file f bs h says =
    let p = err_from_is_err_and c.from_residual.result c.from_residual.ensures.1 in
    rw (p.1, p.2)
    (sym
    (operand_says_checks f bs _ _ _ (rw c.in-Checks.is at says)
    ∙ first_of_here _ (sym c.in_err-check_round-in-Checks.ensures.answer) (λ z. absurd (omega (arith, z, number-positive c.in_err-check_round-in-Checks.field-0.0)))))

pub returns-in_ok-check_round-in-Checks-clause-answer : goal.returns-in_ok-check_round-in-Checks-clause-answer
returns-in_ok-check_round-in-Checks-clause-answer c file f bs h says =
    c.check_message-in-Checks.ensures.answer file f h
    ∙ sym
    (operand_says_checks f bs _ _ _ (rw c.in-Checks.is at says)
    ∙ first_of_next _ (sym c.in_ok-check_round-in-Checks.ensures.answer) (first_of_last _))

pub returns-in-End-clause-answer : goal.returns-in-End-clause-answer
returns-in-End-clause-answer c file f bs h says = sym (operand_end f bs (rw c.in-End.is at says))
