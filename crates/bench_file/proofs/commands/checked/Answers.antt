-- `checked` meets its contract: the first of its lines that applies. Assumes nothing.
use mathlib.Core.Path.{◌≡◌, sym, ◌∙◌, ap}
use mathlib.Core.List.{List}
use Prim.Native.Nat.{ℕ, ◌-◌}
use native.Mathlib.Omega.{arith}
use lib.ListN.{length, drop, length-drop}
use Rattle.std.proofs.lemmas.Result.{err_from_is_err_and}
use Rattle.code.specs.Settings.{Settings as Group}
use Rattle.refusal.proofs.Positive.{number-positive}
use Rattle.record.proofs.Refusal.{first_of_here, first_of_next, first_of_last}
use Rattle.bench_file.specs.Scenario.{Scenario}
use Rattle.bench_file.specs.Command.{form_fault, form_refusal, value_refusal, command_refusal}
use Rattle.bench_file.specs.Steps.Places.{group_of, Located}
use Rattle.bench_file.specs.Steps.CommandAt.{code_of, Says, value_fault}
use Rattle.bench_file.specs.declared.places.Places.{Places}
use Rattle.bench_file.specs.declared.commands.Command.{Command}
use Rattle.bench_file.proofs.OneCommand.Faults.{form_as, form_unknown, value_as, says_code}
use Rattle.bench_file.proofs.commands.checked.Goals as goal

module _ (file : List ℕ) (at : ℕ) (p : Places) (f : Scenario) (command : Command) (h : Located file p f) (says : Says (drop at file) command) where
  form : form_refusal f (drop at file) ≡ form_fault (group_of p.settings) p.late (code_of command) (length file - at)
  form = form_as f (group_of p.settings) p.late _ h.settings h.late (says_code _ command says) (length-drop at file)

  value : value_refusal f (drop at file) ≡ value_fault file at (code_of command) p.settings.w
  value = value_as f file at p.settings.w (ap (λ (s : Group). s.w) h.settings) (says_code _ command says)

pub returns-in_default-clause-answer : goal.returns-in_default-clause-answer
unfolding command_refusal
returns-in_default-clause-answer c f h =
    sym (first_of_here _ (form_unknown f _ (rw c.in_default.is at c.command_at.ensures)) (λ z. absurd (omega (arith, z))))

pub returns-in_err-check_form-clause-answer : goal.returns-in_err-check_form-clause-answer
unfolding command_refusal
returns-in_err-check_form-clause-answer c f h =
    let p = err_from_is_err_and c.from_residual.result c.from_residual.ensures.1 in
    let e = c.in_err-check_form in
    rw (p.1, p.2)
    (sym
    (first_of_here _ (form c.args.file.now c.args.at c.args.places.now f c.in-Some.command h c.in-Some.ensures ∙ sym e.ensures.answer)
    (λ z. absurd (omega (arith, z, number-positive e.field-0.0)))))

pub returns-in_err-check_operand-clause-answer : goal.returns-in_err-check_operand-clause-answer
unfolding command_refusal
returns-in_err-check_operand-clause-answer c f h =
    let p = err_from_is_err_and c.from_residual-in_err-check_operand.result c.from_residual-in_err-check_operand.ensures.1 in
    let e = c.in_err-check_operand in
    let says = c.in-Some.ensures in
    rw (p.1, p.2)
    (sym
    (first_of_next _ (form c.args.file.now c.args.at c.args.places.now f c.in-Some.command h says ∙ sym c.in_ok-check_form.ensures.answer)
    (first_of_here _ (sym (e.ensures.answer c.args.file.now f _ h says)) (λ z. absurd (omega (arith, z, number-positive e.field-0.0))))))

pub returns-in_err-check_value-clause-answer : goal.returns-in_err-check_value-clause-answer
unfolding command_refusal
returns-in_err-check_value-clause-answer c f h =
    let p = err_from_is_err_and c.from_residual-in_err-check_value.result c.from_residual-in_err-check_value.ensures.1 in
    let e = c.in_err-check_value in
    let says = c.in-Some.ensures in
    let file = c.args.file.now in
    let places = c.args.places.now in
    rw (p.1, p.2)
    (sym
    (first_of_next _ (form file c.args.at places f c.in-Some.command h says ∙ sym c.in_ok-check_form.ensures.answer)
    (first_of_next _ (sym (c.in_ok-check_operand.ensures.answer file f _ h says))
    (first_of_here _ (value file c.args.at places f c.in-Some.command h says ∙ sym e.ensures) (λ z. absurd (omega (arith, z, number-positive e.field-0.0)))))))

pub returns-clause-answer : goal.returns-clause-answer
unfolding command_refusal
returns-clause-answer c f h =
    let says = c.in-Some.ensures in
    let file = c.args.file.now in
    let places = c.args.places.now in
    sym
    (first_of_next _ (form file c.args.at places f c.in-Some.command h says ∙ sym c.in_ok-check_form.ensures.answer)
    (first_of_next _ (sym (c.in_ok-check_operand.ensures.answer file f _ h says))
    (first_of_last _ ∙ value file c.args.at places f c.in-Some.command h says ∙ sym c.in_ok-check_value.ensures)))
