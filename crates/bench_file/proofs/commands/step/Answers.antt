-- `step` meets its contract: what a command comes to is the refusal, the end, or the place behind it. Assumes nothing.
use mathlib.Core.Path.{◌≡◌, sym, ◌∙◌, ap, ap₂}
use Prim.Native.Nat.{ℕ, ◌+◌}
use lib.ListN.{drop}
use Rattle.std.proofs.lemmas.Result.{err_from_is_err_and}
use Rattle.bench_file.specs.Command.{command_in, command_size}
use Rattle.bench_file.specs.Steps.CommandAt.{Stepped}
use Rattle.bench_file.proofs.OneCommand.Faults.{says_code, not_end}
use Rattle.bench_file.proofs.commands.step.Goals as goal

pub returns-in_err-command : goal.returns-in_err-command
unfolding Stepped
returns-in_err-command c f h =
    let p = err_from_is_err_and c.from_residual.result c.from_residual.ensures.1 in
    rw (p.1, p.2) (c.in_err-command.ensures.answer f h)

pub returns-in-End : goal.returns-in-End
unfolding Stepped
returns-in-End c f h = (sym (c.in_ok-command.ensures.answer f h), rw c.in-End.is at c.in_ok-command.ensures.says.0, h)

pub returns : goal.returns
unfolding Stepped
returns c f h =
    let a = c.args in
    let command = c.in_ok-command.command in
    let says = c.in_ok-command.ensures.says.0 in
    let code = says_code _ command says in
    let fine = sym (c.in_ok-command.ensures.answer f h) in
    let goes_on : command_in (drop a.at a.file.now) ≡ 15 → ⊥ = λ z. not_end command c.in_default.not-End (sym code ∙ z) in (
      fine,
      goes_on,
      ap (λ (i : ℕ). a.at + i) (c.size.ensures.value ∙ ap₂ command_size (sym h.settings) (sym code)),
      c.put.ensures a.file.now f (record { located = h; inside = c.requires; says = says; fine = fine; goes_on = goes_on }),
    )
