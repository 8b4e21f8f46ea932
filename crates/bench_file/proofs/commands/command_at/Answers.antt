-- `command_at` meets its contract: the command's byte, and the three behind it. Assumes nothing.
use mathlib.Core.Path.{sym, ◌∙◌}
use native.Mathlib.Omega.{arith}
use Rattle.std.proofs.lemmas.Bool.Decides.{nat_tests}
use Rattle.bench_file.specs.Command.{is_known}
use Rattle.bench_file.proofs.OneCommand.Faults.{byte_in, command_at}
use Rattle.bench_file.proofs.commands.command_at.Goals as goal

pub returns-in-4 : goal.returns-in-4
returns-in-4 c =
    let bytes = c.args.file.now in
    let at = c.args.at in
    (command_at bytes at ∙ sym c.byte_at.ensures.0 ∙ c.in-4.is, byte_in bytes at 1 ∙ sym c.byte_at-first.ensures.0)

pub returns-in-2 : goal.returns-in-2
returns-in-2 c =
    let bytes = c.args.file.now in
    let at = c.args.at in
    (command_at bytes at ∙ sym c.byte_at.ensures.0 ∙ c.in-2.is, byte_in bytes at 1 ∙ sym c.byte_at-first.ensures.0, byte_in bytes at 2 ∙ sym c.byte_at-second.ensures.0)

pub returns-in-3 : goal.returns-in-3
returns-in-3 c =
    let bytes = c.args.file.now in
    let at = c.args.at in (
      command_at bytes at ∙ sym c.byte_at.ensures.0 ∙ c.in-3.is,
      byte_in bytes at 1 ∙ sym c.byte_at-first.ensures.0,
      byte_in bytes at 2 ∙ sym c.byte_at-second.ensures.0,
      byte_in bytes at 3 ∙ sym c.byte_at-third.ensures.0,
    )

pub returns-in-15 : goal.returns-in-15
returns-in-15 c = command_at c.args.file.now c.args.at ∙ sym c.byte_at.ensures.0 ∙ c.in-15.is

pub returns-in_default : goal.returns-in_default
unfolding is_known
returns-in_default c = rw (command_at c.args.file.now c.args.at, sym c.byte_at.ensures.0) (grind (arith, nat_tests))
