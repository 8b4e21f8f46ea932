-- `check_column` meets its contract, line by line. Assumes nothing.
use mathlib.Core.Path.{sym, ◌∙◌}
use native.Mathlib.Omega.{arith}
use Rattle.bench_file.specs.Command.{column_refusal}
use Rattle.bench_file.proofs.OneCommand.Faults.{column_as, small_settings}
use Rattle.bench_file.proofs.commands.check_column.Goals as goal

pub returns-then-not-is_column-clause-answer : goal.returns-then-not-is_column-clause-answer
unfolding column_refusal
returns-then-not-is_column-clause-answer c file f h = simp (column_as f _ _ h.settings (sym c.is_column.ensures.value ∙ c.if-not-is_column.true))

pub is_good-requires : goal.is_good-requires
is_good-requires c =
    let i = c.is_column.ensures.inside c.if-not-is_column.false in
    omega (arith, i.0, i.1, (small_settings c.args.places.now.settings).0)

pub returns-then-is_good-clause-answer : goal.returns-then-is_good-clause-answer
unfolding column_refusal
returns-then-is_good-clause-answer c file f h =
    simp (column_as f _ _ h.settings (sym c.is_column.ensures.value ∙ c.if-not-is_column.false), sym (c.is_good.ensures file f h) ∙ c.if-is_good.true)

pub returns-clause-answer : goal.returns-clause-answer
unfolding column_refusal
returns-clause-answer c file f h =
    simp (column_as f _ _ h.settings (sym c.is_column.ensures.value ∙ c.if-not-is_column.false), sym (c.is_good.ensures file f h) ∙ c.if-is_good.false)

pub returns-clause-inside : goal.returns-clause-inside
returns-clause-inside c =
    let i = c.is_column.ensures.inside c.if-not-is_column.false in
    omega (arith, i.0, i.1, (small_settings c.args.places.now.settings).0)
