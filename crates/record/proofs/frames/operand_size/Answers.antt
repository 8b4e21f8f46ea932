-- `operand_size` meets its contract: by the round. Assumes nothing.
use native.Mathlib.Omega.{arith}
use borrow.Author.Tests.{eq-eqb, ne_eqb}
use Rattle.code.specs.Settings.{settings, check_count, value_size}
use Rattle.record.specs.Frame.{operand_size}
use Rattle.record.proofs.Size.{checks_fit}
use Rattle.record.proofs.frames.operand_size.Goals as goal

pub returns-then-round-eq1 : goal.returns-then-round-eq1
unfolding operand_size value_size settings
returns-then-round-eq1 c = (simp (eq-eqb c.args.round 1 c.if-round-eq1.true), omega arith)

pub overflow_mul-result-2 : goal.overflow_mul-result-2
overflow_mul-result-2 c = omega (arith, checks_fit c.args.t c.args.w c.requires.0 c.requires.1)

pub overflow_cast-result-2 : goal.overflow_cast-result-2
overflow_cast-result-2 c = omega (arith, checks_fit c.args.t c.args.w c.requires.0 c.requires.1)

pub returns : goal.returns
unfolding operand_size check_count value_size settings
returns c = (simp (ne_eqb c.args.round 1 c.if-round-eq1.false), checks_fit c.args.t c.args.w c.requires.0 c.requires.1)
