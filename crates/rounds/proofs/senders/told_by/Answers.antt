-- `told_by` meets its contract: its two cases. Assumes nothing.
use mathlib.Core.Path.{refl}
use native.Mathlib.Omega.{arith}
use borrow.Author.Tests.{eq-eqb, ne_eqb}
use Rattle.rounds.specs.Steps.Senders.{told_of}
use Rattle.rounds.proofs.senders.told_by.Goals as goal

pub returns-then-answer-ne0 : goal.returns-then-answer-ne0
unfolding told_of
returns-then-answer-ne0 c = rw (ne_eqb _ 0 c.if-answer-ne0.true) refl

pub overflow_cast-result : goal.overflow_cast-result
overflow_cast-result c = omega arith

pub returns : goal.returns
unfolding told_of
returns c = rw (eq-eqb _ 0 c.if-answer-ne0.false) refl
