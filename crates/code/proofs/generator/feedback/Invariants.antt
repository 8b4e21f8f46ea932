use Rattle.code.specs.Steps.Windows.{FeedbackOf}
use Rattle.code.proofs.generator.feedback.Given as goal

abbrev pub invariant-loop-j : goal.invariant-loop-j
invariant-loop-j l = FeedbackOf l.j l.generator l.rest
