use Rattle.sums.specs.Rows.{Lowered}
use Rattle.sums.proofs.rows.lower.Given as goal

abbrev pub invariant-loop-i : goal.invariant-loop-i
invariant-loop-i l = Lowered l.i l.initial.exponents l.exponents
