use Rattle.code.proofs.Encoding.Factors.{Factored}
use Rattle.code.proofs.generator.times_factor.Given as goal

abbrev pub invariant-loop-i : goal.invariant-loop-i
invariant-loop-i l = Factored l.c l.i l.initial.polynomial l.polynomial
