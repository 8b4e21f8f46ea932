use Rattle.field.proofs.Exponents.{Lengthened}
use Rattle.field.proofs.long.long_logarithms.Given as goal

abbrev pub invariant-loop-a : goal.invariant-loop-a
invariant-loop-a l = Lengthened l.a l.logarithms l.long
