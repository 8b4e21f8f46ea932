use Rattle.errors.specs.Fractions.{Numerators}
use Rattle.errors.proofs.fractions.numerators.Given as goal

abbrev pub invariant-loop-d : goal.invariant-loop-d
invariant-loop-d l = Numerators l.d l.size l.rows l.sums l.numerators
