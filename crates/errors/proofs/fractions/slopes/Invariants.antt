use Rattle.errors.specs.Fractions.{Slopes}
use Rattle.errors.proofs.fractions.slopes.Given as goal

abbrev pub invariant-loop-k : goal.invariant-loop-k
invariant-loop-k l = Slopes l.k l.rows l.slopes
