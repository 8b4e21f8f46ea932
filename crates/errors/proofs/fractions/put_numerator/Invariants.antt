use Prim.Native.Nat.{◌≤◌}
use Rattle.errors.proofs.Quotients.{SummedFrom}
use Rattle.errors.proofs.fractions.put_numerator.Given as goal

abbrev pub invariant-loop-m : goal.invariant-loop-m
invariant-loop-m l = (l.d ≤ l.m) × SummedFrom l.size l.d l.rows l.sums l.initial.numerators l.m l.numerators
