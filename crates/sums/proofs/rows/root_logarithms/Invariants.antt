use Prim.Native.Nat.{◌+◌}
use Rattle.arrays.specs.Array.{Filled}
use Rattle.code.specs.Size.{most_checks}
use Rattle.code.specs.Polynomial.{first_exponent}
use Rattle.sums.proofs.rows.root_logarithms.Given as goal

abbrev pub invariant-loop-i : goal.invariant-loop-i
invariant-loop-i l = Filled most_checks l.i (λ k. first_exponent + k) l.of_roots
