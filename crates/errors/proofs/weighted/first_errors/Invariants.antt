use Rattle.arrays.specs.Array.{Filled}
use Rattle.code.specs.Size.{value_room}
use Rattle.errors.specs.Fractions.{first_told}
use Rattle.errors.proofs.weighted.first_errors.Given as goal

abbrev pub invariant-loop-p : goal.invariant-loop-p
invariant-loop-p l = Filled value_room l.p (λ q. first_told l.rows l.sums q) l.error-items
