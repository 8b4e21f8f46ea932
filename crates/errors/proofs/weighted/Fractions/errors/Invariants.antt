use lib.ListN.{get_or}
use Rattle.arrays.specs.Array.{Filled}
use Rattle.field.specs.Field.{times, inverse}
use Rattle.code.specs.Size.{value_room}
use Rattle.errors.proofs.weighted.Fractions.errors.Given as goal

abbrev pub invariant-loop-p : goal.invariant-loop-p
invariant-loop-p l = Filled value_room l.p (λ q. times (get_or l.above q 0) (inverse (get_or l.below q 0))) l.error-items
