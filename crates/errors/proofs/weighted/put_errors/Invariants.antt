use lib.ListN.{get_or}
use Rattle.errors.specs.Errors.{ErrorsPut}
use Rattle.errors.proofs.weighted.put_errors.Given as goal

abbrev pub invariant-loop-p : goal.invariant-loop-p
invariant-loop-p l = ErrorsPut l.p l.at (λ q. get_or l.errors q 0) l.initial.weighted l.weighted
