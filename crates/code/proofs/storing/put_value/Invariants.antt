use lib.ListN.{length}
use Rattle.arrays.specs.Array.{Filled}
use Rattle.code.specs.Steps.Windows.{byte_in}
use Rattle.code.proofs.storing.put_value.Given as goal

abbrev pub invariant-loop-p : goal.invariant-loop-p
invariant-loop-p l = Filled (length l.initial.value) l.p (λ q. byte_in q l.i l.windows) l.value
