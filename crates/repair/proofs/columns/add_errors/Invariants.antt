use lib.ListN.{length, get_or}
use Rattle.arrays.specs.Array.{Filled}
use Rattle.field.specs.Field.{plus, times}
use Rattle.repair.proofs.columns.add_errors.Given as goal

abbrev pub invariant-loop-p : goal.invariant-loop-p
invariant-loop-p l = Filled (length l.initial.output) l.p (λ q. plus (get_or l.value q 0) (times l.constant (get_or l.errors q 0))) l.output
