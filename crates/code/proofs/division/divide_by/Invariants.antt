use Prim.Native.Nat.{◌+◌}
use lib.ListN.{take}
use Rattle.code.specs.Steps.Windows.{Divided}
use Rattle.code.proofs.division.divide_by.Given as goal

abbrev pub invariant-loop-s : goal.invariant-loop-s
invariant-loop-s g l = Divided l.s l.n l.size (l.n + l.count) (take l.count l.feedback) l.vector l.windows
