use mathlib.Core.Path.{◌≡◌}
use Prim.Native.Nat.{◌-◌}
use lib.ListN.{length}
use Rattle.code.specs.Size.{most_checks}
use Rattle.sums.specs.Rows.{RootExponents, CheckSums}
use Rattle.sums.proofs.rows.syndromes.Given as goal

abbrev pub invariant-loop-c : goal.invariant-loop-c
invariant-loop-c l =
    RootExponents l.count (l.count - l.c) l.exponents × (length l.constants ≡ most_checks) × CheckSums l.c l.count l.difference l.sums
