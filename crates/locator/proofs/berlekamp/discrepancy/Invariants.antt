use mathlib.Core.Path.{◌≡◌}
use Prim.Native.Nat.{◌+◌}
use lib.ListN.{drop}
use Rattle.locator.specs.Locator.{against}
use Rattle.locator.specs.Reached.{sums_of}
use Rattle.locator.proofs.berlekamp.discrepancy.Given as goal

abbrev pub invariant-loop-m : goal.invariant-loop-m
invariant-loop-m l = l.sum ≡ against (drop l.m l.locator) (sums_of l.p l.sums) (l.j + l.m)
