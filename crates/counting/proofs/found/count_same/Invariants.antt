use mathlib.Core.Bool.{cond}
use Prim.Native.Nat.{◌+◌}
use lib.Dec.{eqb}
use lib.ListN.{get_or}
use Rattle.arrays.specs.Array.{Written}
use Rattle.counting.proofs.found.count_same.Given as goal

abbrev pub invariant-loop-k : goal.invariant-loop-k
invariant-loop-k l = Written 0 l.k (λ j. get_or l.initial.times j 0 + cond (eqb (get_or l.marks j 0) 0) 1 0) l.initial.times l.times
