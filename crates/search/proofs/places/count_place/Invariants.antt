use mathlib.Core.Bool.{cond}
use Prim.Native.Nat.{◌+◌}
use lib.Dec.{eqb}
use lib.ListN.{get_or}
use Rattle.arrays.specs.Array.{Written}
use Rattle.search.proofs.places.count_place.Given as goal

abbrev pub invariant-loop-p : goal.invariant-loop-p
invariant-loop-p l = Written 0 l.p (λ q. get_or l.initial.tried q 0 + cond (eqb (get_or l.left q 0) 0) 0 1) l.initial.tried l.tried
