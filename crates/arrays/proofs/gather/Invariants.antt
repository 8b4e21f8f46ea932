use Prim.Native.Nat.{◌+◌, ◌*◌}
use lib.ListN.{get_or}
use Rattle.arrays.specs.Array.{Written}
use Rattle.arrays.proofs.gather.Given as goal

abbrev pub invariant-loop-j : goal.invariant-loop-j
invariant-loop-j l = Written 0 l.j (λ k. get_or l.rows (l.width * k + l.p) 0) l.initial.to l.to
