use mathlib.Core.Path.{◌≡◌}
use lib.Dec.{eqb}
use lib.ListN.{take}
use Rattle.arrays.specs.Array.{all_zero}
use Rattle.arrays.proofs.is_zero.Given as goal

abbrev pub invariant-loop-byte : goal.invariant-loop-byte
invariant-loop-byte l = eqb l.any 0 ≡ all_zero (take l.byte-index l.bytes)
