-- `is_zero` meets its contract: each turn takes one more byte in. Assumes nothing.
use native.Mathlib.Omega.{arith}
use Rattle.arrays.proofs.Zeros.{any_more}
use Rattle.arrays.proofs.is_zero.Goals as goal

pub loop-byte-preserved : goal.loop-byte-preserved
loop-byte-preserved c = let l = c.loop-byte in any_more l.byte-index l.any c.args.bytes.now (omega arith) l.invariant
