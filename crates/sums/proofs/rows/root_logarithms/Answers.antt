-- `root_logarithms` meets its contract: what stands at a root in the table of logarithms is the root's. Assumes nothing.
use mathlib.Core.Path.{◌∙◌, ap}
use Prim.Native.Nat.{ℕ}
use native.Mathlib.Omega.{arith}
use lib.ListN.{get_or}
use Rattle.arrays.proofs.Written.{filled_more}
use Rattle.sums.proofs.AtPlace.Powers.{root_logarithm}
use Rattle.sums.proofs.rows.root_logarithms.Goals as goal

pub loop-i-preserved : goal.loop-i-preserved
loop-i-preserved c =
    filled_more _ _ _ _ _ c.loop-i.invariant (omega arith)
    (ap (λ (a : ℕ). get_or c.args.tables.now.logarithms a 0) c.from.ensures ∙ root_logarithm _ _ c.args.tables.now.right.1 c.roots-roots.ensures c.loop-i.i (omega arith))
