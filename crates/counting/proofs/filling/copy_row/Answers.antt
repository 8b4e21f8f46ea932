-- `copy_row` meets its contract: plane by plane, each of which is as it was until then. Assumes nothing.
use mathlib.Core.Path.{ap}
use mathlib.Core.List.{List, []}
use Prim.Native.Nat.{ℕ}
use native.Mathlib.Omega.{arith}
use lib.ListN.{get_or}
use Rattle.counting.specs.Steps.Table.{row_plane}
use Rattle.counting.proofs.Planes.{row_put_more}
use Rattle.counting.proofs.filling.copy_row.Goals as goal

pub loop-p-preserved : goal.loop-p-preserved
unfolding row_plane
loop-p-preserved c =
    let l = c.loop-p in
    let a = c.args in
    row_put_more _ _ _ l.p _ _ l.invariant (omega arith) (omega arith) (l.invariant.shape.bytes l.p a.j (omega arith) (omega arith))
    (ap (λ (rows : List (List ℕ)). get_or rows a.j []) (l.invariant.planes_kept l.p (omega arith)))
