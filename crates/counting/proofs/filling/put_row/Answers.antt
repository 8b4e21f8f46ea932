-- `put_row` meets its contract: a byte of each value goes to each plane, which is as it was until then. Assumes nothing.
use mathlib.Core.Path.{◌≡◌, ◌∙◌, ap}
use mathlib.Core.List.{List, []}
use Prim.Native.Nat.{ℕ}
use native.Mathlib.Omega.{arith}
use lib.ListN.{length, get_or}
use Rattle.arrays.specs.Array.{in_front}
use Rattle.code.specs.Size.{most_columns}
use Rattle.code.specs.Vector.{plane, cut}
use Rattle.counting.specs.Steps.Table.{row_plane, written_plane}
use Rattle.counting.proofs.Planes.{plane_gathered, row_put_more}
use Rattle.counting.proofs.filling.put_row.Goals as goal
use Rattle.counting.proofs.filling.put_row.Goals.{In-loop-p}

-- the row of a plane has a byte for each column
wide : (c : In-loop-p) → length (get_or (get_or c.loop-p.table c.loop-p.p []) c.args.i []) ≡ most_columns
wide c = let l = c.loop-p in l.invariant.shape.bytes l.p c.args.i (omega arith) (omega arith)

pub loop-p-preserved : goal.loop-p-preserved
unfolding row_plane written_plane
loop-p-preserved c =
    let l = c.loop-p in
    let a = c.args in
    let long = wide (goal.at.loop-p-preserved c).In-loop-p in
    let kept = l.invariant.planes_kept l.p (omega arith) in
    row_put_more _ _ _ l.p _ _ l.invariant (omega arith) (omega arith) (c.gather.ensures.long ∙ long)
    (plane_gathered a.n a.w l.p a.row.now _ _ (omega arith) (omega arith) c.gather.ensures
    ∙ ap (λ (rows : List (List ℕ)). in_front (plane l.p (cut a.n a.w a.row.now)) (get_or rows a.i [])) kept)
