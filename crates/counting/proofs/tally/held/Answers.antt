-- `held` meets its contract: of each column the value that is found so often is the value held, and its confidence goes by how often.
-- Assumes nothing.
use mathlib.Core.Path.{◌≡◌, refl, ◌∙◌}
use Prim.Native.Nat.{◌<◌}
use native.Mathlib.Omega.{arith}
use Rattle.arrays.specs.Array.{in_front, padded}
use Rattle.code.specs.Settings.{settings}
use Rattle.code.specs.Size.{most_columns}
use Rattle.grading.specs.Value.{entries}
use Rattle.grading.specs.Count.{held_list}
use Rattle.counting.proofs.Placed.{padded_entry, stores_as, stores_held}
use Rattle.counting.proofs.Tallied.{held_value, held_confidence}
use Rattle.counting.proofs.tally.held.Goals as goal

pub loop-k-init : goal.loop-k-init
unfolding padded in_front entries
loop-k-init c = refl

pub loop-k-preserved : goal.loop-k-preserved
loop-k-preserved c =
    let l = c.loop-k in
    let r = c.args.rows.now in
    let t = c.args.t in
    let h : l.k < r.n = omega arith in
    rw l.invariant
    (padded_entry most_columns l.k _ _ (omega arith)
    (c.confidence.ensures ∙ held_confidence r.n t r.w r.table.now l.k h _ _ (c.find-standings.ensures l.k h)))

pub returns : goal.returns
unfolding held_list settings
returns c =
    let r = c.args.rows.now in
    let t = c.args.t in
    let e : c.loop-k.k ≡ r.n = omega arith in
    stores_held (settings r.n t r.w) _ _ _
    (stores_as r.n t r.w _ _ _ (λ k h. held_value r.n t r.w r.table.now k h _ (c.find-standings.ensures k h)) c.values_from-values.ensures)
    (rw e at c.loop-k.invariant)
