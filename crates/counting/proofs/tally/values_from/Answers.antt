-- `values_from` meets its contract: the values one after the other, placed in zeros, which are the blank ones. Assumes nothing.
use mathlib.Core.Path.{◌≡◌, refl}
use native.Mathlib.Omega.{arith}
use borrow.Author.Tests.{le-leb, lt-leb}
use Rattle.code.specs.Settings.{settings, value_size}
use Rattle.code.proofs.ValidSettings.{values_fit}
use Rattle.counting.specs.Steps.Tally.{value_from}
use Rattle.counting.proofs.Planes.{value_long}
use Rattle.counting.proofs.Placed.{placed_none, placed_next, placed_zeros, placed_stores}
use Rattle.counting.proofs.tally.values_from.Goals as goal
use Rattle.counting.proofs.tally.values_from.Goals.{then-least-leads, else-least-leads}

pub loop-k-init : goal.loop-k-init
loop-k-init c = placed_none _ _ _ refl

pub loop-k-preserved : goal.loop-k-preserved
unfolding value_from
loop-k-preserved c =
    let l = c.loop-k in
    let w = c.args.rows.now.w in
    elim c.if-least-leads.branch [
      | then-least-leads b ↦
          rw b.vector-is
          (placed_next w l.k _ _ _ _ l.invariant (value_long w c.args.rows.now.table.now _ l.k)
          (rw (le-leb _ _ b.if-least-leads.true) refl) b.put_from_row.ensures)
      | else-least-leads b ↦
          rw b.vector-is (placed_zeros w l.k _ _ l.invariant (rw (lt-leb _ _ b.if-least-leads.false) refl))
    ]

pub returns : goal.returns
unfolding settings value_size
returns c =
    let n = c.args.rows.now.n in
    let w = c.args.rows.now.w in
    let e : c.loop-k.k ≡ n = omega arith in
    placed_stores (settings n 0 w) _ c.loop-k.vector (rw e at c.loop-k.invariant) (values_fit n w (omega arith) (omega arith))
