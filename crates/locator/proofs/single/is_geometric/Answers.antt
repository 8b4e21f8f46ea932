-- `is_geometric` meets its contract: every sum before the i-th is the ratio times the one before it. Assumes nothing.
use mathlib.Core.Path.{sym, ◌∙◌}
use native.Mathlib.Omega.{arith}
use Rattle.locator.specs.Plane.{GeometricAs}
use Rattle.locator.proofs.single.is_geometric.Goals as goal

pub returns-then-sums-at : goal.returns-then-sums-at
unfolding GeometricAs
returns-then-sums-at c =
    (c.loop-i.i, c.loop-i-test.true, λ e. c.if-sums-at.true (e ∙ sym c.product.ensures))

pub returns : goal.returns
unfolding GeometricAs
returns c = λ k o h. c.loop-i.invariant.1 k (omega arith) o
