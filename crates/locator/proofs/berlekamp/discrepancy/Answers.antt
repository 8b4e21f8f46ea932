-- `locator::discrepancy` meets its contract: the loop has the sum over the coefficients from m on. Assumes nothing.
use mathlib.Core.Path.{◌∙◌, ap}
use Prim.Native.Nat.{ℕ}
use native.Mathlib.Omega.{arith}
use Rattle.field.specs.Field.{plus}
use Rattle.locator.specs.Reached.{sums_of}
use Rattle.locator.proofs.Polynomials.Horner.{against_end, against_turn}
use Rattle.locator.proofs.berlekamp.discrepancy.Goals as goal

pub loop-m-init : goal.loop-m-init
loop-m-init c =
    let y = c.args in
    against_end y.locator.now (sums_of y.p y.sums.now) y.j

pub loop-m-preserved : goal.loop-m-preserved
loop-m-preserved c =
    let y = c.args in
    c.sum-sum.ensures ∙ ap (λ (z : ℕ). plus z c.loop-m.sum) c.product.ensures
    ∙ against_turn y.locator.now (sums_of y.p y.sums.now) y.j c.loop-m.m c.loop-m.sum (omega arith) (omega arith) c.loop-m.invariant
