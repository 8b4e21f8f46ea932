-- `locator::add_scaled` meets its contract: the loop has added the coefficients below i. Assumes nothing.
use mathlib.Core.Path.{sym, ◌∙◌, ap, ap₂}
use mathlib.Core.List.{List}
use Prim.Native.Nat.{ℕ}
use native.Mathlib.Omega.{arith}
use native.Mathlib.Numerals.{add-one}
use lib.ListN.{get_or, take, set}
use Rattle.field.specs.Field.{plus, power}
use Rattle.code.specs.Polynomial.{added, scaled}
use Rattle.locator.proofs.Polynomials.Coefficients.{added_first, added_turn}
use Rattle.locator.proofs.berlekamp.add_scaled.Goals as goal

pub loop-i-init : goal.loop-i-init
loop-i-init c = let y = c.args in added_first (power 2 y.exponent) y.polynomial.now y.other.now

pub loop-i-preserved : goal.loop-i-preserved
loop-i-preserved c =
    let y = c.args in
    ap₂ (λ (p : List ℕ) (v : ℕ). set p c.loop-i.i v) c.loop-i.invariant
    (c.sum.ensures ∙ ap₂ plus (ap (λ (p : List ℕ). get_or p c.loop-i.i 0) c.loop-i.invariant) c.raised-multiple.ensures)
    ∙ added_turn (power 2 y.exponent) c.loop-i.i y.polynomial.now y.other.now (omega arith) (omega arith)
    ∙ ap (λ (n : ℕ). added y.polynomial.now (scaled (power 2 y.exponent) (take n y.other.now))) (sym (add-one c.loop-i.i))
