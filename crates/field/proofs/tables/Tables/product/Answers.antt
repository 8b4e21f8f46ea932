-- `Tables::product` meets its contract: a factor 0 by itself, and else the exponents add. Assumes nothing.
use mathlib.Core.Path.{sym, ◌∙◌, ap}
use Prim.Native.Nat.{ℕ}
use native.Mathlib.Omega.{arith}
use Rattle.field.specs.Field.{times}
use Rattle.field.proofs.Times.{zero_times, times_zero}
use Rattle.field.proofs.Table.{product_at}
use Rattle.field.proofs.tables.Tables.product.Goals as goal
use Rattle.field.proofs.tables.Tables.product.Goals.{then-a-eq0-via-then-a-eq0, then-a-eq0-via-else-a-eq0+then-b-eq0}

pub returns-then-a-eq0 : goal.returns-then-a-eq0
returns-then-a-eq0 c =
    elim c.then-a-eq0.branch [
      | then-a-eq0-via-then-a-eq0 w ↦ sym (ap (λ (x : ℕ). times x c.args.b) w.if-a-eq0.true ∙ zero_times c.args.b)
      | then-a-eq0-via-else-a-eq0+then-b-eq0 w ↦ sym (ap (times c.args.a) w.if-b-eq0.true ∙ times_zero c.args.a (omega arith))
    ]

pub returns : goal.returns
returns c =
    product_at _ c.args.self.now.right.0 c.args.a c.args.b _ _ c.reduced.result c.exponent_of.ensures.1 c.exponent_of-2.ensures.1 c.reduced.ensures.0 c.reduced.ensures.1
