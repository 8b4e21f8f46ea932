-- `put_numerator` meets its contract: each turn adds a coefficient's products, from the last one down. Assumes nothing.
use Prim.Native.Nat.{◌-◌}
use native.Mathlib.Omega.{arith}
use Rattle.errors.proofs.Quotients.{summed_none, summed_more}
use Rattle.errors.proofs.fractions.put_numerator.Goals as goal

pub loop-m-init : goal.loop-m-init
loop-m-init c =
    let a = c.args in
    (omega (arith, c.requires.row), summed_none a.size a.d a.rows.now a.sums.now _ c.requires.by_index)

pub loop-m-preserved : goal.loop-m-preserved
loop-m-preserved c =
    let a = c.args in
    (omega arith, summed_more a.size a.d a.rows.now a.sums.now _ c.loop-m.m (c.loop-m.m - 1) _ _ (omega arith) (omega arith) (omega arith) c.loop-m.invariant.1 c.add_products.ensures)
