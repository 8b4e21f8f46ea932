-- `put_root_powers` meets its contract: the table holds the powers of 2. Assumes nothing.
use mathlib.Core.Path.{◌≡◌, ◌∙◌, ap}
use Prim.Native.Nat.{◌+◌, ◌<◌}
use native.Mathlib.Omega.{arith}
use lib.ListN.{get_or, take}
use Rattle.arrays.proofs.Written.{written_more}
use Rattle.field.specs.Field.{power}
use Rattle.field.proofs.Table.{powers_at}
use Rattle.sums.proofs.Sums.Terms.{first_at}
use Rattle.sums.proofs.rows.put_root_powers.Goals as goal
use Rattle.sums.proofs.rows.put_root_powers.Goals.{After-from}

-- the exponent of a turn
module _ (c : After-from) where
  turn : (c.loop-i.i < c.args.count) × (get_or (take c.args.count c.args.exponents.now) c.loop-i.i 0 ≡ get_or c.args.exponents.now c.loop-i.i 0)
  turn = first_at c.args.count c.args.exponents.now (omega (arith, c.requires.1.long)) c.loop-i.i c.loop-i-test.true

  found : c.from.result ≡ get_or c.args.exponents.now c.loop-i.i 0
  found = c.from.ensures ∙ turn.1

  small : c.from.result < 255
  small = rw found (c.requires.1.small c.loop-i.i turn.0)

pub loop-i-preserved : goal.loop-i-preserved
loop-i-preserved c =
    let f = (goal.at.loop-i-preserved c).After-from in
    let e : 0 + c.loop-i.i ≡ c.loop-i.i = omega arith in
    rw e at (written_more _ _ _ _ _ _ c.loop-i.invariant (omega (arith, (turn f).0, c.requires.0, c.requires.2)) (powers_at _ c.args.tables.now.right.0 _ (small f) ∙ ap (power 2) (found f)))
