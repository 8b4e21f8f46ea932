-- `errors` meets its contract: the values of both polynomials, and their quotients plane by plane. Assumes nothing.
use mathlib.Core.Path.{◌≡◌}
use native.Mathlib.Omega.{arith}
use Rattle.code.specs.Size.{value_room}
use Rattle.arrays.proofs.Written.{filled_more, filled_to}
use Rattle.errors.proofs.Quotients.{fractions_filled}
use Rattle.errors.proofs.weighted.Fractions.errors.Goals as goal

pub loop-p-preserved : goal.loop-p-preserved
loop-p-preserved c = filled_more _ _ _ _ _ c.loop-p.invariant (omega arith) c.divided.ensures

pub returns : goal.returns
returns c =
    let s = c.args.self.now in
    fractions_filled s.above.many s.below.many c.args.exponent _ s.above.rows.now s.below.rows.now _ _ _ s.half c.step_on-twice.ensures.1
    c.values-above.ensures c.values-below.ensures (filled_to (let e : c.loop-p.p ≡ value_room = omega arith in e) c.loop-p.invariant)
