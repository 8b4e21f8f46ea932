-- `exponent_of` meets its contract: it is the table's entry. Assumes nothing.
use native.Mathlib.Omega.{arith}
use Rattle.field.specs.Exponents.{ExponentOf}
use Rattle.field.proofs.Exponents.{exponent_small}
use Rattle.field.proofs.long.exponent_of.Goals as goal

pub returns : goal.returns
returns c =
    let e : ExponentOf c.args.a c.from-2.result = rw (← c.from-2.ensures, c.from.ensures) at (c.requires.entry c.from.result (omega arith)) in
    (e, exponent_small _ _ e)
