-- `field::reduced` meets its contract: the powers of 2 repeat after 255. Assumes nothing.
use mathlib.Core.Path.{◌≡◌, sym, ◌∙◌, ap}
use Prim.Native.Nat.{◌+◌, ◌-◌}
use native.Mathlib.Omega.{arith}
use Rattle.field.specs.Field.{power}
use Rattle.field.proofs.Power.{power_past}
use Rattle.field.proofs.reduced.Goals as goal

pub returns-else-exponent-lt255 : goal.returns-else-exponent-lt255
returns-else-exponent-lt255 c =
    let e = c.args.exponent in
    (omega arith, sym (power_past (e - 255)) ∙ ap (power 2) (let s : e - 255 + 255 ≡ e = omega arith in s))
