-- `Tables::inverse` meets its contract: a byte above 1 is 2^i with i from 1 to 254, and its inverse 2^(255 - i). Assumes nothing.
use mathlib.Core.Path.{◌≡◌, sym}
use Prim.Native.Nat.{ℕ, zero, suc, ◌≤◌}
use native.Mathlib.Omega.{arith}
use Rattle.field.specs.Field.{inverse}
use Rattle.field.proofs.Division.{inverse_zero, inverse_one}
use Rattle.field.proofs.Table.{inverse_at, exponent_positive}
use Rattle.field.proofs.tables.Tables.inverse.Goals as goal

own_inverse : (a : ℕ) → a ≤ 1 → a ≡ inverse a
own_inverse zero h = sym inverse_zero
own_inverse (suc zero) h = sym inverse_one
own_inverse (suc (suc a)) h = absurd (omega arith)

pub returns-then-a-le1 : goal.returns-then-a-le1
returns-then-a-le1 c = own_inverse c.args.a c.if-a-le1.true

pub bounds-self-exponent_of : goal.bounds-self-exponent_of
bounds-self-exponent_of c = omega (arith, exponent_positive c.args.a _ c.exponent_of.ensures.1 c.if-a-le1.false)

pub returns : goal.returns
returns c =
    let e = c.exponent_of.ensures in
    inverse_at _ c.args.self.now.right.0 c.args.a _ e.1 (exponent_positive c.args.a _ e.1 c.if-a-le1.false) e.0
