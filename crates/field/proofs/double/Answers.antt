-- `field::double` meets its contract, which is the definition's own two cases. Assumes nothing.
use mathlib.Core.Path.{◌≡◌, ◌∙◌, ap}
use Prim.Native.Nat.{ℕ, ◌*◌, ◌-◌}
use native.Mathlib.Omega.{arith}
use borrow.Author.Tests.{lt-ltb, le-ltb}
use Rattle.field.specs.Field.{plus, doubled}
use Rattle.field.proofs.Xor.{bitXor_plus}
use Rattle.field.proofs.double.Goals as goal

pub returns-then-a-lt128 : goal.returns-then-a-lt128
unfolding doubled
returns-then-a-lt128 c = simp (lt-ltb _ _ c.if-a-lt128.true)

pub returns-else-a-lt128 : goal.returns-else-a-lt128
unfolding doubled
returns-else-a-lt128 c =
    let a = c.args.a in
    simp (le-ltb _ _ c.if-a-lt128.false)
    (bitXor_plus (2 * (a - 128)) 135 (omega arith) (omega arith)
    ∙ ap (λ (x : ℕ). plus x 135) (let e : 2 * (a - 128) ≡ 2 * a - 256 = omega arith in e))
