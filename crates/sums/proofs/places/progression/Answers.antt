-- `progression` meets its contract: each exponent is a step on from the one before. Assumes nothing.
use mathlib.Core.Path.{◌≡◌, sym, ◌∙◌, ap}
use Prim.Native.Nat.{ℕ, ◌+◌, ◌*◌}
use native.Mathlib.Omega.{arith}
use native.Mathlib.Nat.{suc-mul}
use native.Mathlib.Numerals.{add-one}
use Rattle.arrays.proofs.Written.{filled_more}
use Rattle.field.specs.Field.{times, power}
use Rattle.field.proofs.Power.{power_add}
use Rattle.field.proofs.Table.{powers_at}
use Rattle.sums.proofs.places.progression.Goals as goal

onward :
    (start step i e k : ℕ) → power 2 e ≡ power 2 (start + i * step) → power 2 k ≡ power 2 (e + step) → power 2 k ≡ power 2 (start + (i + 1) * step)
onward start step i e k h q =
    q ∙ sym (power_add e step) ∙ ap (λ (x : ℕ). times x (power 2 step)) h ∙ power_add (start + i * step) step
    ∙ ap (power 2) (rw (add-one i, suc-mul) (omega arith))

pub loop-constant-preserved : goal.loop-constant-preserved
loop-constant-preserved c =
    let l = c.loop-constant in
    let a = c.args in (
      c.step_on-exponent.ensures.0,
      onward a.start a.step l.constant-index l.exponent c.step_on-exponent.result l.invariant.1 c.step_on-exponent.ensures.1,
      filled_more _ _ _ _ _ l.invariant.2 (omega arith) (powers_at _ c.requires.0 _ l.invariant.0 ∙ l.invariant.1),
    )
