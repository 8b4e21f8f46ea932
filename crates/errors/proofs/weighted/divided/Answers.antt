-- `divided` meets its contract: the exponents subtract, and 0 goes by itself. Assumes nothing.
use mathlib.Core.Path.{◌≡◌, sym, ◌∙◌, ap, ap₂}
use mathlib.Core.List.{List}
use Prim.Native.Nat.{ℕ, ◌+◌, ◌<◌, max}
use native.Mathlib.Omega.{arith}
use lib.ListN.{get_or}
use Rattle.field.specs.Field.{times, power, inverse}
use Rattle.field.specs.Table.{Logarithms}
use Rattle.field.proofs.Times.{zero_times, times_zero}
use Rattle.field.proofs.Power.{power_lt, power_nonzero, power_add}
use Rattle.field.proofs.Table.{powers_at}
use Rattle.field.proofs.Division.{inverse_zero, times_divide}
use Rattle.errors.proofs.weighted.divided.Goals as goal
use Rattle.errors.proofs.weighted.divided.Goals.{After-from-2, then-above-eq0-via-then-above-eq0, then-above-eq0-via-else-above-eq0+then-below-eq0}

-- the exponent of a byte, that of 1 for 0
exponent_of :
    (table : List ℕ) → Logarithms table → (a m i : ℕ) → i ≡ m → m ≡ max a 1 → a < 256 →
    (get_or table i 0 < 255) × ((a ≡ 0 → ⊥) → power 2 (get_or table i 0) ≡ a)
exponent_of table l a m i e q h =
    rw (e, q)
    (l.small (max a 1) (omega arith) (omega arith), λ n. l.exponent (max a 1) (omega arith) (omega arith) ∙ (let k : max a 1 ≡ a = omega arith in k))

-- what was looked up
module _ (c : After-from-2) where
  abbrev logarithm : ℕ → ℕ
  logarithm a = get_or c.args.tables.now.logarithms a 0

  up : (logarithm c.from.result < 255) × ((c.args.above ≡ 0 → ⊥) → power 2 (logarithm c.from.result) ≡ c.args.above)
  up = exponent_of _ c.args.tables.now.right.1 c.args.above _ _ c.from.ensures c.max-dividend.ensures (omega arith)

  down : (logarithm c.from-2.result < 255) × ((c.args.below ≡ 0 → ⊥) → power 2 (logarithm c.from-2.result) ≡ c.args.below)
  down = exponent_of _ c.args.tables.now.right.1 c.args.below _ _ c.from-2.ensures c.max-divisor.ensures (omega arith)

pub bounds-tables-from-3 : goal.bounds-tables-from-3
bounds-tables-from-3 c = rw c.from-3.ensures (c.step_back.ensures.0 (up (goal.at.bounds-tables-from-3 c).After-from-2).0)

pub returns-then-above-eq0 : goal.returns-then-above-eq0
returns-then-above-eq0 c =
    elim c.then-above-eq0.branch [
      | then-above-eq0-via-then-above-eq0 w ↦ sym (ap (λ (a : ℕ). times a (inverse c.args.below)) w.if-above-eq0.true ∙ zero_times (inverse c.args.below))
      | then-above-eq0-via-else-above-eq0+then-below-eq0 w ↦ sym (ap (times c.args.above) (ap inverse w.if-below-eq0.true ∙ inverse_zero) ∙ times_zero c.args.above (omega arith))
    ]

-- a power times the divisor is the dividend, and so it is their quotient
quotient_is : (r i j : ℕ) → power 2 (r + j) ≡ power 2 i → power 2 r ≡ times (power 2 i) (inverse (power 2 j))
quotient_is r i j e =
    sym (times_divide (power 2 r) (power 2 j) (power_lt 2 r) (power_lt 2 j) (power_nonzero j))
    ∙ ap (λ (x : ℕ). times x (inverse (power 2 j))) (power_add r j ∙ e)

pub returns : goal.returns
returns c =
    let f = (goal.at.returns c).After-from-2 in
    powers_at _ c.args.tables.now.right.0 c.from-3.result (rw c.from-3.ensures (c.step_back.ensures.0 (up f).0)) ∙ ap (power 2) c.from-3.ensures
    ∙ quotient_is _ _ _ c.step_back.ensures.1
    ∙ ap₂ (λ (x y : ℕ). times x (inverse y)) ((up f).1 c.if-above-eq0.false) ((down f).1 c.if-below-eq0.false)
