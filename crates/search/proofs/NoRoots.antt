-- A search that finds nothing: the constant 1 has no root at any place, so that none stands before any. Assumes nothing.
use mathlib.Core.Path.{◌≡◌, refl, ◌∙◌, ap}
use mathlib.Core.List.{[], ◌∷◌}
use Prim.Native.Nat.{ℕ, zero, suc}
use native.Mathlib.Omega.{arith}
use lib.ListN.{get_or}
use borrow.Author.Tests.{ne_eqb}
use Rattle.field.specs.Field.{plus, times, power}
use Rattle.field.proofs.Xor.{plus_zero}
use Rattle.field.proofs.Times.{times_zero}
use Rattle.field.proofs.Power.{power_lt}
use Rattle.code.specs.Settings.{Settings, check_count}
use Rattle.code.specs.Polynomial.{eval}
use Rattle.locator.specs.Errors.{place_exponent}
use Rattle.locator.specs.Search.{at_place, roots_below}

one_anywhere : (s : Settings) (j : ℕ) → at_place s (1 ∷ 0 ∷ []) j ≡ 1
unfolding at_place eval
one_anywhere s j =
    let x = power 2 (place_exponent s.n (check_count s) j) in
    let z : times x 0 ≡ 0 = times_zero x (power_lt 2 _) in
    let y : plus 0 (times x 0) ≡ 0 = ap (plus 0) z ∙ plus_zero 0 (omega arith) in
    ap (λ (k : ℕ). plus 1 (times x k)) y ∙ ap (plus 1) z ∙ plus_zero 1 (omega arith)

pub one_nowhere : (s : Settings) (j : ℕ) → at_place s (1 ∷ 0 ∷ []) j ≡ 0 → ⊥
one_nowhere s j e = omega (arith, one_anywhere s j, e)

pub no_roots_below : (v : ℕ → ℕ) → ((j : ℕ) → v j ≡ 0 → ⊥) → (k : ℕ) → roots_below v k ≡ 0
unfolding roots_below
no_roots_below v none zero = refl
no_roots_below v none (suc k) = rw (ne_eqb (v k) 0 (none k)) (omega (arith, no_roots_below v none k))

pub one_at : (i : ℕ) → get_or {A = ℕ} (1 ∷ []) i 0 ≡ get_or (1 ∷ 0 ∷ []) i 0
one_at zero = refl
one_at (suc zero) = refl
one_at (suc (suc i)) = refl
