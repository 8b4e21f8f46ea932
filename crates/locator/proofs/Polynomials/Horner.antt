-- Loops over the coefficients of a polynomial, from the highest down. After the coefficients from m on a loop has the sum of `drop m`; a
-- turn adds coefficient m - 1, and at 0 the polynomial is whole. Assumes nothing.
use mathlib.Core.Path.{◌≡◌, ◌∙◌, ap}
use mathlib.Core.List.{List}
use Prim.Native.Nat.{ℕ, zero, suc, ◌+◌, ◌-◌, ◌<◌, ◌≤◌}
use native.Mathlib.Omega.{arith}
use native.Mathlib.Nat.{add-zero}
use lib.ListN.{length, get_or, drop}
use lib.Seq.{drop-length}
use Rattle.field.specs.Field.{plus, times}
use Rattle.locator.specs.Locator.{against}
use Rattle.locator.proofs.Polynomials.Steps.{against_drop}

-- the power sums that stand in a list
abbrev pub entries : List ℕ → ℕ → ℕ
entries s i = get_or s i 0

-- the sum against power sums
pub against_end : (p : List ℕ) (S : ℕ → ℕ) (j : ℕ) → 0 ≡ against (drop (length p) p) S (j + length p)
unfolding against
against_end p S j = rw (drop-length p)

pub against_turn :
    (p : List ℕ) (S : ℕ → ℕ) (j m a : ℕ) → 0 < m → m ≤ length p → a ≡ against (drop m p) S (j + m) →
    plus (times (get_or p (m - 1) 0) (S (j + (m - 1)))) a ≡ against (drop (m - 1) p) S (j + (m - 1))
against_turn p S j zero a h l e = absurd (omega arith)
against_turn p S j (suc m) a h l e =
    rw (let q : suc m - 1 ≡ m = omega arith in q, against_drop p m l S (j + m))
    (ap (plus (times (get_or p m 0) (S (j + m)))) (e ∙ ap (against (drop (suc m) p) S) (let q : j + suc m ≡ suc (j + m) = omega arith in q)))

pub against_done : (p : List ℕ) (S : ℕ → ℕ) (j m a : ℕ) → m ≤ 0 → a ≡ against (drop m p) S (j + m) → a ≡ against p S j
against_done p S j zero a h e = e ∙ ap (against p S) (add-zero j)
against_done p S j (suc m) a h e = absurd (omega arith)
