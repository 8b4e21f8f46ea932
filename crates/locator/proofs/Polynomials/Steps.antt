-- One turn of the decoder's loops over a polynomial, as an equation. Sums and values go from the last coefficient to the first,
-- over what is left of the polynomial; and the quotient by x + c needs no array, since its coefficients are the values at c of
-- what is left. Assumes nothing.
use mathlib.Core.Path.{◌≡◌, refl, sym, ◌∙◌, ap}
use mathlib.Core.List.{List, [], ◌∷◌}
use Prim.Native.Nat.{ℕ, suc, ◌<◌}
use lib.ListN.{length, get_or, drop}
use lib.Seq.{drop-cons}
use borrow.Author.Tests.{eq-eqb, ne_eqb}
use Rattle.field.specs.Field.{plus, times, inverse}
use Rattle.field.proofs.Xor.{plus_self}
use Rattle.field.proofs.Times.{zero_times, times_zero}
use Rattle.code.specs.Polynomial.{eval}
use Rattle.locator.specs.Locator.{against, quotient, value}

-- the sum
pub against_drop :
    (ps : List ℕ) (m : ℕ) → m < length ps → (S : ℕ → ℕ) (j : ℕ) →
    against (drop m ps) S j ≡ plus (times (get_or ps m 0) (S j)) (against (drop (suc m) ps) S (suc j))
unfolding against
against_drop ps m h S j = ap (λ (qs : List ℕ). against qs S j) (drop-cons ps m 0 h)

-- of the quotient
pub eval_quotient : (p x : ℕ) (ps : List ℕ) → x < 256 → eval (quotient x (p ∷ ps)) x ≡ plus (eval ps x) (times x (eval (quotient x ps) x))
unfolding eval quotient
eval_quotient p x [] h = sym (ap (plus 0) (times_zero x h) ∙ plus_self 0)
eval_quotient p x (q ∷ ps) h = refl

pub against_quotient :
    (p x j : ℕ) (ps : List ℕ) (S : ℕ → ℕ) → against (quotient x (p ∷ ps)) S j ≡ plus (times (eval ps x) (S j)) (against (quotient x ps) S (suc j))
unfolding eval quotient against
against_quotient p x j [] S = sym (ap (λ (z : ℕ). plus z 0) (zero_times (S j)) ∙ plus_self 0)
against_quotient p x j (q ∷ ps) S = refl

-- the error at a place, by whether it is a root
pub value_root :
    (S : ℕ → ℕ) (ps : List ℕ) (x : ℕ) → eval ps x ≡ 0 → value S ps x ≡ times (against (quotient x ps) S 0) (inverse (eval (quotient x ps) x))
unfolding value
value_root S ps x e = rw (eq-eqb (eval ps x) 0 e)

pub value_no_root : (S : ℕ → ℕ) (ps : List ℕ) (x : ℕ) → (eval ps x ≡ 0 → ⊥) → value S ps x ≡ 0
unfolding value
value_no_root S ps x e = rw (ne_eqb (eval ps x) 0 e)
