-- Monic polynomials: n bytes and a 1 on top. They stay monic of the same degree under a shorter sum, rise by a product with a
-- power of x and fall by one in the quotient by x + c, for which P(x) = (x + c)·Q(x) + P(c). Assumes nothing.
use mathlib.Core.Path.{◌≡◌, refl, sym, ◌∙◌, ap, ap₂}
use mathlib.Core.List.{List, [], ◌∷◌}
use Prim.Native.Nat.{ℕ, zero, suc, ◌+◌, ◌<◌, ◌≤◌}
use native.Mathlib.Nat.{zero-add, suc-add}
use native.Mathlib.Omega.{arith}
use lib.ListN.{length}
use Rattle.field.specs.Field.{plus, times}
use Rattle.field.proofs.Xor.{plus_comm, plus_assoc, plus_self, plus_lt, plus_zero, zero_plus, plus_swap}
use Rattle.field.proofs.Times.{times_lt, times_plus, times_zero}
use Rattle.field.proofs.Logarithm.{times_left_comm, plus_times}
use Rattle.code.specs.Polynomial.{eval, added}
use Rattle.arrays.proofs.Bytes.{Bytes}
use Rattle.code.proofs.Polynomials.Arithmetic.{eval_single}
use Rattle.locator.specs.Locator.{raised, quotient}

abbrev pub Monic : (degree : ℕ) → List ℕ → Type 0
Monic n [] = ⊥
Monic zero (p ∷ []) = p ≡ 1
Monic zero (p ∷ q ∷ ps) = ⊥
Monic (suc n) (p ∷ ps) = (p < 256) × Monic n ps

-- what it says: a length, bytes, a 1 on top
pub monic_length : (n : ℕ) (ps : List ℕ) → Monic n ps → length ps ≡ suc n
monic_length n [] m = absurd m
monic_length zero (p ∷ []) m = refl
monic_length zero (p ∷ q ∷ ps) m = absurd m
monic_length (suc n) (p ∷ ps) m = ap suc (monic_length n ps m.1)

pub monic_bytes : (n : ℕ) (ps : List ℕ) → Monic n ps → Bytes ps
monic_bytes n [] m = tt
monic_bytes zero (p ∷ []) m = (omega arith, tt)
monic_bytes zero (p ∷ q ∷ ps) m = absurd m
monic_bytes (suc n) (p ∷ ps) m = (m.0, monic_bytes n ps m.1)

pub monic_zero : (ps : List ℕ) (x : ℕ) → x < 256 → Monic zero ps → eval ps x ≡ 1
monic_zero [] x h m = absurd m
monic_zero (p ∷ []) x h m = eval_single p x (omega arith) h ∙ m
monic_zero (p ∷ q ∷ ps) x h m = absurd m

-- products with a power of x, and sums
pub monic_raised : (s n : ℕ) (ps : List ℕ) → Monic n ps → Monic (s + n) (raised s ps)
unfolding raised
monic_raised zero n ps m = rw zero-add m
monic_raised (suc s) n ps m = rw suc-add (omega arith, monic_raised s n ps m)

pub monic_added : (n : ℕ) (ps qs : List ℕ) → Monic n ps → length qs ≤ n → Monic n (added ps qs)
unfolding added
monic_added n [] qs m h = absurd m
monic_added n (p ∷ ps) [] m h = m
monic_added zero (p ∷ ps) (q ∷ qs) m h = absurd (omega arith)
monic_added (suc n) (p ∷ ps) (q ∷ qs) m h = (plus_lt p q, monic_added n ps qs m.1 (omega arith))

-- the quotient
pub monic_quotient : (n c : ℕ) (ps : List ℕ) → c < 256 → Monic (suc n) ps → Monic n (quotient c ps)
unfolding quotient eval
monic_quotient n c [] h m = absurd m
monic_quotient n c (p ∷ []) h m = absurd m.1
monic_quotient zero c (p ∷ q ∷ []) h m = monic_zero (q ∷ []) c h m.1
monic_quotient zero c (p ∷ q ∷ r ∷ ps) h m = absurd m.1
monic_quotient (suc n) c (p ∷ q ∷ ps) h m = (plus_lt _ _, monic_quotient n c (q ∷ ps) h m.1)

pub regroup : (a b c p : ℕ) → plus (plus (plus a b) c) (plus p b) ≡ plus p (plus c a)
regroup a b c p =
    ap (λ (z : ℕ). plus z (plus p b)) (plus_comm (plus a b) c ∙ sym (plus_assoc c a b)) ∙ plus_swap (plus c a) b p b ∙ ap (plus _) (plus_self b)
    ∙ plus_zero _ (plus_lt _ _) ∙ plus_comm (plus c a) p

pub quotient_eval :
    (x c : ℕ) (ps : List ℕ) → x < 256 → c < 256 → eval ps x ≡ plus (times (plus x c) (eval (quotient c ps) x)) (eval ps c)
unfolding quotient eval
quotient_eval x c [] h l = sym (plus_zero _ (times_lt _ _) ∙ times_zero (plus x c) (plus_lt x c))
quotient_eval x c (p ∷ []) h l =
    ap (plus p) (times_zero x h ∙ sym (times_zero c l))
    ∙ sym (ap (λ (z : ℕ). plus z (plus p (times c 0))) (times_zero (plus x c) (plus_lt x c)) ∙ zero_plus _ (plus_lt _ _))
quotient_eval x c (p ∷ q ∷ ps) h l =
    ap (λ (z : ℕ). plus p (times x z)) (quotient_eval x c (q ∷ ps) h l) ∙ ap (plus p) (times_plus x _ _ h)
    ∙ sym (regroup (times x f) (times c f) (times x (times (plus x c) g)) p)
    ∙ ap (λ (z : ℕ). plus z (plus p (times c f)))
    (ap₂ plus (sym (plus_times x c f h l (plus_lt _ _))) (times_left_comm x (plus x c) g h (plus_lt x c))
    ∙ sym (times_plus (plus x c) f (times x g) (plus_lt x c)))
  where
    f : ℕ
    f = eval (q ∷ ps) c

    g : ℕ
    g = eval (quotient c (q ∷ ps)) x
