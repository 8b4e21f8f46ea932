-- Arrays of zeros. Every byte of one is 0, and an array that is none has a byte that is not. The machine's `or` of two bytes is 0
-- only where both are, so that the `or` of the first bytes tells whether they all are 0. Assumes nothing.
use mathlib.Core.Path.{◌≡◌, refl, sym, ◌∙◌, ap}
use mathlib.Core.Bool.{Bool, true, false, ◌&&◌, and_assoc, and-true}
use mathlib.Core.List.{List, [], ◌∷◌, ◌++◌}
use Prim.Native.Nat.{ℕ, zero, suc, ◌+◌, ◌<◌}
use native.Mathlib.Numerals.{add-one}
use native.Mathlib.Omega.{arith}
use lib.Bits.{bit_or, or_zero_l, or_add_and, and_le_r}
use lib.Dec.{eqb}
use lib.ListN.{length, get_or, take, replicate}
use lib.Seq.{take-suc, get_or-take}
use borrow.Author.Tests.{eqb-true, eqb-false, ne_eqb}
use Rattle.arrays.specs.Array.{all_zero}
use Rattle.arrays.proofs.Bool.{and_split, true_not_false}

pub zero_at : (xs : List ℕ) → all_zero xs ≡ true → (i : ℕ) → get_or xs i 0 ≡ 0
zero_at [] e i = refl
zero_at (x ∷ xs) e zero = eqb-true x 0 (and_split (eqb x 0) (all_zero xs) e).0
zero_at (x ∷ xs) e (suc i) = zero_at xs (and_split (eqb x 0) (all_zero xs) e).1 i

pub first_zero_at : (many : ℕ) (xs : List ℕ) → all_zero (take many xs) ≡ true → (i : ℕ) → i < many → get_or xs i 0 ≡ 0
first_zero_at many xs e i h = sym (get_or-take many xs i 0 h) ∙ zero_at (take many xs) e i

pub zeros_at : (n i : ℕ) → ◌≡◌ {A = ℕ} (get_or (replicate n 0) i 0) 0
zeros_at zero i = refl
zeros_at (suc n) zero = refl
zeros_at (suc n) (suc i) = zeros_at n i

pub some_not_zero : (xs : List ℕ) → all_zero xs ≡ false → (i : ℕ) × (i < length xs) × (get_or xs i 0 ≡ 0 → ⊥)
some_not_zero [] e = true_not_false e
some_not_zero (x ∷ xs) e = go (eqb x 0) refl (λ f. some_not_zero xs (ap (λ (t : Bool). t && all_zero xs) (sym f) ∙ e))
  where
    go : (t : Bool) → eqb x 0 ≡ t → (t ≡ true → (i : ℕ) × (i < length xs) × (get_or xs i 0 ≡ 0 → ⊥)) →
        (i : ℕ) × (i < length (x ∷ xs)) × (get_or (x ∷ xs) i 0 ≡ 0 → ⊥)
    go false f rest = (0, omega arith, eqb-false x 0 f)
    go true f rest = let (i, inside, other) = rest refl in (suc i, omega arith, other)

-- the `or` of two bytes, and of the first bytes
pub or_zero : (a b : ℕ) → eqb (bit_or a b) 0 ≡ (eqb a 0 && eqb b 0)
or_zero a b = go (eqb a 0) refl
  where
    go : (t : Bool) → eqb a 0 ≡ t → eqb (bit_or a b) 0 ≡ (t && eqb b 0)
    go true e = rw (eqb-true a 0 e, or_zero_l b) refl
    go false e = ne_eqb (bit_or a b) 0 (λ z. eqb-false a 0 e (omega (arith, or_add_and a b, and_le_r a b)))

all_zero_last : (xs : List ℕ) (x : ℕ) → all_zero (xs ++ (x ∷ [])) ≡ (all_zero xs && eqb x 0)
all_zero_last [] x = and-true (eqb x 0)
all_zero_last (y ∷ xs) x = ap (◌&&◌ (eqb y 0)) (all_zero_last xs x) ∙ sym (and_assoc (eqb y 0) (all_zero xs) (eqb x 0))

pub any_more :
    (i any : ℕ) (bytes : List ℕ) → i < length bytes → eqb any 0 ≡ all_zero (take i bytes) →
    eqb (bit_or any (get_or bytes i 0)) 0 ≡ all_zero (take (i + 1) bytes)
any_more i any bytes h e =
    or_zero any (get_or bytes i 0) ∙ ap (λ (t : Bool). t && eqb (get_or bytes i 0) 0) e ∙ sym (all_zero_last (take i bytes) (get_or bytes i 0))
    ∙ ap all_zero (sym (take-suc bytes i 0 h) ∙ ap (λ (k : ℕ). take k bytes) (sym (add-one i)))
