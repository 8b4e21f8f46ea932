-- Polynomials by value and by coefficient. The value at a byte x goes through sums, constant factors, shifts and products,
-- each by induction over the first list, because the product of bytes is linear in both factors; and a value depends on
-- nothing but the coefficients, so that zeros at the end of a list do not count. Assumes nothing.
use mathlib.Core.Path.{◌≡◌, refl, sym, ◌∙◌, ap, ap₂}
use mathlib.Core.List.{List, [], ◌∷◌, ◌++◌}
use Prim.Native.Nat.{ℕ, zero, suc, ◌≤◌, ◌<◌}
use native.Mathlib.Omega.{arith}
use lib.ListN.{length, get_or, replicate}
use Rattle.field.specs.Field.{plus, times, power}
use Rattle.field.proofs.Xor.{plus_assoc, plus_self, plus_lt, plus_zero, zero_plus, plus_swap}
use Rattle.field.proofs.Times.{times_lt, times_plus, one_times, zero_times, times_zero}
use Rattle.field.proofs.Power.{power_zero, power_suc, power_lt}
use Rattle.field.proofs.Logarithm.{times_assoc, times_left_comm, plus_times}
use Rattle.code.specs.Polynomial.{eval, added, scaled, multiplied, times_factor}
use Rattle.arrays.proofs.Bytes.{Bytes, byte_at}

-- the value of a sum, a multiple, a shift and a product
pub eval_lt : (ps : List ℕ) (x : ℕ) → eval ps x < 256
unfolding eval
eval_lt [] x = omega arith
eval_lt (p ∷ ps) x = plus_lt _ _

pub eval_added : (ps qs : List ℕ) (x : ℕ) → x < 256 → eval (added ps qs) x ≡ plus (eval ps x) (eval qs x)
unfolding eval added
eval_added [] qs x h = sym (zero_plus _ (eval_lt qs x))
eval_added (p ∷ ps) [] x h = sym (plus_zero _ (plus_lt _ _))
eval_added (p ∷ ps) (q ∷ qs) x h = ap (plus (plus p q)) (ap (times x) (eval_added ps qs x h) ∙ times_plus x _ _ h) ∙ plus_swap p q _ _

pub eval_scaled : (c : ℕ) (ps : List ℕ) (x : ℕ) → c < 256 → x < 256 → eval (scaled c ps) x ≡ times c (eval ps x)
unfolding eval scaled
eval_scaled c [] x h l = sym (times_zero c h)
eval_scaled c (p ∷ ps) x h l =
    ap (plus (times c p)) (ap (times x) (eval_scaled c ps x h l) ∙ times_left_comm x c _ l h) ∙ sym (times_plus c p _ h)

pub eval_shift : (ps : List ℕ) (x : ℕ) → eval (0 ∷ ps) x ≡ times x (eval ps x)
unfolding eval
eval_shift ps x = zero_plus _ (times_lt _ _)

pub eval_factor : (c : ℕ) (ps : List ℕ) (x : ℕ) → c < 256 → x < 256 → eval (times_factor c ps) x ≡ times (plus x c) (eval ps x)
unfolding times_factor
eval_factor c ps x h l =
    eval_added (0 ∷ ps) (scaled c ps) x l ∙ ap₂ plus (eval_shift ps x) (eval_scaled c ps x h l) ∙ sym (plus_times x c (eval ps x) l h (eval_lt ps x))

pub eval_multiplied : (ps qs : List ℕ) (x : ℕ) → Bytes ps → x < 256 → eval (multiplied ps qs) x ≡ times (eval ps x) (eval qs x)
unfolding eval multiplied
eval_multiplied [] qs x b h = sym (zero_times _)
eval_multiplied (p ∷ ps) qs x b h =
    eval_added (scaled p qs) (0 ∷ multiplied ps qs) x h
    ∙ ap₂ plus (eval_scaled p qs x b.0 h)
    (eval_shift (multiplied ps qs) x ∙ ap (times x) (eval_multiplied ps qs x b.1 h) ∙ sym (times_assoc x (eval ps x) (eval qs x) h (eval_lt ps x)))
    ∙ sym (plus_times p _ (eval qs x) b.0 (times_lt _ _) (eval_lt qs x))

-- the value of one list behind another, of one coefficient, of zeros
pub eval_append : (ps qs : List ℕ) (x : ℕ) → x < 256 → eval (ps ++ qs) x ≡ plus (eval ps x) (times (power x (length ps)) (eval qs x))
unfolding eval
eval_append [] qs x h =
    sym (zero_plus _ (times_lt _ _) ∙ ap (λ (z : ℕ). times z (eval qs x)) (power_zero x) ∙ one_times _ (eval_lt qs x))
eval_append (p ∷ ps) qs x h =
    ap (plus p) (ap (times x) (eval_append ps qs x h) ∙ times_plus x _ _ h) ∙ sym (plus_assoc p _ _)
    ∙ ap (plus (eval (p ∷ ps) x)) (sym (times_assoc x _ _ h (power_lt x (length ps))) ∙ ap (λ (z : ℕ). times z (eval qs x)) (sym (power_suc x (length ps))))

pub eval_single : (p x : ℕ) → p < 256 → x < 256 → eval (p ∷ []) x ≡ p
unfolding eval
eval_single p x h l = ap (plus p) (times_zero x l) ∙ plus_zero p h

pub eval_zeros : (n x : ℕ) → x < 256 → eval (replicate n 0) x ≡ 0
unfolding eval
eval_zeros zero x h = refl
eval_zeros (suc n) x h = eval_shift (replicate n 0) x ∙ ap (times x) (eval_zeros n x h) ∙ times_zero x h

-- equal coefficients give equal values
pub eval_ext : (ps qs : List ℕ) (x : ℕ) → x < 256 → ((i : ℕ) → get_or ps i 0 ≡ get_or qs i 0) → eval ps x ≡ eval qs x
unfolding eval
eval_ext [] [] x h e = refl
eval_ext [] (q ∷ qs) x h e =
    sym (ap₂ (λ (a b : ℕ). plus a (times x b)) (sym (e 0)) (sym (eval_ext [] qs x h (λ i. e (suc i)))) ∙ ap (plus 0) (times_zero x h) ∙ plus_self 0)
eval_ext (p ∷ ps) [] x h e =
    ap₂ (λ (a b : ℕ). plus a (times x b)) (e 0) (eval_ext ps [] x h (λ i. e (suc i))) ∙ ap (plus 0) (times_zero x h) ∙ plus_self 0
eval_ext (p ∷ ps) (q ∷ qs) x h e = ap₂ (λ (a b : ℕ). plus a (times x b)) (e 0) (eval_ext ps qs x h (λ i. e (suc i)))

-- sums, multiples and products are bytes
pub bytes_added : (ps qs : List ℕ) → Bytes ps → Bytes qs → Bytes (added ps qs)
unfolding added
bytes_added [] qs b d = d
bytes_added (p ∷ ps) [] b d = b
bytes_added (p ∷ ps) (q ∷ qs) b d = (plus_lt p q, bytes_added ps qs b.1 d.1)

pub bytes_scaled : (c : ℕ) (ps : List ℕ) → Bytes (scaled c ps)
unfolding scaled
bytes_scaled c [] = tt
bytes_scaled c (p ∷ ps) = (times_lt c p, bytes_scaled c ps)

pub bytes_multiplied : (ps qs : List ℕ) → Bytes (multiplied ps qs)
unfolding multiplied
bytes_multiplied [] qs = tt
bytes_multiplied (p ∷ ps) qs = bytes_added (scaled p qs) (0 ∷ multiplied ps qs) (bytes_scaled p qs) (omega arith, bytes_multiplied ps qs)

-- the coefficients of a sum, a multiple and a product
pub get_or_added : (ps qs : List ℕ) (i : ℕ) → Bytes ps → Bytes qs → get_or (added ps qs) i 0 ≡ plus (get_or ps i 0) (get_or qs i 0)
unfolding added
get_or_added [] qs i b d = sym (zero_plus _ (byte_at qs i d))
get_or_added (p ∷ ps) [] i b d = sym (plus_zero _ (byte_at (p ∷ ps) i b))
get_or_added (p ∷ ps) (q ∷ qs) zero b d = refl
get_or_added (p ∷ ps) (q ∷ qs) (suc i) b d = get_or_added ps qs i b.1 d.1

pub get_or_scaled : (c : ℕ) (ps : List ℕ) (i : ℕ) → c < 256 → get_or (scaled c ps) i 0 ≡ times c (get_or ps i 0)
unfolding scaled
get_or_scaled c [] i h = sym (times_zero c h)
get_or_scaled c (p ∷ ps) zero h = refl
get_or_scaled c (p ∷ ps) (suc i) h = get_or_scaled c ps i h

pub get_or_multiplied :
    (p : ℕ) (ps qs : List ℕ) (i : ℕ) → p < 256 → get_or (multiplied (p ∷ ps) qs) i 0 ≡ plus (times p (get_or qs i 0)) (get_or (0 ∷ multiplied ps qs) i 0)
unfolding multiplied
get_or_multiplied p ps qs i h =
    get_or_added (scaled p qs) (0 ∷ multiplied ps qs) i (bytes_scaled p qs) (omega arith, bytes_multiplied ps qs)
    ∙ ap (λ (z : ℕ). plus z (get_or (0 ∷ multiplied ps qs) i 0)) (get_or_scaled p qs i h)

-- lengths
pub length_added : (ps qs : List ℕ) → length qs ≤ length ps → length (added ps qs) ≡ length ps
unfolding added
length_added [] [] h = refl
length_added [] (q ∷ qs) h = absurd (omega arith)
length_added (p ∷ ps) [] h = refl
length_added (p ∷ ps) (q ∷ qs) h = ap suc (length_added ps qs (omega arith))

pub length_scaled : (c : ℕ) (ps : List ℕ) → length (scaled c ps) ≡ length ps
unfolding scaled
length_scaled c [] = refl
length_scaled c (p ∷ ps) = ap suc (length_scaled c ps)
