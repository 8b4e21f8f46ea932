-- The register that divides by the generator. One step takes the lowest coefficient f out and adds f times the feedback to the
-- rest; where a root times the feedback's value there is 1, the rest times the root is then what the whole was. So after
-- n steps the rest times the root's n-th power is the value at the start, and the rest is the checks. Assumes nothing.
use mathlib.Core.Path.{◌≡◌, sym, ◌∙◌, ap, ap₂}
use mathlib.Core.Bool.{true}
use mathlib.Core.List.{List, ◌∷◌, ◌++◌, reverse, reverse-reverse}
use Prim.Native.Nat.{ℕ, zero, suc, ◌+◌, ◌*◌, ◌-◌, ◌≤◌, ◌<◌}
use native.Mathlib.Omega.{arith}
use native.Mathlib.Decide.{dec_lt}
use native.Mathlib.Nat.{mul-add, mul_comm}
use native.Mathlib.Numerals.{add-one}
use lib.ListN.{length, get_or, drop, replicate, get_or-eq_default, length-drop, length-reverse, length-replicate}
use lib.Seq.{get_or-drop, drop-cons, ext_get_or}
use Rattle.field.specs.Field.{plus, times, power}
use Rattle.field.proofs.Xor.{plus_comm, plus_self, plus_zero, zero_plus}
use Rattle.field.proofs.Times.{times_plus, times_zero, one_times}
use Rattle.field.proofs.Power.{power_lt, power_suc, power_zero, power_add, power_mul, order_of_two}
use Rattle.field.proofs.Logarithm.{times_assoc, times_comm, times_left_comm, times_one}
use Rattle.code.specs.Settings.{Settings, settings_refusal, check_count}
use Rattle.code.specs.Polynomial.{eval, added, scaled, first_exponent, root}
use Rattle.code.specs.Plane.{syndrome, is_codeword, data_polynomial, check_polynomial}
use Rattle.arrays.proofs.Bytes.{Bytes, byte_at, bytes_drop, bytes_reverse}
use Rattle.code.proofs.Polynomials.Arithmetic.{eval_lt, eval_added, eval_scaled, eval_append, eval_zeros, get_or_added, get_or_scaled, bytes_scaled, length_added, length_scaled}
use Rattle.code.proofs.Polynomials.Generator.{root_lt}
use Rattle.code.proofs.Polynomials.Remainder.{syndrome_eval}
use Rattle.code.proofs.ValidSettings.{sizes}
use Rattle.code.proofs.Codewords.Word.{Shape, word_back}

-- exponents of a root that sum up to 255 lead around
power_root : (i a b : ℕ) → a + b ≡ 255 → times (power (root i) a) (power (root i) b) ≡ 1
unfolding root
power_root i a b e =
    ap₂ times (power_mul (first_exponent + i) a) (power_mul (first_exponent + i) b) ∙ power_add ((first_exponent + i) * a) ((first_exponent + i) * b)
    ∙ ap (power 2) (sym (mul-add (first_exponent + i) a b) ∙ ap (λ (k : ℕ). (first_exponent + i) * k) e ∙ mul_comm (first_exponent + i) 255) ∙ sym (power_mul 255 (first_exponent + i))
    ∙ ap (λ (x : ℕ). power x (first_exponent + i)) order_of_two ∙ one_power (first_exponent + i)
  where
    one_power : (k : ℕ) → power 1 k ≡ 1
    one_power zero = power_zero 1
    one_power (suc k) = power_suc 1 k ∙ one_times (power 1 k) (power_lt 1 k) ∙ one_power k

-- one step of the register, and its value at a root
pub step_value :
    (r f : ℕ) (rest hs : List ℕ) → r < 256 → f < 256 → times r (eval hs r) ≡ 1 → times r (eval (added rest (scaled f hs)) r) ≡ eval (f ∷ rest) r
unfolding eval
step_value r f rest hs h l e =
    ap (times r) (eval_added rest (scaled f hs) r h ∙ ap (plus (eval rest r)) (eval_scaled f hs r l h)) ∙ times_plus r _ _ h
    ∙ ap (plus (times r (eval rest r))) (times_left_comm r f (eval hs r) h l ∙ ap (times f) e ∙ times_one f l) ∙ plus_comm _ f

-- a step on coefficients: those above coefficient s get its multiples of the feedback
step_list :
    (s : ℕ) (hs xs ys : List ℕ) → s + length hs < length xs → length ys ≡ length xs → Bytes xs →
    ((j : ℕ) → j < length hs → get_or ys (suc s + j) 0 ≡ plus (get_or xs (suc s + j) 0) (times (get_or xs s 0) (get_or hs j 0))) →
    ((j : ℕ) → length hs ≤ j → suc s + j < length xs → get_or ys (suc s + j) 0 ≡ get_or xs (suc s + j) 0) →
    drop (suc s) ys ≡ added (drop (suc s) xs) (scaled (get_or xs s 0) hs)
step_list s hs xs ys h l byte near far =
    ext_get_or 0 (drop (suc s) ys) (added (drop (suc s) xs) (scaled f hs)) (now_long ∙ sym sum_long) (λ j g. at j (rw now_long at g))
  where
    f : ℕ
    f = get_or xs s 0

    now_long : length (drop (suc s) ys) ≡ length xs - suc s
    now_long = length-drop (suc s) ys ∙ ap (λ (k : ℕ). k - suc s) l

    rest_long : length (drop (suc s) xs) ≡ length xs - suc s
    rest_long = length-drop (suc s) xs

    sum_long : length (added (drop (suc s) xs) (scaled f hs)) ≡ length xs - suc s
    sum_long = length_added (drop (suc s) xs) (scaled f hs) (omega (arith, length_scaled f hs, rest_long)) ∙ rest_long

    coefficient : (j : ℕ) → get_or (added (drop (suc s) xs) (scaled f hs)) j 0 ≡ plus (get_or xs (suc s + j) 0) (times f (get_or hs j 0))
    coefficient j =
        get_or_added (drop (suc s) xs) (scaled f hs) j (bytes_drop (suc s) xs byte) (bytes_scaled f hs)
        ∙ ap₂ plus (get_or-drop (suc s) xs j 0) (get_or_scaled f hs j (byte_at xs s byte))

    entry : (j : ℕ) → suc s + j < length xs → Dec (j < length hs) → get_or ys (suc s + j) 0 ≡ plus (get_or xs (suc s + j) 0) (times f (get_or hs j 0))
    entry j g (yes d) = near j d
    entry j g (no d) =
        far j (omega arith) g
        ∙ sym (ap (plus _) (ap (times f) (get_or-eq_default hs 0 (omega arith)) ∙ times_zero f (byte_at xs s byte)) ∙ plus_zero _ (byte_at xs (suc s + j) byte))

    at : (j : ℕ) → j < length xs - suc s → get_or (drop (suc s) ys) j 0 ≡ get_or (added (drop (suc s) xs) (scaled f hs)) j 0
    at j g = get_or-drop (suc s) ys j 0 ∙ entry j (omega arith) (dec_lt j (length hs)) ∙ sym (coefficient j)

-- and on the value of what is left, with the power of the root that it is taken by
pub step_left :
    (s r : ℕ) (hs xs ys : List ℕ) → s + length hs < length xs → length ys ≡ length xs → Bytes xs → r < 256 → times r (eval hs r) ≡ 1 →
    ((j : ℕ) → j < length hs → get_or ys (suc s + j) 0 ≡ plus (get_or xs (suc s + j) 0) (times (get_or xs s 0) (get_or hs j 0))) →
    ((j : ℕ) → length hs ≤ j → suc s + j < length xs → get_or ys (suc s + j) 0 ≡ get_or xs (suc s + j) 0) →
    times (power r (s + 1)) (eval (drop (s + 1) ys) r) ≡ times (power r s) (eval (drop s xs) r)
step_left s r hs xs ys h l byte q e near far =
    ap₂ (λ (x : ℕ) (y : List ℕ). times x (eval y r)) (ap (power r) (add-one s) ∙ power_suc r s ∙ times_comm r (power r s) q (power_lt r s))
    (ap (λ (n : ℕ). drop n ys) (add-one s) ∙ step_list s hs xs ys h l byte near far)
    ∙ times_assoc (power r s) r _ (power_lt r s) q
    ∙ ap (times (power r s))
    (step_value r (get_or xs s 0) (drop (suc s) xs) hs q (byte_at xs s byte) e ∙ ap (λ (y : List ℕ). eval y r) (sym (drop-cons xs s 0 (omega arith))))

-- n steps over the columns, last first: the rest in reverse is the checks
pub divided_codeword :
    (s : Settings) (bs rest : List ℕ) → settings_refusal s ≡ 0 → length bs ≡ s.n → Bytes bs → length rest ≡ check_count s → Bytes rest →
    ((i : ℕ) → i < check_count s → times (power (root i) s.n) (eval rest (root i)) ≡ eval (reverse bs) (root i)) → is_codeword s bs (reverse rest) ≡ true
unfolding data_polynomial check_polynomial
divided_codeword s bs rest q e b l g value = word_back s bs (reverse rest) (record { shape = shape; roots = zero_at_root })
  where
    shape : Shape s bs (reverse rest)
    shape = record { many = e; many_checks = length-reverse rest ∙ l; bytes = b; check_bytes = bytes_reverse rest g }

    turned : (i : ℕ) → i < check_count s → eval (replicate (255 - length bs) 0 ++ reverse bs) (root i) ≡ eval rest (root i)
    turned i h =
        let r = root i in
        eval_append (replicate (255 - length bs) 0) (reverse bs) r (root_lt i)
        ∙ ap₂ plus (eval_zeros (255 - length bs) r (root_lt i))
        (ap₂ (λ (k x : ℕ). times (power r k) x) (length-replicate (255 - length bs) 0) (sym (value i h))
        ∙ sym (times_assoc (power r (255 - length bs)) (power r s.n) (eval rest r) (power_lt r _) (power_lt r _))
        ∙ ap (λ (x : ℕ). times x (eval rest r)) (around i) ∙ one_times _ (eval_lt rest r))
        ∙ zero_plus _ (eval_lt rest r)
      where
        around : (j : ℕ) → times (power (root j) (255 - length bs)) (power (root j) s.n) ≡ 1
        around j = power_root j (255 - length bs) s.n (omega (arith, e, (sizes s q).few_columns))

    zero_at_root : (i : ℕ) → i < check_count s → syndrome s i bs (reverse rest) ≡ 0
    zero_at_root i h =
        syndrome_eval s i bs (reverse rest) (sizes s q) shape
        ∙ ap₂ plus (turned i h) (ap (λ (ps : List ℕ). eval ps (root i)) (reverse-reverse rest)) ∙ plus_self _
