-- The longer tables: a sum of two exponents below 255 is below 510, where the powers of 2 stand twice over, and with the exponent of 0 it
-- is 510 or more, where zeros stand. So what stands at a sum of exponents is the product. Assumes nothing.
use mathlib.Core.Path.{◌≡◌, sym, ◌∙◌, ap, subst}
use mathlib.Core.Bool.{true}
use mathlib.Core.List.{List}
use mathlib.Core.Logic.{inl, inr, ⊎_elim}
use Prim.Native.Nat.{ℕ, ◌+◌, ◌*◌, ◌-◌, ◌≤◌, ◌<◌}
use native.Mathlib.Omega.{arith}
use native.Mathlib.Nat.{zero-add}
use native.Mathlib.Decide.{ℕ_discrete, dec_le}
use lib.ListN.{length, get_or}
use borrow.Author.Tests.{lt-ltb, le-ltb}
use Rattle.arrays.specs.Array.{all_zero, Written}
use Rattle.arrays.proofs.Zeros.{zero_at}
use Rattle.field.specs.Field.{times, power}
use Rattle.field.specs.Table.{Powers, Logarithms}
use Rattle.field.specs.Exponents.{no_exponent, ExponentOf, byte_at, LongPowers, LongLogarithms}
use Rattle.field.proofs.Times.{zero_times, times_zero}
use Rattle.field.proofs.Power.{power_lt, power_add, power_past}
use Rattle.field.proofs.Table.{powers_at}

pub byte_power : (e : ℕ) → e < no_exponent → byte_at e ≡ power 2 e
unfolding byte_at
byte_power e h = rw (lt-ltb e no_exponent h)

pub byte_zero : (e : ℕ) → no_exponent ≤ e → byte_at e ≡ 0
unfolding byte_at
byte_zero e h = rw (le-ltb e no_exponent h)

pub exponent_small : (a e : ℕ) → ExponentOf a e → e ≤ no_exponent
unfolding ExponentOf
exponent_small a e = ⊎_elim (λ z. omega (arith, z.1)) (λ p. omega (arith, p.0))

-- an exponent below 255, and that of a byte
pub byte_raised : (i b j : ℕ) → i < 255 → ExponentOf b j → byte_at (i + j) ≡ times (power 2 i) b
unfolding ExponentOf
byte_raised i b j h =
    ⊎_elim
    (λ z. byte_zero (i + j) (omega (arith, z.1)) ∙ sym (ap (times (power 2 i)) z.0 ∙ times_zero (power 2 i) (power_lt 2 i)))
    (λ p. byte_power (i + j) (omega (arith, p.0)) ∙ sym (power_add i j) ∙ ap (times (power 2 i)) p.1)

-- the exponents of two bytes
pub byte_product : (a b i j : ℕ) → ExponentOf a i → ExponentOf b j → byte_at (i + j) ≡ times a b
unfolding ExponentOf
byte_product a b i j f g =
    ⊎_elim
    (λ z. byte_zero (i + j) (omega (arith, z.1)) ∙ sym (ap (λ (x : ℕ). times x b) z.0 ∙ zero_times b))
    (λ p. byte_raised i b j p.0 g ∙ ap (λ (x : ℕ). times x b) p.1) f

-- the powers of 2 written twice into zeros
pub long_made :
    (powers zeros once table : List ℕ) → Powers powers → length zeros ≡ 2 * no_exponent + 1 → all_zero zeros ≡ true →
    Written 0 255 (λ p. get_or powers (0 + p) 0) zeros once → Written 255 255 (λ p. get_or powers (0 + p) 0) once table → LongPowers table
long_made powers zeros once table p e z v w = record { many = w.long ∙ v.long ∙ e; entry = λ k. go k (dec_le 255 k) (dec_le 510 k) }
  where
    at : (k : ℕ) → k < 255 → get_or powers (0 + k) 0 ≡ power 2 k
    at k h = ap (λ (i : ℕ). get_or powers i 0) (zero-add k) ∙ powers_at powers p k h

    low : (k : ℕ) → k < 255 → get_or once k 0 ≡ power 2 k
    low k h = ap (λ (i : ℕ). get_or once i 0) (sym (zero-add k)) ∙ v.new k h ∙ at k h

    go : (k : ℕ) → Dec (255 ≤ k) → Dec (510 ≤ k) → get_or table k 0 ≡ byte_at k
    go k (no l) d = w.before k (omega arith) ∙ low k (omega arith) ∙ sym (byte_power k (omega arith))
    go k (yes l) (no h) =
        let back : 255 + (k - 255) ≡ k = omega arith in
        let over : k - 255 + 255 ≡ k = omega arith in
        subst (λ (i : ℕ). get_or table i 0 ≡ power 2 (k - 255)) back (w.new (k - 255) (omega arith) ∙ at (k - 255) (omega arith))
        ∙ sym (power_past (k - 255)) ∙ ap (power 2) over ∙ sym (byte_power k (omega arith))
    go k (yes l) (yes h) = w.after k (omega arith) ∙ v.after k (omega arith) ∙ zero_at zeros z k ∙ sym (byte_zero k h)

-- the bytes but 0 below a have their exponents, and 0 that of its own
pub record Lengthened (a : ℕ) (logarithms long : List ℕ) : Type 0 where
  pub many : length long ≡ 256
  pub none : get_or long 0 0 ≡ no_exponent
  pub entry : (b : ℕ) → 1 ≤ b → b < a → get_or long b 0 ≡ get_or logarithms b 0

pub lengthened_all : (a : ℕ) (logarithms long : List ℕ) → 256 ≤ a → Logarithms logarithms → Lengthened a logarithms long → LongLogarithms long
unfolding ExponentOf
lengthened_all a logarithms long h l w = record { many = w.many; entry = λ b m. go b m (ℕ_discrete b 0) }
  where
    go : (b : ℕ) → b < 256 → Dec (b ≡ 0) → ExponentOf b (get_or long b 0)
    go b m (yes f) = inl (f, ap (λ (x : ℕ). get_or long x 0) f ∙ w.none)
    go b m (no f) =
        let e = w.entry b (omega arith) (omega arith) in
        inr (omega (arith, e, l.small b (omega arith) m), ap (power 2) e ∙ l.exponent b (omega arith) m)
