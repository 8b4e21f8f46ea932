-- The order of values byte by byte. What is left of a value from a byte on is that byte and what is left after it, so that the test of
-- what is left is decided by the byte or is the test of what is left after it. Assumes nothing.
use mathlib.Core.Path.{◌≡◌, sym, ◌∙◌, ap}
use mathlib.Core.Bool.{false, or-false}
use mathlib.Core.List.{◌∷◌}
use Prim.Native.Nat.{ℕ, suc, ◌+◌, ◌<◌}
use native.Mathlib.Omega.{arith}
use native.Mathlib.Numerals.{add-one}
use lib.Dec.{ltb}
use lib.ListN.{drop}
use lib.Seq.{drop-cons, drop-length}
use borrow.Author.Tests.{eq-eqb, ne_eqb, le-ltb}
use Rattle.grading.specs.Value.{bytes_before}
use Rattle.counting.specs.Steps.Table.{Planes, byte_in, value_in}
use Rattle.counting.proofs.Planes.{value_long, value_byte}

module _ (w : ℕ) (x : Planes) (i j k : ℕ) where
  module _ (p : ℕ) (inside : p < w) where
    -- what is left of a value from byte p on
    left : (r : ℕ) → drop p (value_in w x r k) ≡ byte_in x p r k ∷ drop (p + 1) (value_in w x r k)
    left r =
        let v = value_in w x r k in
        drop-cons v p 0 (omega (arith, value_long w x r k)) ∙ ap (λ (b : ℕ). b ∷ drop (suc p) v) (value_byte w x r k p inside)
        ∙ ap (λ (n : ℕ). byte_in x p r k ∷ drop n v) (sym (add-one p))

    pub before_on : byte_in x p i k ≡ byte_in x p j k →
        bytes_before (drop p (value_in w x i k)) (drop p (value_in w x j k)) ≡ bytes_before (drop (p + 1) (value_in w x i k)) (drop (p + 1) (value_in w x j k))
    unfolding bytes_before
    before_on e = rw (left i, left j, eq-eqb (byte_in x p i k) (byte_in x p j k) e, le-ltb (byte_in x p i k) (byte_in x p j k) (omega arith))

    pub before_first : (byte_in x p i k ≡ byte_in x p j k → ⊥) →
        bytes_before (drop p (value_in w x i k)) (drop p (value_in w x j k)) ≡ ltb (byte_in x p i k) (byte_in x p j k)
    unfolding bytes_before
    before_first d = rw (left i, left j, ne_eqb (byte_in x p i k) (byte_in x p j k) d) (or-false _)

  pub before_end : bytes_before (drop w (value_in w x i k)) (drop w (value_in w x j k)) ≡ false
  unfolding bytes_before
  before_end = rw (ap (λ (n : ℕ). drop n (value_in w x j k)) (sym (value_long w x j k)) ∙ drop-length (value_in w x j k))
