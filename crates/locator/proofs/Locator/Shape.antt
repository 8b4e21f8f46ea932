-- The state of the locator after k numbers, whatever they are: the locator is monic of degree `size`, at most k, and the one
-- before it is short enough to be added below the top. Each step keeps this, in each of its three cases. Assumes nothing.
use mathlib.Core.Path.{◌≡◌, refl, ◌∙◌, ap, subst}
use Prim.Native.Nat.{ℕ, zero, suc, ◌+◌, ◌*◌, ◌-◌, ◌<◌, ◌≤◌}
use native.Mathlib.Omega.{arith}
use native.Mathlib.Decide.{ℕ_discrete, dec_le}
use lib.ListN.{length}
use borrow.Author.Tests.{eq-eqb, ne_eqb, le-leb, lt-leb}
use Rattle.field.specs.Field.{inverse}
use Rattle.arrays.proofs.Bytes.{Bytes}
use Rattle.code.proofs.Polynomials.Arithmetic.{length_scaled, bytes_scaled}
use Rattle.locator.specs.Locator.{against, raised, State, start, longer, as_long, changed, massey}
use Rattle.locator.proofs.Polynomials.Against.{against_same}
use Rattle.locator.proofs.Polynomials.Monic.{Monic, monic_length, monic_bytes, monic_raised, monic_added}
use Rattle.locator.proofs.Polynomials.Raised.{raised_length}

pub record StateShape (k : ℕ) (s : State) : Type 0 where
  pub monic : Monic s.size s.locator
  pub below : s.size ≤ k
  pub short : length s.before + s.size ≤ suc k
  pub bytes_before : Bytes s.before

-- the three cases of a step
module _ (k d : ℕ) (s : State) where
  pub changed_none : d ≡ 0 → changed k d s ≡ s
  unfolding changed
  changed_none e = rw (eq-eqb d 0 e)

  pub changed_longer : (d ≡ 0 → ⊥) → 2 * s.size ≤ k → changed k d s ≡ longer k d s
  unfolding changed
  changed_longer e h = rw (ne_eqb d 0 e, le-leb (2 * s.size) k h)

  pub changed_as_long : (d ≡ 0 → ⊥) → k < 2 * s.size → changed k d s ≡ as_long k d s
  unfolding changed
  changed_as_long e h = rw (ne_eqb d 0 e, lt-leb (2 * s.size) k h)

  pub changed_cases :
      (P : State → Type 0) → (d ≡ 0 → P s) → ((d ≡ 0 → ⊥) → 2 * s.size ≤ k → P (longer k d s)) →
      ((d ≡ 0 → ⊥) → k < 2 * s.size → P (as_long k d s)) → P (changed k d s)
  changed_cases P kept grown mended = go (ℕ_discrete d 0) (dec_le (2 * s.size) k)
    where
      go : Dec (d ≡ 0) → Dec (2 * s.size ≤ k) → P (changed k d s)
      go (yes e) l = rw (changed_none e) (kept e)
      go (no e) (yes h) = rw (changed_longer e h) (grown e h)
      go (no e) (no h) = rw (changed_as_long e (omega arith)) (mended e (omega arith))

shape_start : StateShape 0 start
unfolding start
shape_start = record { monic = refl; below = omega arith; short = omega arith; bytes_before = tt }

module _ (k d : ℕ) (s : State) (h : StateShape k s) where
  shape_longer : 2 * s.size ≤ k → StateShape (suc k) (longer k d s)
  unfolding longer
  shape_longer l =
      record {
        monic =
            monic_added (suc k - s.size) _ _
            (subst (λ (n : ℕ). Monic n (raised r s.locator)) top (monic_raised r s.size s.locator h.monic)) (rw length_scaled (omega arith));
        below = omega arith;
        short = rw length_scaled (omega (arith, monic_length s.size s.locator h.monic));
        bytes_before = bytes_scaled (inverse d) s.locator;
      }
    where
      r : ℕ
      r = suc k - 2 * s.size

      top : r + s.size ≡ suc k - s.size
      top = omega arith

  shape_as_long : k < 2 * s.size → StateShape (suc k) (as_long k d s)
  unfolding as_long
  shape_as_long l =
      record {
        monic = monic_added s.size s.locator _ h.monic (rw (length_scaled, raised_length) (omega arith));
        below = omega arith;
        short = omega arith;
        bytes_before = h.bytes_before;
      }

  pub shape_changed : StateShape (suc k) (changed k d s)
  shape_changed =
      changed_cases k d s (StateShape (suc k))
      (λ e. record { monic = h.monic; below = omega arith; short = omega arith; bytes_before = h.bytes_before })
      (λ n l. shape_longer l) (λ n l. shape_as_long l)

pub massey_shape : (S : ℕ → ℕ) (k : ℕ) → StateShape k (massey S k)
unfolding massey
massey_shape S zero = shape_start
massey_shape S (suc k) = shape_changed k (against (massey S k).locator S (k - (massey S k).size)) (massey S k) (massey_shape S k)

-- what an array that holds the locator needs of it
module _ (k : ℕ) (s : State) (h : StateShape k s) where
  pub locator_length : length s.locator ≡ suc s.size
  locator_length = monic_length s.size s.locator h.monic

  pub locator_bytes : Bytes s.locator
  locator_bytes = monic_bytes s.size s.locator h.monic

pub massey_length : (S : ℕ → ℕ) (k : ℕ) → length (massey S k).locator ≡ suc (massey S k).size
massey_length S k = locator_length k (massey S k) (massey_shape S k)

-- the state after k numbers hangs on them alone
pub massey_same : (S T : ℕ → ℕ) (k : ℕ) → ((i : ℕ) → i < k → S i ≡ T i) → massey S k ≡ massey T k
unfolding massey
massey_same S T zero e = refl
massey_same S T (suc k) e =
    let h = massey_shape S k in
    ap (λ (d : ℕ). changed k d (massey S k))
    (against_same S T (suc k) e (massey S k).locator (k - (massey S k).size) (omega (arith, h.below, massey_length S k)))
    ∙ ap (λ (s : State). changed k (against s.locator T (k - s.size)) s) (massey_same S T k (λ i l. e i (omega arith)))
