-- One step of a plane's locator. The multiple that comes in is a multiple of what the other array has at its end, by both factors
-- at once, and a power of x decides only where it is added. After every power sum the arrays then hold the state that `massey` names.
-- Assumes nothing.
use mathlib.Core.Path.{◌≡◌, refl, sym, ◌∙◌, ap, ap₂, subst}
use mathlib.Core.List.{List, ◌++◌}
use Prim.Native.Nat.{ℕ, suc, ◌+◌, ◌*◌, ◌-◌, ◌<◌, ◌≤◌}
use native.Mathlib.Omega.{arith}
use native.Mathlib.Decide.{dec_lt}
use lib.ListN.{length, get_or, drop, replicate, length-drop, get_or-append}
use lib.Seq.{get_or-drop}
use Rattle.field.specs.Field.{plus, times, power, inverse}
use Rattle.field.proofs.Xor.{plus_self}
use Rattle.field.proofs.Times.{times_zero}
use Rattle.field.proofs.Power.{power_lt}
use Rattle.field.proofs.Division.{inverse_power}
use Rattle.arrays.proofs.Bytes.{Bytes, bytes_every, byte_at}
use Rattle.arrays.proofs.Zeros.{zeros_at}
use Rattle.code.specs.Size.{plane_room}
use Rattle.code.specs.Polynomial.{added, scaled}
use Rattle.code.proofs.Polynomials.Arithmetic.{get_or_added, get_or_scaled, bytes_scaled, length_added, length_scaled}
use Rattle.locator.specs.Locator.{State, against, raised, longer, as_long, changed, massey}
use Rattle.locator.specs.Reached.{start_of, Reaches}
use Rattle.locator.specs.declared.locators.Locator.{Locator}
use Rattle.locator.proofs.Polynomials.Raised.{raised_length, raised_low}
use Rattle.locator.proofs.Polynomials.Dropped.{drop_added, drop_scaled, drop_raised, raised_scaled, scaled_scaled, drop_zeros}
use Rattle.locator.proofs.Locator.Shape.{changed_none, changed_longer, changed_as_long, massey_shape, locator_bytes}

-- one power sum more
module _ (S : ℕ → ℕ) (k : ℕ) (at : Locator) (r : Reaches (massey S k) at) (room : k + 1 < plane_room) where
  abbrev state : State
  state = massey S k

  pub reached_size : at.size ≤ k
  reached_size = omega (arith, r.size, (massey_shape S k).below)

  -- in front of the locator zeros stand
  pub reached_bytes : Bytes at.coefficients
  reached_bytes = bytes_every at.coefficients (λ i. go i (dec_lt i (start_of at.size)))
    where
      go : (i : ℕ) → Dec (i < start_of at.size) → get_or at.coefficients i 0 < 256
      go i (yes h) = omega (arith, r.blank i h)
      go i (no h) =
          let j : ℕ = i - start_of at.size in
          omega (
            arith,
            byte_at state.locator j (locator_bytes k state (massey_shape S k)),
            ap (λ (ps : List ℕ). get_or ps j 0) r.coefficients,
            get_or-drop (start_of at.size) at.coefficients j 0,
            ap (λ (n : ℕ). get_or at.coefficients n 0) (let e : start_of at.size + j ≡ i = omega arith in e),
          )

  -- the other polynomial ends where the locator does, or before
  pub reached_from : plane_room - at.from + at.size ≤ k + 1
  reached_from =
      omega (
        arith,
        r.size,
        (massey_shape S k).short,
        ap length (sym r.scaled_before) ∙ length_scaled (power 2 at.scale) (drop at.from at.before) ∙ length-drop at.from at.before,
        r.long_before,
      )

  -- by its discrepancy
  module _ (d : ℕ) (e : d ≡ against (drop (start_of at.size) at.coefficients) S (k - at.size)) where
    next : (o : Locator) → Reaches (changed k d state) o → Reaches (massey S (k + 1)) o
    unfolding massey
    next o t =
        subst (λ (j : ℕ). Reaches (massey S j) o) (let q : suc k ≡ k + 1 = omega arith in q)
        (subst (λ (x : ℕ). Reaches (changed k x state) o)
        (e ∙ ap₂ (λ (p : List ℕ) (j : ℕ). against p S (k - j)) r.coefficients r.size)
        t)

    pub step_kept : d ≡ 0 → Reaches (massey S (k + 1)) at
    step_kept z = next at (rw (changed_none k d state z) r)

    -- the factor is a power of 2, and so the product of both factors
    module _ (own exponent to : ℕ) (some : d ≡ 0 → ⊥) (byte : d < 256) (small : own < 255) (is : power 2 own ≡ d) (both : power 2 exponent ≡ times d (power 2 at.scale))
        (place : to ≡ plane_room - 1 + at.size - (k + 1)) where
      abbrev other : List ℕ
      other = drop at.from at.before

      abbrev now : List ℕ
      now = added at.coefficients (scaled (power 2 exponent) (raised to other))

      -- what comes in
      comes : (n : ℕ) → scaled (power 2 exponent) (raised n other) ≡ scaled d (raised n state.before)
      comes n =
          ap (λ (c : ℕ). scaled c (raised n other)) both ∙ sym (scaled_scaled d (power 2 at.scale) (raised n other) byte (power_lt 2 at.scale))
          ∙ ap (scaled d) (sym (raised_scaled n (power 2 at.scale) other (power_lt 2 at.scale)) ∙ ap (raised n) r.scaled_before)

      other_long : length other ≡ plane_room - at.from
      other_long = length-drop at.from at.before ∙ ap (λ (n : ℕ). n - at.from) r.long_before

      now_long : length now ≡ plane_room
      now_long =
          length_added at.coefficients (scaled (power 2 exponent) (raised to other))
          (rw (length_scaled, raised_length) (omega (arith, other_long, reached_from, reached_size, r.long, at.within))) ∙ r.long

      -- below both places zeros stay
      now_blank : (i : ℕ) → i < start_of at.size → i < to → get_or now i 0 ≡ 0
      now_blank i h l =
          get_or_added at.coefficients (scaled (power 2 exponent) (raised to other)) i reached_bytes (bytes_scaled (power 2 exponent) _)
          ∙ ap₂ plus (r.blank i h)
          (get_or_scaled (power 2 exponent) (raised to other) i (power_lt 2 exponent) ∙ ap (times (power 2 exponent)) (raised_low to i other l)
          ∙ times_zero (power 2 exponent) (power_lt 2 exponent))
          ∙ plus_self 0

      pub step_longer :
          (o : Locator) → 2 * at.size ≤ k → o.coefficients ≡ now → o.before ≡ at.coefficients → o.size ≡ k + 1 - at.size → o.from ≡ start_of at.size →
          o.scale ≡ 255 - own → Reaches (massey S (k + 1)) o
      unfolding longer raised
      step_longer o h c b f g x =
          next o
          (rw (changed_longer k d state some (omega (arith, r.size)))
          (record {
            long = ap length c ∙ now_long;
            long_before = ap length b ∙ r.long;
            size = f ∙ omega (arith, r.size);
            blank = λ i l. ap (λ (p : List ℕ). get_or p i 0) c ∙ now_blank i (omega (arith, f, reached_size)) (omega (arith, f, place, reached_size));
            coefficients =
                ap₂ drop top c ∙ drop_added to at.coefficients (scaled (power 2 exponent) (raised to other))
                ∙ ap₂ added
                (drop_zeros to (start_of at.size) at.coefficients (omega (arith, place, reached_size)) (omega (arith, r.long)) r.blank
                ∙ ap₂ raised shift r.coefficients)
                (drop_scaled to (power 2 exponent) (raised to other)
                ∙ ap (scaled (power 2 exponent)) (drop_raised to to other (omega arith) ∙ ap (λ (n : ℕ). raised n other) (let q : to - to ≡ 0 = omega arith in q))
                ∙ comes 0 ∙ ap (scaled d) raised_none);
            scaled_before =
                ap₂ scaled (ap (power 2) x ∙ sym (inverse_power own small) ∙ ap inverse is) (ap₂ drop g b ∙ r.coefficients);
          }))
        where
          top : start_of o.size ≡ to
          top = omega (arith, f, place, reached_size)

          shift : start_of at.size - to ≡ suc k - 2 * state.size
          shift = omega (arith, place, r.size, reached_size)

          raised_none : raised 0 state.before ≡ state.before
          raised_none = refl

      pub step_as_long :
          (o : Locator) → k < 2 * at.size → o.coefficients ≡ now → o.before ≡ at.before → o.size ≡ at.size → o.from ≡ at.from → o.scale ≡ at.scale →
          Reaches (massey S (k + 1)) o
      unfolding as_long
      step_as_long o h c b f g x =
          next o
          (rw (changed_as_long k d state some (omega (arith, r.size)))
          (record {
            long = ap length c ∙ now_long;
            long_before = ap length b ∙ r.long_before;
            size = f ∙ r.size;
            blank = λ i l. ap (λ (p : List ℕ). get_or p i 0) c ∙ now_blank i (omega (arith, f)) (omega (arith, f, place, reached_size));
            coefficients =
                ap₂ drop (ap start_of f) c ∙ drop_added (start_of at.size) at.coefficients (scaled (power 2 exponent) (raised to other))
                ∙ ap₂ added r.coefficients
                (drop_scaled (start_of at.size) (power 2 exponent) (raised to other)
                ∙ ap (scaled (power 2 exponent)) (drop_raised (start_of at.size) to other (omega (arith, place, reached_size)))
                ∙ comes (to - start_of at.size) ∙ ap (λ (n : ℕ). scaled d (raised n state.before)) shift);
            scaled_before = ap₂ scaled (ap (power 2) x) (ap₂ drop g b) ∙ r.scaled_before;
          }))
        where
          shift : to - start_of at.size ≡ 2 * state.size - suc k
          shift = omega (arith, place, r.size, reached_size)

-- zeros in front of what an array ends with
pub blank_below : (i : ℕ) (end : List ℕ) → i < plane_room - 1 → get_or (replicate (plane_room - 1) 0 ++ end) i 0 ≡ 0
blank_below i end h = get_or-append (replicate (plane_room - 1) 0) end 0 i (omega arith) ∙ zeros_at (plane_room - 1) i
