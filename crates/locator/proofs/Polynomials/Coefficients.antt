-- Sums worked out on arrays. Where the shorter of two polynomials is added to a part of the other, or is raised first, the rest stays; a
-- turn of a loop that adds changes one coefficient. Assumes nothing.
use mathlib.Core.Path.{◌≡◌, refl, sym, ◌∙◌, ap, ap₂}
use mathlib.Core.List.{List, [], ◌∷◌, ◌++◌}
use Prim.Native.Nat.{ℕ, zero, suc, ◌+◌, ◌-◌, ◌<◌, ◌≤◌}
use native.Mathlib.Omega.{arith}
use lib.ListN.{length, get_or, take, drop, set, length-drop, take-append-drop}
use borrow.Rule.Slice.PartMut.{put_mid}
use lib.Seq.{take-length}
use Rattle.field.specs.Field.{plus, times, power}
use Rattle.field.proofs.Xor.{plus_zero}
use Rattle.field.proofs.Times.{times_zero}
use Rattle.field.proofs.Power.{power_lt}
use Rattle.code.specs.Polynomial.{added, scaled}
use Rattle.arrays.proofs.Bytes.{Bytes}
use Rattle.code.proofs.Polynomials.Arithmetic.{length_scaled}
use Rattle.locator.specs.Locator.{raised}

pub added_none : (p : List ℕ) → added p [] ≡ p
unfolding added
added_none [] = refl
added_none (x ∷ p) = refl

-- where the shorter one is added to a part, the rest stays
added_front : (n : ℕ) (p q : List ℕ) → length q ≤ n → length q ≤ length p → added (take n p) q ++ drop n p ≡ added p q
unfolding added
added_front n p [] h l = ap (λ (r : List ℕ). r ++ drop n p) (added_none (take n p)) ∙ take-append-drop n p ∙ sym (added_none p)
added_front n [] (y ∷ q) h l = absurd (omega arith)
added_front zero (x ∷ p) (y ∷ q) h l = absurd (omega arith)
added_front (suc n) (x ∷ p) (y ∷ q) h l = ap (λ (r : List ℕ). plus x y ∷ r) (added_front n p q (omega arith) (omega arith))

pub added_middle :
    (c s n : ℕ) (p q : List ℕ) → c < 256 → Bytes p → length q ≤ n → s + length q ≤ length p →
    take s p ++ (added (take n (drop s p)) (scaled c q) ++ drop n (drop s p)) ≡ added p (scaled c (raised s q))
unfolding raised added scaled
added_middle c zero n p q h b l k = added_front n p (scaled c q) (rw length_scaled l) (rw length_scaled (omega arith))
added_middle c (suc s) n [] q h b l k = absurd (omega arith)
added_middle c (suc s) n (x ∷ p) q h b l k =
    ap₂ (λ (y : ℕ) (r : List ℕ). y ∷ r) (sym (ap (plus x) (times_zero c h) ∙ plus_zero x b.0))
    (added_middle c s n p q h b.1 l (omega arith))

-- what is lent from a place on
pub drop_part : (s w : ℕ) (p : List ℕ) → w ≡ length p - s → take w (drop s p) ≡ drop s p
drop_part s w p e = ap (λ (n : ℕ). take n (drop s p)) (e ∙ sym (length-drop s p)) ∙ take-length (drop s p)

-- the same of parts that were lent
pub added_part :
    (e to from w v : ℕ) (p q part : List ℕ) → to ≤ from → from ≤ length q → length q ≤ length p → w ≡ length p - to → v ≡ length q - from → Bytes p →
    part ≡ added (take w (drop to p)) (scaled (power 2 e) (take v (drop from q))) → put_mid to w p part ≡ added p (scaled (power 2 e) (raised to (drop from q)))
added_part e to from w v p q part h l k wide narrow b is =
    ap (put_mid to w p) is
    ∙ added_middle (power 2 e) to w p (take v (drop from q)) (power_lt 2 e) b (omega (arith, long)) (omega (arith, long))
    ∙ ap (λ (r : List ℕ). added p (scaled (power 2 e) (raised to r))) whole
  where
    whole : take v (drop from q) ≡ drop from q
    whole = drop_part from v q narrow

    long : length (take v (drop from q)) ≡ length q - from
    long = ap length whole ∙ length-drop from q

-- one more coefficient added
pub added_first : (c : ℕ) (p q : List ℕ) → p ≡ added p (scaled c (take 0 q))
unfolding scaled
added_first c p q = sym (added_none p)

pub added_turn :
    (c i : ℕ) (p q : List ℕ) → i < length q → length q ≤ length p →
    set (added p (scaled c (take i q))) i (plus (get_or (added p (scaled c (take i q))) i 0) (times c (get_or q i 0)))
    ≡ added p (scaled c (take (suc i) q))
unfolding added scaled
added_turn c i p [] h l = absurd (omega arith)
added_turn c i [] (y ∷ q) h l = absurd (omega arith)
added_turn c zero (x ∷ p) (y ∷ q) h l = ap (λ (r : List ℕ). plus x (times c y) ∷ r) (sym (added_none p))
added_turn c (suc i) (x ∷ p) (y ∷ q) h l =
    ap (λ (r : List ℕ). plus x (times c y) ∷ r) (added_turn c i p q (omega arith) (omega arith))
