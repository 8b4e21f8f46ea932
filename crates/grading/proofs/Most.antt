-- The value found most often. Going through the rows, the best so far is left only for one that is no blank and is found more often, or
-- as often with smaller bytes; so at the end a value that is found at all is found no more often than the best, and where it is found
-- as often its bytes are not the smaller ones. A value in more than half of the rows is the best. Assumes nothing.
use mathlib.Core.Path.{◌≡◌, refl, sym, subst}
use mathlib.Core.Bool.{Bool, true, false, cond, ◌&&◌, ◌||◌, not}
use mathlib.Core.List.{[], ◌∷◌}
use Prim.Native.Nat.{ℕ, suc, ◌+◌, ◌*◌, ◌<◌, ◌≤◌}
use native.Mathlib.Omega.{arith}
use lib.Dec.{ltb, eqb}
use lib.ListN.{length, get_or}
use borrow.Author.Tests.{eqb-true, eqb-false, ltb-true, ltb-false, not-true}
use Rattle.arrays.proofs.Bool.{and_split, true_not_false}
use Rattle.code.specs.Settings.{Settings}
use Rattle.code.specs.Vector.{same}
use Rattle.code.proofs.Vectors.Planes.{same_equal}
use Rattle.grading.specs.Value.{Value, Rows, blank, is_blank, bytes_before}
use Rattle.grading.specs.Count.{found, better_by, better, next_best, most_from, most}
use Rattle.grading.proofs.Value.{differ_of_not_same}
use Rattle.grading.proofs.Order.{before_irrefl, before_asym, not_before_trans}
use Rattle.grading.proofs.Count.{found_two}

-- the best, as against another value: no blank, found as often at least, and with no larger bytes where it is found as often
pub record Leading (j : ℕ) (all : Rows) (v best : Value) : Type 0 where
  pub filled : is_blank best ≡ false
  pub often : found j v all ≤ found j best all
  pub smallest : found j v all ≡ found j best all → bytes_before v best ≡ false

leading_self : (j : ℕ) (all : Rows) (v : Value) → is_blank v ≡ false → Leading j all v v
leading_self j all v e = record { filled = e; often = omega arith; smallest = λ f. before_irrefl v }

leading_trans : (j : ℕ) (all : Rows) (u v w : Value) → Leading j all u v → Leading j all v w → Leading j all u w
leading_trans j all u v w a b =
    record {
      filled = b.filled;
      often = omega (arith, a.often, b.often);
      smallest = λ e. not_before_trans u v w (a.smallest (omega (arith, a.often, b.often))) (b.smallest (omega (arith, a.often, b.often)));
    }

module _ (j : ℕ) (all : Rows) where
  -- what goes before the best is no blank, and found more often, or as often with the smaller bytes
  pub better_filled : (v b : Value) → better j all v b ≡ true → is_blank v ≡ false
  unfolding better better_by
  better_filled v b e = not-true (is_blank v) (and_split (not (is_blank v)) _ e).0

  better_leads : (v b : Value) → is_blank b ≡ false → better j all v b ≡ true → Leading j all b v
  unfolding better better_by
  better_leads v b f e =
      go (ltb (found j b all) (found j v all)) (eqb (found j b all) (found j v all)) refl refl (rw f at (and_split (not (is_blank v)) _ e).1)
    where
      go : (q r : Bool) → ltb (found j b all) (found j v all) ≡ q → eqb (found j b all) (found j v all) ≡ r → (q || (r && bytes_before v b)) ≡ true →
          Leading j all b v
      go true r g h i =
          let more = ltb-true (found j b all) (found j v all) g in
          record { filled = better_filled v b e; often = omega arith; smallest = λ s. absurd (omega arith) }
      go false true g h i =
          record { filled = better_filled v b e; often = omega (arith, eqb-true (found j b all) (found j v all) h); smallest = λ s. before_asym v b i }
      go false false g h i = true_not_false (sym i)

  next_keeps : (v b : Value) → is_blank b ≡ false → Leading j all b (next_best j all v b)
  unfolding next_best
  next_keeps v b e = go (better j all v b) refl
    where
      go : (q : Bool) → better j all v b ≡ q → Leading j all b (cond q v b)
      go true f = better_leads v b e f
      go false f = leading_self j all b e

  pub next_takes : (v b : Value) → is_blank v ≡ false → Leading j all v (next_best j all v b)
  unfolding next_best better better_by
  next_takes v b e =
      rw e
      (go (is_blank b) (ltb (found j b all) (found j v all)) (eqb (found j b all) (found j v all)) (bytes_before v b) refl refl refl refl)
    where
      go : (p q r z : Bool) → is_blank b ≡ p → ltb (found j b all) (found j v all) ≡ q → eqb (found j b all) (found j v all) ≡ r → bytes_before v b ≡ z →
          Leading j all v (cond (p || (q || (r && z))) v b)
      go true q r z f g h i = leading_self j all v e
      go false true r z f g h i = leading_self j all v e
      go false false true true f g h i = leading_self j all v e
      go false false true false f g h i = record { filled = f; often = ltb-false (found j b all) (found j v all) g; smallest = λ s. i }
      go false false false z f g h i =
          record {
            filled = f;
            often = ltb-false (found j b all) (found j v all) g;
            smallest = λ s. absurd (eqb-false (found j b all) (found j v all) h (sym s));
          }

  most_keeps : (rows : Rows) (v b : Value) → Leading j all v b → Leading j all v (most_from j all rows b)
  unfolding most_from
  most_keeps [] v b a = a
  most_keeps (row ∷ rows) v b a =
      most_keeps rows v (next_best j all (get_or row j []) b) (leading_trans j all v b _ a (next_keeps (get_or row j []) b a.filled))

  most_takes : (rows : Rows) (v b : Value) → is_blank v ≡ false → 1 ≤ found j v rows → Leading j all v (most_from j all rows b)
  unfolding most_from found
  most_takes [] v b e h = absurd (omega arith)
  most_takes (row ∷ rows) v b e h = go (same (get_or row j []) v) refl h (λ l. most_takes rows v (next_best j all (get_or row j []) b) e l)
    where
      out : Value
      out = most_from j all rows (next_best j all (get_or row j []) b)

      go : (q : Bool) → same (get_or row j []) v ≡ q → 1 ≤ cond q 1 0 + found j v rows → (1 ≤ found j v rows → Leading j all v out) → Leading j all v out
      go true f l c =
          let d = same_equal _ _ f in
          most_keeps rows v _ (subst (λ (u : Value). Leading j all u (next_best j all (get_or row j []) b)) d (next_takes (get_or row j []) b (rw d e)))
      go false f l c = c (omega arith)

  most_from_is : (P : Value → Type 0) (rows : Rows) (b : Value) → P b → ((k : ℕ) → k < length rows → P (get_or (get_or rows k []) j [])) → P (most_from j all rows b)
  unfolding most_from next_best
  most_from_is P [] b p h = p
  most_from_is P (row ∷ rows) b p h = most_from_is P rows _ (pick (better j all (get_or row j []) b) (h 0 (omega arith))) (λ k l. h (suc k) (omega arith))
    where
      pick : (q : Bool) → P (get_or row j []) → P (cond q (get_or row j []) b)
      pick true a = a
      pick false a = p

-- what 01 says of the most often found value, as against any value that is found and no blank
pub most_found : (s : Settings) (j : ℕ) (rows : Rows) (v : Value) → is_blank v ≡ false → 1 ≤ found j v rows → Leading j rows v (most s j rows)
unfolding most
most_found s j rows v e h = most_takes j rows rows v (blank s) e h

-- what holds of blank and of every entry holds of it
pub most_is : (P : Value → Type 0) (s : Settings) (j : ℕ) (rows : Rows) → P (blank s) → ((k : ℕ) → k < length rows → P (get_or (get_or rows k []) j [])) → P (most s j rows)
unfolding most
most_is P s j rows p h = most_from_is j rows P rows (blank s) p h

-- a value in more than half of the rows is the one
pub most_of_half : (s : Settings) (j : ℕ) (rows : Rows) (v : Value) → is_blank v ≡ false → length rows < 2 * found j v rows → most s j rows ≡ v
most_of_half s j rows v e h = go (same v (most s j rows)) refl (most_found s j rows v e (omega arith)).often
  where
    go : (q : Bool) → same v (most s j rows) ≡ q → found j v rows ≤ found j (most s j rows) rows → most s j rows ≡ v
    go true f l = sym (same_equal _ _ f)
    go false f l = absurd (omega (arith, found_two j v (most s j rows) rows (differ_of_not_same _ _ f)))
