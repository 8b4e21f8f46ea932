-- The heights under good numbers, slot by slot, and what a column holds. All of them are among its heights of confidence above 0, so that no
-- weight of those is less; and its blank columns are among the other slots. By induction over the slots. Assumes nothing.
use mathlib.Core.Path.{◌≡◌, refl, ap}
use mathlib.Core.Bool.{Bool, true, false, cond}
use mathlib.Core.List.{List, [], ◌∷◌}
use Prim.Native.Nat.{ℕ, zero, suc, ◌+◌, ◌≤◌, ◌<◌}
use native.Mathlib.Omega.{arith}
use lib.Dec.{ltb, eqb}
use lib.IntN.{ℤ}
use lib.ListN.{length, get_or}
use borrow.Author.Tests.{eqb-true, ltb-false}
use Rattle.grading.specs.Value.{Value}
use Rattle.grading.specs.Held.{Held, held_as}
use Rattle.grading.specs.Promise.{member, unlisted}
use Rattle.gradecast.specs.Promise.{none_held}
use Rattle.level.specs.Level.{height, confident, blank_columns}
use Rattle.level.specs.Promise.{total}

module _ (ns : List ℕ) (own : ℕ → Value) where
  -- under each number of the list, from slot i on, its own value is held at confidence 2
  abbrev pub Shows : (hs : List Held) (i : ℕ) → Type 0
  Shows hs i = (m k : ℕ) → m ≡ i + k → k < length hs → member m ns ≡ true → get_or hs k none_held ≡ held_as (own m) 2

  -- the heights of those of the numbers i, i+1, … that are in the list
  unfoldable pub heights_in : (many i : ℕ) → List ℤ
  heights_in zero i = []
  heights_in (suc l) i = cond (member i ns) (height (own i) ∷ heights_in l (suc i)) (heights_in l (suc i))

  pub heights_length : (l i : ℕ) → length (heights_in l i) + unlisted ns l i ≡ l
  unfolding heights_in unlisted
  heights_length zero i = refl
  heights_length (suc l) i = go (member i ns) (heights_length l (suc i))
    where
      go :
          (t : Bool) → length (heights_in l (suc i)) + unlisted ns l (suc i) ≡ l →
          length (cond t (height (own i) ∷ heights_in l (suc i)) (heights_in l (suc i))) + (cond t 0 1 + unlisted ns l (suc i)) ≡ suc l
      go true e = omega arith
      go false e = omega arith

  -- a weight that every one of them has
  pub heights_total :
      (weight : ℤ → ℕ) → ((m : ℕ) → member m ns ≡ true → weight (height (own m)) ≡ 1) → (l i : ℕ) →
      total weight (heights_in l i) ≡ length (heights_in l i)
  unfolding heights_in total
  heights_total weight h zero i = refl
  heights_total weight h (suc l) i = go (member i ns) refl (heights_total weight h l (suc i))
    where
      go :
          (t : Bool) → member i ns ≡ t → total weight (heights_in l (suc i)) ≡ length (heights_in l (suc i)) →
          total weight (cond t (height (own i) ∷ heights_in l (suc i)) (heights_in l (suc i)))
          ≡ length (cond t (height (own i) ∷ heights_in l (suc i)) (heights_in l (suc i)))
      go true e c = omega (arith, h i e)
      go false e c = c

  rest_shows : (h : Held) (hs : List Held) (i : ℕ) → Shows (h ∷ hs) i → Shows hs (suc i)
  rest_shows h hs i x m k e l f = x m (suc k) (omega arith) (omega arith) f

  first_sure : (h : Held) (hs : List Held) (i : ℕ) → Shows (h ∷ hs) i → member i ns ≡ true → h.confidence ≡ 2
  unfolding held_as
  first_sure h hs i x e = ap (λ (y : Held). y.confidence) (x i 0 (omega arith) (omega arith) e)

  first_own : (h : Held) (hs : List Held) (i : ℕ) → Shows (h ∷ hs) i → member i ns ≡ true → h.value ≡ own i
  unfolding held_as
  first_own h hs i x e = ap (λ (y : Held). y.value) (x i 0 (omega arith) (omega arith) e)

  pub heights_held : (weight : ℤ → ℕ) (hs : List Held) (i : ℕ) → Shows hs i → total weight (heights_in (length hs) i) ≤ total weight (confident hs)
  unfolding heights_in confident total
  heights_held weight [] i x = omega arith
  heights_held weight (h ∷ hs) i x = go (member i ns) (ltb 0 h.confidence) refl refl (heights_held weight hs (suc i) (rest_shows h hs i x))
    where
      go :
          (p q : Bool) → member i ns ≡ p → ltb 0 h.confidence ≡ q → total weight (heights_in (length hs) (suc i)) ≤ total weight (confident hs) →
          total weight (cond p (height (own i) ∷ heights_in (length hs) (suc i)) (heights_in (length hs) (suc i)))
          ≤ total weight (cond q (height h.value ∷ confident hs) (confident hs))
      go true true e f c = omega (arith, ap (λ (v : Value). weight (height v)) (first_own h hs i x e))
      go true false e f c = absurd (omega (arith, first_sure h hs i x e, ltb-false 0 h.confidence f))
      go false true e f c = omega arith
      go false false e f c = c

  pub blank_few : (hs : List Held) (i : ℕ) → Shows hs i → blank_columns hs ≤ unlisted ns (length hs) i
  unfolding blank_columns unlisted
  blank_few [] i x = omega arith
  blank_few (h ∷ hs) i x = go (member i ns) (eqb h.confidence 0) refl refl (blank_few hs (suc i) (rest_shows h hs i x))
    where
      go :
          (p q : Bool) → member i ns ≡ p → eqb h.confidence 0 ≡ q → blank_columns hs ≤ unlisted ns (length hs) (suc i) →
          cond q (suc (blank_columns hs)) (blank_columns hs) ≤ cond p 0 1 + unlisted ns (length hs) (suc i)
      go true true e f c = absurd (omega (arith, first_sure h hs i x e, eqb-true h.confidence 0 f))
      go true false e f c = omega arith
      go false true e f c = omega arith
      go false false e f c = omega arith
