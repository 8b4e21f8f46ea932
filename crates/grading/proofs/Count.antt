-- Counting over slots. Of n slots those that are not in a list of different numbers 1 to n are n less its length. Two tables that
-- have the same at the slots of a list differ in any count by at most the slots that are not in it; a value at all slots of the
-- list is found in all but those; and a value found more often than those stands at a slot of the list. A value in a row is found, and
-- one value, or two different ones together, in no more than all rows. Assumes nothing.
use mathlib.Core.Path.{◌≡◌, refl, sym, ◌∙◌, subst}
use mathlib.Core.Bool.{Bool, true, false, cond, ◌||◌, not}
use mathlib.Core.List.{List, [], ◌∷◌}
use mathlib.Core.Logic.{◌≢◌}
use mathlib.Mathlib.Data.Bool.Basic.{or_inl, or_inr}
use Prim.Native.Nat.{ℕ, zero, suc, ◌+◌, ◌<◌, ◌≤◌}
use native.Mathlib.Omega.{arith}
use lib.Dec.{eqb}
use lib.ListN.{length, get_or}
use borrow.Author.Tests.{eqb-true, eqb-false, eq-eqb, not-true}
use Rattle.arrays.proofs.Bool.{and_split, true_not_false, count_le_both}
use Rattle.code.specs.Vector.{same, differ_values}
use Rattle.code.proofs.Vectors.Planes.{same_equal}
use Rattle.grading.specs.Value.{Value, Vector, Rows}
use Rattle.grading.specs.Count.{found}
use Rattle.grading.proofs.Value.{same_of_equal}
use Rattle.grading.specs.Promise.{member, all_different, unlisted}

pub member_here : (m : ℕ) (ns : List ℕ) → member m (m ∷ ns) ≡ true
unfolding member
member_here m ns = or_inl (eqb m m) (member m ns) (eq-eqb m m refl)

pub member_there : (m x : ℕ) (ns : List ℕ) → member m ns ≡ true → member m (x ∷ ns) ≡ true
unfolding member
member_there m x ns e = or_inr (eqb x m) (member m ns) e

unlisted_nil : (l i : ℕ) → unlisted [] l i ≡ l
unfolding unlisted member
unlisted_nil zero i = refl
unlisted_nil (suc l) i = omega (arith, unlisted_nil l (suc i))

lacks_le : (a b : Bool) → cond (a || b) 0 1 ≤ cond b 0 1
lacks_le true true = omega arith
lacks_le true false = omega arith
lacks_le false b = omega arith

unlisted_le : (x : ℕ) (ns : List ℕ) (l i : ℕ) → unlisted (x ∷ ns) l i ≤ unlisted ns l i
unfolding unlisted member
unlisted_le x ns zero i = omega arith
unlisted_le x ns (suc l) i = omega (arith, lacks_le (eqb x i) (member i ns), unlisted_le x ns l (suc i))

unlisted_lt : (x : ℕ) (ns : List ℕ) (l i : ℕ) → i ≤ x → x < i + l → member x ns ≡ false → unlisted (x ∷ ns) l i < unlisted ns l i
unfolding unlisted member
unlisted_lt x ns zero i a b e = absurd (omega arith)
unlisted_lt x ns (suc l) i a b e = go (eqb x i) refl (λ f. unlisted_lt x ns l (suc i) f (omega arith) e)
  where
    go : (q : Bool) → eqb x i ≡ q → (i < x → unlisted (x ∷ ns) l (suc i) < unlisted ns l (suc i)) →
        cond (q || member i ns) 0 1 + unlisted (x ∷ ns) l (suc i) < cond (member i ns) 0 1 + unlisted ns l (suc i)
    go true f c =
        let new : member i ns ≡ false = subst (λ (y : ℕ). member y ns ≡ false) (eqb-true x i f) e in
        rw new (omega (arith, unlisted_le x ns l (suc i)))
    go false f c = let n : x ≢ i = eqb-false x i f in omega (arith, c (omega arith))

pub unlisted_few : (n : ℕ) (ns : List ℕ) → ((m : ℕ) → member m ns ≡ true → (1 ≤ m) × (m ≤ n)) → all_different ns ≡ true → unlisted ns n 1 + length ns ≤ n
unfolding all_different
unlisted_few n [] h e = omega (arith, unlisted_nil n 1)
unlisted_few n (x ∷ ns) h e =
    let a = and_split (not (member x ns)) (all_different ns) e in
    let x_in = h x (member_here x ns) in
    let fewer = unlisted_lt x ns n 1 x_in.0 (omega (arith, x_in.1)) (not-true _ a.0) in
    omega (arith, fewer, unlisted_few n ns (λ m f. h m (member_there m x ns f)) a.1)

-- two tables with the same entries at the slots of a list
pub found_near :
    (ns : List ℕ) (j : ℕ) (v : Value) (xs ys : Rows) (i : ℕ) → length xs ≡ length ys →
    ((m k : ℕ) → m ≡ i + k → k < length xs → member m ns ≡ true → get_or (get_or xs k []) j [] ≡ get_or (get_or ys k []) j []) →
    found j v xs ≤ found j v ys + unlisted ns (length xs) i
unfolding found unlisted
found_near ns j v [] ys i e h = omega arith
found_near ns j v (x ∷ xs) [] i e h = absurd (omega arith)
found_near ns j v (x ∷ xs) (y ∷ ys) i e h =
    omega (
      arith,
      count_le_both (same (get_or x j []) v) (same (get_or y j []) v) (member i ns) (λ c d. rw (h i 0 (omega arith) (omega arith) c) at d),
      found_near ns j v xs ys (suc i) (omega arith) (λ m k f l. h m (suc k) (omega arith) (omega arith)),
    )

-- a value that stands at all slots of a list
pub found_all :
    (ns : List ℕ) (j : ℕ) (v : Value) (xs : Rows) (i : ℕ) →
    ((m k : ℕ) → m ≡ i + k → k < length xs → member m ns ≡ true → get_or (get_or xs k []) j [] ≡ v) → length xs ≤ found j v xs + unlisted ns (length xs) i
unfolding found unlisted
found_all ns j v [] i h = omega arith
found_all ns j v (x ∷ xs) i h =
    omega (
      arith,
      count_le_both true (same (get_or x j []) v) (member i ns) (λ c d. same_of_equal _ _ (h i 0 (omega arith) (omega arith) c)),
      found_all ns j v xs (suc i) (λ m k f l. h m (suc k) (omega arith) (omega arith)),
    )

-- a value found more often than there are other slots stands at a slot of the list
pub record Stands (ns : List ℕ) (j : ℕ) (v : Value) (xs : Rows) (i : ℕ) : Type 0 where
  pub slot : ℕ
  pub place : ℕ
  pub at : slot ≡ i + place
  pub listed : member slot ns ≡ true
  pub entry : get_or (get_or xs place []) j [] ≡ v

stands_later : (ns : List ℕ) (j : ℕ) (v : Value) (x : Vector) (xs : Rows) (i : ℕ) → Stands ns j v xs (suc i) → Stands ns j v (x ∷ xs) i
stands_later ns j v x xs i a = record { slot = a.slot; place = suc a.place; at = omega (arith, a.at); listed = a.listed; entry = a.entry }

pub found_at : (ns : List ℕ) (j : ℕ) (v : Value) (xs : Rows) (i : ℕ) → unlisted ns (length xs) i < found j v xs → Stands ns j v xs i
unfolding found unlisted
found_at ns j v [] i h = absurd (omega arith)
found_at ns j v (x ∷ xs) i h = go (member i ns) (same (get_or x j []) v) refl refl h (λ l. stands_later ns j v x xs i (found_at ns j v xs (suc i) l))
  where
    go : (p q : Bool) → member i ns ≡ p → same (get_or x j []) v ≡ q →
        cond p 0 1 + unlisted ns (length xs) (suc i) < cond q 1 0 + found j v xs →
        (unlisted ns (length xs) (suc i) < found j v xs → Stands ns j v (x ∷ xs) i) → Stands ns j v (x ∷ xs) i
    go true true e f l later = record { slot = i; place = 0; at = omega arith; listed = e; entry = same_equal _ _ f }
    go true false e f l later = later (omega arith)
    go false true e f l later = later (omega arith)
    go false false e f l later = later (omega arith)

-- a value that stands in a row is found
pub found_entry : (j : ℕ) (xs : Rows) (i : ℕ) → i < length xs → 1 ≤ found j (get_or (get_or xs i []) j []) xs
unfolding found
found_entry j [] i h = absurd (omega arith)
found_entry j (x ∷ xs) zero h = rw (same_of_equal (get_or x j []) (get_or x j []) refl) (omega arith)
found_entry j (x ∷ xs) (suc i) h = omega (arith, found_entry j xs i (omega arith))

-- no value is found more often than there are rows
pub found_le : (j : ℕ) (v : Value) (xs : Rows) → found j v xs ≤ length xs
unfolding found
found_le j v [] = omega arith
found_le j v (x ∷ xs) = omega (arith, go (same (get_or x j []) v), found_le j v xs)
  where
    go : (q : Bool) → cond q 1 0 ≤ 1
    go true = omega arith
    go false = omega arith

-- two different values share the rows
pub found_two : (j : ℕ) (u v : Value) (xs : Rows) → (u ≡ v → ⊥) → found j u xs + found j v xs ≤ length xs
unfolding found
found_two j u v [] h = omega arith
found_two j u v (x ∷ xs) h = omega (arith, go (same (get_or x j []) u) (same (get_or x j []) v) refl refl, found_two j u v xs h)
  where
    go : (p q : Bool) → same (get_or x j []) u ≡ p → same (get_or x j []) v ≡ q → cond p 1 0 + cond q 1 0 ≤ 1
    go false false e f = omega arith
    go false true e f = omega arith
    go true false e f = omega arith
    go true true e f = absurd (h (sym (same_equal _ _ e) ∙ same_equal _ _ f))

-- two vectors with the same values at the slots of a list
pub differ_few :
    (ns : List ℕ) (us vs : Vector) (i : ℕ) → length us ≡ length vs →
    ((m k : ℕ) → m ≡ i + k → k < length us → member m ns ≡ true → get_or us k [] ≡ get_or vs k []) → differ_values us vs ≤ unlisted ns (length us) i
unfolding differ_values unlisted
differ_few ns [] vs i e h = omega arith
differ_few ns (u ∷ us) [] i e h = absurd (omega arith)
differ_few ns (u ∷ us) (v ∷ vs) i e h =
    omega
    (arith, go (member i ns) (same u v) refl refl, differ_few ns us vs (suc i) (omega arith) (λ m k f l. h m (suc k) (omega arith) (omega arith)))
  where
    go : (p q : Bool) → member i ns ≡ p → same u v ≡ q → cond q 0 1 ≤ cond p 0 1
    go false false e f = omega arith
    go false true e f = omega arith
    go true true e f = omega arith
    go true false e f = true_not_false (sym (same_of_equal u v (h i 0 (omega arith) (omega arith) e)) ∙ f)
