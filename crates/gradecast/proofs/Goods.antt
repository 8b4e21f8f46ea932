-- The good columns of a list. Their numbers are different, so that a number names one of them: what holds of each of them holds under
-- each of their numbers, and what they have can be asked for by number. Assumes nothing.
use mathlib.Core.Path.{◌≡◌, refl, sym, ◌∙◌, ap, subst}
use mathlib.Core.Bool.{Bool, true, false, cond, ◌||◌, not}
use mathlib.Core.List.{List, [], ◌∷◌, map}
use Prim.Native.Nat.{ℕ, suc}
use lib.Dec.{eqb}
use lib.ListN.{length}
use borrow.Author.Tests.{eqb-true, eq-eqb, ne_eqb, not-true}
use Rattle.arrays.proofs.Bool.{and_split, true_not_false}
use Rattle.grading.specs.Promise.{member, all_different}
use Rattle.gradecast.specs.Promise.{Good, numbers, Among, first, other}
use Rattle.grading.proofs.Count.{member_here, member_there}

-- one of a list under a function, and what holds of each of them
pub among_map : {A B : Type 0} (f : A → B) {x : A} {xs : List A} → Among x xs → Among (f x) (map f xs)
among_map f (first xs) = first (map f xs)
among_map f (other y xs i) = other (f y) (map f xs) (among_map f i)

pub each_map : {A B : Type 0} (f : A → B) (P : B → Type 0) (xs : List A) → ((x : A) → Among x xs → P (f x)) → (y : B) → Among y (map f xs) → P y
each_map f P (x ∷ xs) h y (first ys) = h x (first xs)
each_map f P (x ∷ xs) h y (other z ys i) = each_map f P xs (λ a j. h a (other x xs j)) y i
each_map {A = A} {B = B} f P [] h y x'' = elim x'' [ ]

-- one of the list, and its number
pub among_member : {a : Good} {gs : List Good} → Among a gs → member a.number (numbers gs) ≡ true
unfolding numbers
among_member {a} (first gs) = member_here a.number (numbers gs)
among_member {a} (other h gs p) = member_there a.number h.number (numbers gs) (among_member p)

-- what a list of good columns has under a number
unfoldable pub of_number : {A : Type 0} → A → (Good → A) → List Good → ℕ → A
of_number d f [] k = d
of_number d f (g ∷ gs) k = cond (eqb g.number k) (f g) (of_number d f gs k)

other_number : {a : Good} (h : Good) {gs : List Good} → all_different (numbers (h ∷ gs)) ≡ true → Among a gs → h.number ≡ a.number → ⊥
unfolding numbers all_different
other_number {a} h {gs} e p f =
    true_not_false (sym (among_member p) ∙ ap (λ (m : ℕ). member m (numbers gs)) (sym f) ∙ not-true _ (and_split (not (member h.number (numbers gs))) _ e).0)

rest_different : (h : Good) (gs : List Good) → all_different (numbers (h ∷ gs)) ≡ true → all_different (numbers gs) ≡ true
unfolding numbers all_different
rest_different h gs e = (and_split (not (member h.number (numbers gs))) _ e).1

pub of_number_is : {A : Type 0} (d : A) (f : Good → A) {a : Good} {gs : List Good} → all_different (numbers gs) ≡ true → Among a gs → of_number d f gs a.number ≡ f a
unfolding of_number
of_number_is d f {a} e (first gs) = rw (eq-eqb a.number a.number refl) refl
of_number_is d f {a} e (other h gs p) = rw (ne_eqb h.number a.number (other_number h e p)) (of_number_is d f (rest_different h gs e) p)

-- what holds of each of the list holds under each of their numbers
pub by_number : (P : ℕ → Type 0) (gs : List Good) → ((a : Good) → Among a gs → P a.number) → (m : ℕ) → member m (numbers gs) ≡ true → P m
unfolding numbers member
by_number P [] h m e = true_not_false (sym e)
by_number P (g ∷ gs) h m e = go (eqb g.number m) refl e (λ f. by_number P gs (λ a p. h a (other g gs p)) m f)
  where
    go : (q : Bool) → eqb g.number m ≡ q → (q || member m (numbers gs)) ≡ true → (member m (numbers gs) ≡ true → P m) → P m
    go true f i c = subst P (eqb-true _ _ f) (h g (first gs))
    go false f i c = c i

pub numbers_length : (gs : List Good) → length (numbers gs) ≡ length gs
unfolding numbers
numbers_length [] = refl
numbers_length (g ∷ gs) = ap suc (numbers_length gs)

-- two of the list with one number are the same
pub among_unique : {a b : Good} {gs : List Good} → all_different (numbers gs) ≡ true → Among a gs → Among b gs → a.number ≡ b.number → a ≡ b
among_unique e (first gs) (first hs) f = refl
among_unique e (first gs) (other h hs q) f = absurd (other_number _ e q f)
among_unique e (other h gs p) (first hs) f = absurd (other_number _ e p (sym f))
among_unique e (other h gs p) (other k hs q) f = among_unique (rest_different h gs e) p q f
