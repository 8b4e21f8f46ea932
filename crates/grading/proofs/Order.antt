-- The order of bytes, which breaks ties: no value stands before itself, of two at most one stands before the other, and what stands
-- before a value stands before, or has before it, any third. Each by induction, place by place. Assumes nothing.
use mathlib.Core.Path.{◌≡◌, refl, sym, ◌∙◌}
use mathlib.Core.Bool.{Bool, true, false, ◌&&◌, ◌||◌}
use mathlib.Core.List.{[], ◌∷◌}
use mathlib.Core.Logic.{◌≢◌}
use native.Mathlib.Omega.{arith}
use lib.Dec.{ltb, eqb}
use borrow.Author.Tests.{eqb-true, eqb-false, ltb-true, ltb-false, lt-ltb, le-ltb, eq-eqb, ne_eqb}
use Rattle.arrays.proofs.Bool.{true_not_false}
use Rattle.grading.specs.Value.{Value, bytes_before}

pub before_irrefl : (a : Value) → bytes_before a a ≡ false
unfolding bytes_before
before_irrefl [] = refl
before_irrefl (x ∷ a) = rw (le-ltb x x (omega arith), eq-eqb x x refl) (before_irrefl a)

pub before_asym : (a b : Value) → bytes_before a b ≡ true → bytes_before b a ≡ false
unfolding bytes_before
before_asym a [] e = true_not_false (sym e)
before_asym [] (y ∷ b) e = refl
before_asym (x ∷ a) (y ∷ b) e = go (ltb x y) (eqb x y) refl refl e (before_asym a b)
  where
    go : (p q : Bool) → ltb x y ≡ p → eqb x y ≡ q → (p || (q && bytes_before a b)) ≡ true → (bytes_before a b ≡ true → bytes_before b a ≡ false) →
        (ltb y x || (eqb y x && bytes_before b a)) ≡ false
    go true q f g h i = let less = ltb-true x y f in rw (le-ltb y x (omega arith), ne_eqb y x (λ k. absurd (omega arith))) refl
    go false true f g h i = let same = eqb-true x y g in rw (le-ltb y x (omega arith), eq-eqb y x (sym same)) (i h)
    go false false f g h i = true_not_false (sym h)

-- of two values one before the other, the first stands before any third, or the third before the second
before_split : (a b c : Value) → bytes_before a c ≡ true → bytes_before a b ≡ false → bytes_before b c ≡ true
unfolding bytes_before
before_split a b [] e f = true_not_false (sym e)
before_split [] [] (z ∷ c) e f = refl
before_split [] (y ∷ b) (z ∷ c) e f = true_not_false f
before_split (x ∷ a) [] (z ∷ c) e f = refl
before_split (x ∷ a) (y ∷ b) (z ∷ c) e f = go (ltb x z) (eqb x z) (ltb x y) (eqb x y) refl refl refl refl e f (before_split a b c)
  where
    go : (p q r t : Bool) → ltb x z ≡ p → eqb x z ≡ q → ltb x y ≡ r → eqb x y ≡ t → (p || (q && bytes_before a c)) ≡ true →
        (r || (t && bytes_before a b)) ≡ false → (bytes_before a c ≡ true → bytes_before a b ≡ false → bytes_before b c ≡ true) →
        (ltb y z || (eqb y z && bytes_before b c)) ≡ true
    go p q true t d f g h i k l = true_not_false k
    go true q false t d f g h i k l =
        let less = ltb-true x z d in let not_less = ltb-false x y g in rw (lt-ltb y z (omega arith)) refl
    go false true false true d f g h i k l =
        let one = eqb-true x z f in let two = eqb-true x y h in rw (le-ltb y z (omega arith), eq-eqb y z (omega arith)) (l i k)
    go false true false false d f g h i k l =
        let one = eqb-true x z f in
        let two : x ≢ y = eqb-false x y h in
        let not_less = ltb-false x y g in
        rw (lt-ltb y z (omega arith)) refl
    go false false false t d f g h i k l = true_not_false (sym i)

pub not_before_trans : (a b c : Value) → bytes_before a b ≡ false → bytes_before b c ≡ false → bytes_before a c ≡ false
not_before_trans a b c e f = go (bytes_before a c) refl
  where
    go : (q : Bool) → bytes_before a c ≡ q → bytes_before a c ≡ false
    go true g = true_not_false (sym (before_split a b c g e) ∙ f)
    go false g = g
