-- The good columns of a group as a list of good columns: they have numbers of their own, are all good columns there are, and with the bad
-- ones make up all. Assumes nothing.
use mathlib.Core.Path.{◌≡◌, refl, sym, ◌∙◌, ap}
use mathlib.Core.Bool.{Bool, true, false, cond, not}
use mathlib.Core.List.{List, [], ◌∷◌}
use mathlib.Core.Logic.{◌⊎◌, inl, inr}
use mathlib.Mathlib.Data.Bool.Basic.{and_intro}
use Prim.Native.Nat.{ℕ, zero, suc, ◌+◌, ◌≤◌, ◌<◌}
use native.Mathlib.Nat.{eq-or-lt_of_le}
use native.Mathlib.Omega.{arith}
use lib.ListN.{length}
use borrow.Author.Tests.{ne_eqb}
use Rattle.arrays.proofs.Bool.{true_not_false}
use Rattle.grading.specs.Promise.{member, all_different}
use Rattle.gradecast.specs.Promise.{Good, numbers, Among, first, other}
use Rattle.bench_file.specs.Scenario.{Scenario, is_good}
use Rattle.bench_agrees.specs.Promise.{bad_from}

among_none : {a : Good} {gs : List Good} → Among a gs → gs ≡ [] → ⊥
among_none (first gs) e = let z : ◌≡◌ {A = ℕ} 0 1 = cc in omega arith
among_none (other h gs p) e = let z : ◌≡◌ {A = ℕ} 0 1 = cc in omega arith

among_cases : (P : Good → Type 0) {a g : Good} {gs : List Good} → Among a (g ∷ gs) → P g → (Among a gs → P a) → P a
among_cases P (first gs) p further = p
among_cases P (other h gs i) p further = further i

module _ (f : Scenario) (good : ℕ → Good) where
  -- the good ones of so many columns from column k on
  unfoldable pub goods_from : (many k : ℕ) → List Good
  goods_from zero k = []
  goods_from (suc n) k = cond (is_good f k) (good k ∷ goods_from n (suc k)) (goods_from n (suc k))

  pub goods_count : (many k : ℕ) → length (goods_from many k) + bad_from f many k ≡ many
  unfolding goods_from bad_from
  goods_count zero k = refl
  goods_count (suc n) k = go (is_good f k) (goods_count n (suc k))
    where
      go :
          (q : Bool) → length (goods_from n (suc k)) + bad_from f n (suc k) ≡ n →
          length (cond q (good k ∷ goods_from n (suc k)) (goods_from n (suc k))) + (cond q 0 1 + bad_from f n (suc k)) ≡ suc n
      go true e = omega arith
      go false e = omega arith

  pub good_among : (many k j : ℕ) → k ≤ j → j < k + many → is_good f j ≡ true → Among (good j) (goods_from many k)
  unfolding goods_from
  good_among zero k j low high e = absurd (omega arith)
  good_among (suc n) k j low high e = go (is_good f k) refl (eq-or-lt_of_le low) (λ less. good_among n (suc k) j less (omega arith) e)
    where
      go :
          (q : Bool) → is_good f k ≡ q → (k ≡ j) ⊎ (k < j) → (suc k ≤ j → Among (good j) (goods_from n (suc k))) →
          Among (good j) (cond q (good k ∷ goods_from n (suc k)) (goods_from n (suc k)))
      go true g (inl same) further = rw same (first (goods_from n (suc j)))
      go true g (inr less) further = other (good k) (goods_from n (suc k)) (further less)
      go false g (inl same) further = true_not_false (sym e ∙ ap (is_good f) (sym same) ∙ g)
      go false g (inr less) further = further less

  pub every_good :
      (P : Good → Type 0) → ((j : ℕ) → is_good f j ≡ true → P (good j)) → (many k : ℕ) (a : Good) → Among a (goods_from many k) → P a
  unfolding goods_from
  every_good P h zero k a i = absurd (among_none i refl)
  every_good P h (suc n) k a i = go (is_good f k) refl (every_good P h n (suc k) a) i
    where
      go :
          (q : Bool) → is_good f k ≡ q → (Among a (goods_from n (suc k)) → P a) → Among a (cond q (good k ∷ goods_from n (suc k)) (goods_from n (suc k))) → P a
      go true e further p = among_cases P p (h k e) further
      go false e further p = further p

  module _ (number : (j : ℕ) → (good j).number ≡ j) where
    number_absent : (many k m : ℕ) → m < k → member m (numbers (goods_from many k)) ≡ false
    unfolding goods_from numbers member
    number_absent zero k m h = refl
    number_absent (suc n) k m h = go (is_good f k) (number_absent n (suc k) m (omega arith))
      where
        go :
            (q : Bool) → member m (numbers (goods_from n (suc k))) ≡ false →
            member m (numbers (cond q (good k ∷ goods_from n (suc k)) (goods_from n (suc k)))) ≡ false
        go true e = rw (number k, ne_eqb k m (λ z. omega arith)) e
        go false e = e

    pub goods_different : (many k : ℕ) → all_different (numbers (goods_from many k)) ≡ true
    unfolding goods_from numbers all_different
    goods_different zero k = refl
    goods_different (suc n) k = go (is_good f k) (goods_different n (suc k))
      where
        go :
            (q : Bool) → all_different (numbers (goods_from n (suc k))) ≡ true →
            all_different (numbers (cond q (good k ∷ goods_from n (suc k)) (goods_from n (suc k)))) ≡ true
        go true e = rw (number k) (and_intro (ap not (number_absent n (suc k) k (omega arith))) e)
        go false e = e
