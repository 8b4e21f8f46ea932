-- The locators of all planes. A step takes one plane further and leaves the others, so that each plane comes as far as if it were alone.
-- Assumes nothing.
use mathlib.Core.Path.{◌≡◌, refl, sym, ◌∙◌, subst}
use mathlib.Core.Bool.{cond}
use mathlib.Core.List.{List, ◌++◌}
use Prim.Native.Nat.{ℕ, ◌+◌, ◌<◌, ◌≤◌}
use native.Mathlib.Omega.{arith}
use native.Mathlib.Decide.{ℕ_discrete, dec_lt}
use lib.Dec.{ltb}
use lib.ListN.{length, get_or, take, drop, set, replicate, length-set, length-drop, length-append, get_or-append, get_or-replicate}
use lib.Seq.{get_or-set_same, get_or-set_other, length-take-le, get_or-take}
use borrow.Author.Tests.{lt-ltb, le-ltb}
use Rattle.code.specs.Size.{value_room}
use Rattle.locator.specs.Locator.{start, massey}
use Rattle.locator.specs.Reached.{Reaches, Comes, AllCome, AllLocated}
use Rattle.locator.specs.declared.locators.Locator.{Locator}

-- how far the planes have come while they take power sum k
unfoldable pub taking : (k p q : ℕ) → ℕ
taking k p q = cond (ltb q p) (k + 1) k

taken : (k p q : ℕ) → q < p → taking k p q ≡ k + 1
unfolding taking
taken k p q h = rw (lt-ltb q p h)

to_take : (k p q : ℕ) → p ≤ q → taking k p q ≡ k
unfolding taking
to_take k p q h = rw (le-ltb q p h)

taking_kept : (k p q : ℕ) → (q ≡ p → ⊥) → taking k p q ≡ taking k (p + 1) q
taking_kept k p q n = go (dec_lt q p)
  where
    go : Dec (q < p) → taking k p q ≡ taking k (p + 1) q
    go (yes h) = taken k p q h ∙ sym (taken k (p + 1) q (omega arith))
    go (no h) = to_take k p q (omega arith) ∙ sym (to_take k (p + 1) q (omega arith))

module _ (k : ℕ) (sums : List ℕ) (planes : List Locator) where
  all_as : (far next : ℕ → ℕ) → ((q : ℕ) → q < length planes → far q ≡ next q) → AllCome far sums planes → AllCome next sums planes
  all_as far next e all p default h = subst (λ (j : ℕ). Comes j p sums (get_or planes p default)) (e p h) (all p default h)

  pub none_taken : AllCome (λ _. k) sums planes → AllCome (taking k 0) sums planes
  none_taken = all_as (λ _. k) (taking k 0) (λ q h. sym (to_take k 0 q (omega arith)))

  pub all_taken : (p : ℕ) → length planes ≤ p → AllCome (taking k p) sums planes → AllCome (λ _. k + 1) sums planes
  all_taken p l = all_as (taking k p) (λ _. k + 1) (λ q h. taken k p q (omega arith))

  -- plane p takes power sum k
  module _ (p : ℕ) (all : AllCome (taking k p) sums planes) (inside : p < length planes) where
    pub to_step : (default : Locator) → Comes k p sums (get_or planes p default)
    to_step default = subst (λ (j : ℕ). Comes j p sums (get_or planes p default)) (to_take k p p (omega arith)) (all p default inside)

    pub stepped : (plane : Locator) → Comes (k + 1) p sums plane → AllCome (taking k (p + 1)) sums (set planes p plane)
    stepped plane r q default h = go (ℕ_discrete q p)
      where
        go : Dec (q ≡ p) → Comes (taking k (p + 1) q) q sums (get_or (set planes p plane) q default)
        go (yes e) =
            rw (e, get_or-set_same planes p plane default inside, taken k (p + 1) p (omega arith)) r
        go (no n) =
            rw (get_or-set_other planes p q plane default n, sym (taking_kept k p q n)) (all q default (omega (arith, length-set planes p plane)))

-- the first planes' locators in an array with room for all
module _ (planes : ℕ) (sums : List ℕ) (few : planes ≤ value_room) where
  pub located_start : (plane : Locator) → Reaches start plane → AllLocated planes 0 sums (replicate value_room plane)
  unfolding massey
  located_start plane r = record { long = refl; each = λ p default h. rw (get_or-replicate value_room p plane default (omega arith)) r }

  pub located_part : (k : ℕ) (all : List Locator) → AllLocated planes k sums all → AllCome (λ _. k) sums (take planes all)
  located_part k all a p default h =
      let below : p < planes = omega (arith, length-take-le planes all (omega (arith, a.long))) in
      rw (get_or-take planes all p default below) (a.each p default below)

  pub located_more :
      (k : ℕ) (all part : List Locator) → length all ≡ value_room → length part ≡ planes → AllCome (λ _. k) sums part →
      AllLocated planes k sums (part ++ drop planes all)
  located_more k all part l e a =
      record {
        long = omega (arith, length-append part (drop planes all), length-drop planes all);
        each = λ p default h. rw (get_or-append part (drop planes all) default p (omega arith)) (a p default (omega arith));
      }
