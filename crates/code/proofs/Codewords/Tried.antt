-- The search of a plane tries one number of places: the codeword near is one, and the last difference from it is. A word does not differ
-- from itself. Assumes nothing.
use mathlib.Core.Path.{◌≡◌, refl, sym, ◌∙◌, ap₂}
use mathlib.Core.List.{List, [], ◌∷◌, ◌++◌}
use mathlib.Core.Logic.{inl, inr}
use Prim.Native.Nat.{ℕ}
use native.Mathlib.Omega.{arith}
use borrow.Author.Tests.{eq-eqb}
use Rattle.code.specs.Repair.{last_difference, Tried}
use Rattle.code.specs.Promise.{OneNear, OneTried}
use Rattle.code.proofs.Codewords.Near.{one_near}

pub last_difference_self : (bs : List ℕ) → last_difference bs bs ≡ 0
unfolding last_difference
last_difference_self [] = refl
last_difference_self (b ∷ bs) = rw (last_difference_self bs, eq-eqb b b refl) refl

pub tried_one : OneTried
unfolding OneTried Tried OneNear
tried_one s bs cs k l fine e f (inl (us, ds, near, p)) (inl (xs, ys, other, q)) =
    let one = one_near s bs cs us ds xs ys fine e f near other in p ∙ ap₂ (λ (u d : List ℕ). last_difference (bs ++ cs) (u ++ d)) one.0 one.1 ∙ sym q
tried_one s bs cs k l fine e f (inl (us, ds, near, p)) (inr (none, q)) = absurd (none us ds near)
tried_one s bs cs k l fine e f (inr (none, p)) (inl (us, ds, near, q)) = absurd (none us ds near)
tried_one s bs cs k l fine e f (inr (none, p)) (inr (nor, q)) = omega (arith, p, q)
