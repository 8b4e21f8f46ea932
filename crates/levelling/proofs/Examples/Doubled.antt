-- No fewer exchanges do for all heights: a lowest height and one p + 1 above it, after the same and one 2p + 1 above, are as far apart as the
-- two promises allow. So a spread of 2^k·m + 1 may still be m + 1 after k exchanges; and from −2^31 and 1, which are of 32 bits, two tenths
-- may be left after 31. Assumes nothing.
use mathlib.Core.Path.{◌≡◌, refl, sym, ◌∙◌, ap, subst}
use mathlib.Core.Bool.{Bool, true, false}
use mathlib.Core.List.{List, [], ◌∷◌}
use Prim.Native.Nat.{ℕ, suc, ◌+◌, ◌*◌, ◌-◌, ◌/◌, ◌^◌, ◌≤◌, ◌<◌}
use native.Mathlib.Nat.{mul_assoc}
use native.Mathlib.Omega.{arith}
use lib.IntN.{ℤ, pos, negsuc, ◌+ℤ◌, ◌-ℤ◌, +ℤ_idr, +ℤ_comm, +ℤ-neg_ℤ_cancel}
use lib.Signed.{◌≤ℤ◌, lt_z, lt_z_no}
use Rattle.gradecast.specs.Promise.{Among}
use Rattle.level.specs.Level.{Short, placed, ascending, halved}
use Rattle.levelling.specs.Spread.{lowest, highest, spread, half_up}
use Rattle.levelling.specs.Promise.{StayInside, ComeNear, NoFewer, ShortNeedsAll}
use Rattle.levelling.proofs.Examples.Each.{each_of}
use Rattle.levelling.proofs.Whole.{above_pos, below_pos, order_parts, parts_order, sum_parts, difference_parts}

-- so much above a height, and an order of two such
over : (low : ℤ) → ℕ → ℤ
over low a = low +ℤ pos a

over_order : (low : ℤ) (a b : ℕ) → a ≤ b → over low a ≤ℤ over low b
unfolding over
over_order low a b h =
    parts_order (low +ℤ pos a) (low +ℤ pos b)
    (omega (arith, sum_parts low (pos a), sum_parts low (pos b), above_pos a, below_pos a, above_pos b, below_pos b))

over_none : (low : ℤ) → low ≡ over low 0
unfolding over
over_none low = sym (+ℤ_idr low)

-- a lowest height and one d + 1 above it
two : (low : ℤ) → ℕ → List ℤ
two low d = low ∷ over low (suc d) ∷ []

two_ascends : (low : ℤ) (d : ℕ) → lt_z low (over low (suc d)) ≡ true
unfolding over
two_ascends low d = go (lt_z low (low +ℤ pos (suc d))) refl
  where
    go : (q : Bool) → lt_z low (low +ℤ pos (suc d)) ≡ q → q ≡ true
    go true e = refl
    go false e =
        absurd (omega (arith, order_parts (lt_z_no {a = low} {b = low +ℤ pos (suc d)} (rw e tt)), sum_parts low (pos (suc d)), above_pos (suc d), below_pos (suc d)))

two_ends : (low : ℤ) (d : ℕ) → (lowest (two low d) ≡ low) × (highest (two low d) ≡ over low (suc d))
unfolding two lowest highest ascending placed
two_ends low d = rw (two_ascends low d) (refl, refl)

two_spread : (low : ℤ) (d : ℕ) → spread (two low d) ≡ pos (suc d)
unfolding spread over
two_spread low d =
    rw ((two_ends low d).0, (two_ends low d).1) (ap (λ (z : ℤ). z -ℤ low) (+ℤ_comm low (pos (suc d))) ∙ +ℤ-neg_ℤ_cancel (pos (suc d)) low)

half_two : (low : ℤ) (p : ℕ) → half_up (spread (two low (2 * p))) ≡ pos (suc p)
unfolding half_up halved
half_two low p = ap half_up (two_spread low (2 * p)) ∙ ap pos (let e : (suc (2 * p) + 1) / 2 ≡ suc p = omega arith in e)

-- both are at most d + 1 above it
UpTo : (low : ℤ) (d : ℕ) → ℤ → Type 0
UpTo low d z = (a : ℕ) × (z ≡ over low a) × (a ≤ suc d)

inside : (low : ℤ) (d : ℕ) (z : ℤ) → Among z (two low d) → UpTo low d z
unfolding two UpTo
inside low d z i = each_of (UpTo low d) ((0, over_none low, omega arith), ((suc d, refl, omega arith), tt)) i

near : (low : ℤ) (p a b : ℕ) → a ≤ suc p → (over low a -ℤ over low b) ≤ℤ half_up (spread (two low (2 * p)))
unfolding over
near low p a b h =
    rw (half_two low p)
    (parts_order ((low +ℤ pos a) -ℤ (low +ℤ pos b)) (pos (suc p))
    (omega (
      arith,
      difference_parts (low +ℤ pos a) (low +ℤ pos b),
      sum_parts low (pos a),
      sum_parts low (pos b),
      above_pos a,
      above_pos b,
      above_pos (suc p),
      below_pos a,
      below_pos b,
      below_pos (suc p),
    )))

two_inside : (low : ℤ) (p : ℕ) → StayInside (two low (2 * p)) (two low p)
unfolding UpTo
two_inside low p z i =
    let a = inside low p z i in
    rw a.1 (
      rw (two_ends low (2 * p)).0 (subst (λ (y : ℤ). y ≤ℤ over low a.0) (sym (over_none low)) (over_order low 0 a.0 (omega arith))),
      rw (two_ends low (2 * p)).1 (over_order low a.0 (suc (2 * p)) (omega (arith, a.2))),
    )

two_near : (low : ℤ) (p : ℕ) → ComeNear (two low (2 * p)) (two low p)
unfolding UpTo
two_near low p y z i j =
    let a = inside low p y i in
    let b = inside low p z j in
    rw (a.1, b.1) (near low p a.0 b.0 a.2, near low p b.0 a.0 b.2)

-- what is left of k exchanges after j of them
module _ (low : ℤ) (k m : ℕ) where
  so_far : ℕ → List ℤ
  so_far j = two low (2 ^ (k - j) * m)

  halves_each : (j : ℕ) → j < k → so_far j ≡ two low (2 * (2 ^ (k - suc j) * m))
  unfolding so_far
  halves_each j h =
      let one_more : k - j ≡ suc (k - suc j) = omega arith in
      let double : 2 ^ suc (k - suc j) ≡ 2 * 2 ^ (k - suc j) = omega arith in
      ap (two low) (ap (λ (i : ℕ). 2 ^ i * m) one_more ∙ ap (λ (p : ℕ). p * m) double ∙ mul_assoc 2 (2 ^ (k - suc j)) m)

  stay_inside : (j : ℕ) → j < k → StayInside (so_far j) (so_far (suc j))
  unfolding so_far
  stay_inside j h = subst (λ (old : List ℤ). StayInside old (so_far (suc j))) (sym (halves_each j h)) (two_inside low _)

  come_near : (j : ℕ) → j < k → ComeNear (so_far j) (so_far (suc j))
  unfolding so_far
  come_near j h = subst (λ (old : List ℤ). ComeNear old (so_far (suc j))) (sym (halves_each j h)) (two_near low _)

  left_over : spread (so_far k) ≡ pos (suc m)
  unfolding so_far
  left_over =
      let none : k - k ≡ 0 = omega arith in
      let once : 2 ^ 0 * m ≡ m = omega arith in
      two_spread low _ ∙ ap (λ (i : ℕ). pos (suc (2 ^ i * m))) none ∙ ap (λ (d : ℕ). pos (suc d)) once

pub no_fewer : NoFewer
unfolding NoFewer so_far
no_fewer k m =
    let all : k - 0 ≡ k = omega arith in (
      so_far (pos 0) k m,
      stay_inside (pos 0) k m,
      come_near (pos 0) k m,
      two_spread (pos 0) _ ∙ ap (λ (i : ℕ). pos (suc (2 ^ i * m))) all,
      left_over (pos 0) k m,
    )

pub short_needs_all : ShortNeedsAll
unfolding ShortNeedsAll so_far two over
short_needs_all = (
  so_far (negsuc 2147483647) 31 1,
  λ z i. each_of Short (omega arith, (omega arith, tt)) i,
  stay_inside (negsuc 2147483647) 31 1,
  come_near (negsuc 2147483647) 31 1,
  left_over (negsuc 2147483647) 31 1,
)
