-- `locator::step` meets its contract, in each of the three ways that a step can go. Assumes nothing.
use mathlib.Core.Path.{◌≡◌, refl, sym, ◌∙◌, ap}
use mathlib.Core.Logic.{⊎_elim}
use mathlib.Core.List.{List}
use Prim.Native.Nat.{ℕ, ◌+◌, ◌-◌, ◌≤◌, ◌<◌}
use native.Mathlib.Omega.{arith}
use lib.ListN.{length, take, drop, length-drop}
use borrow.Rule.Slice.PartMut.{put_mid}
use Rattle.field.specs.Field.{power, times}
use Rattle.field.specs.Exponents.{ExponentOf}
use Rattle.field.proofs.Power.{power_add}
use Rattle.code.specs.Size.{plane_room}
use Rattle.code.specs.Polynomial.{added, scaled}
use Rattle.locator.specs.Locator.{against, raised}
use Rattle.locator.specs.Reached.{start_of, sums_of}
use Rattle.locator.proofs.Locator.Reached.{reached_size, reached_bytes, reached_from, step_kept, step_longer, step_as_long}
use Rattle.locator.proofs.Polynomials.Coefficients.{added_part, drop_part}
use Rattle.locator.proofs.berlekamp.step.Goals as goal
use Rattle.locator.proofs.berlekamp.step.Goals.{Start, After-discrepancy-d, After-exponent_of-own, After-reduced-exponent, After-add_scaled}

-- a byte but 0 is a power of 2
logarithm_of : (d e : ℕ) → (d ≡ 0 → ⊥) → ExponentOf d e → (e < 255) × (power 2 e ≡ d)
unfolding ExponentOf
logarithm_of d e n = ⊎_elim (λ z. absurd (n z.0)) (λ p. p)

-- what is known at the start
module _ (c : Start) where
  small : c.args.plane.now.size ≤ c.args.k
  small = reached_size _ _ _ c.requires.comes c.requires.p_lt_row_width.1

  -- the place where the multiple comes in
  place : plane_room - 1 + c.args.plane.now.size - (c.args.k + 1) ≤ c.args.plane.now.from
  place = omega (arith, c.args.plane.now.within, reached_from _ _ _ c.requires.comes c.requires.p_lt_row_width.1)

  -- the part that is summed up
  part :
      let x = c.args.plane.now in
      take (plane_room - start_of x.size) (drop (start_of x.size) x.coefficients) ≡ drop (start_of x.size) x.coefficients
  part =
      let x = c.args.plane.now in
      drop_part (start_of x.size) (plane_room - start_of x.size) x.coefficients (let e : plane_room - start_of x.size ≡ length x.coefficients - start_of x.size = omega (arith, c.requires.comes.long) in e)

pub overflow_sub-k : goal.overflow_sub-k
overflow_sub-k c = small (goal.at.overflow_sub-k c).Start

pub discrepancy-d-requires : goal.discrepancy-d-requires
discrepancy-d-requires c =
    let s = (goal.at.discrepancy-d-requires c).Start in
    let few = small s in
    let x = s.args.plane.now in
    let long = ap length (part s) ∙ length-drop (start_of x.size) x.coefficients in
    let whole = s.requires.comes.long in
    (omega arith, omega arith, omega arith, omega arith)

-- what is known of the discrepancy
module _ (c : After-discrepancy-d) where
  found :
      let x = c.args.plane.now in
      c.discrepancy-d.result ≡ against (drop (start_of x.size) x.coefficients) (sums_of c.args.p c.args.sums.now) (c.args.k - x.size)
  found =
      let x = c.args.plane.now in
      c.discrepancy-d.ensures ∙ ap (λ (q : List ℕ). against q (sums_of c.args.p c.args.sums.now) (c.args.k - x.size)) (part (goal.at.After-discrepancy-d c).Start)

pub returns-then-d-eq0 : goal.returns-then-d-eq0
returns-then-d-eq0 c =
    step_kept (sums_of c.args.p c.args.sums.now) c.args.k _ c.requires.comes c.requires.p_lt_row_width.1 _ (found (goal.at.returns-then-d-eq0 c).After-discrepancy-d) c.if-d-eq0.true

-- what is known of its exponent
own : (c : After-exponent_of-own) → (c.exponent_of-own.result < 255) × (power 2 c.exponent_of-own.result ≡ c.discrepancy-d.result)
own c = logarithm_of _ _ c.if-d-eq0.false c.exponent_of-own.ensures.0

pub reduced-exponent-requires : goal.reduced-exponent-requires
reduced-exponent-requires c = let o = own (goal.at.reduced-exponent-requires c).After-exponent_of-own in omega (arith, o.0, c.args.plane.now.within)

pub slice_bounds-add_scaled-count : goal.slice_bounds-add_scaled-count
slice_bounds-add_scaled-count c = omega (arith, small (goal.at.slice_bounds-add_scaled-count c).Start)

pub slice_bounds-add_scaled-start : goal.slice_bounds-add_scaled-start
slice_bounds-add_scaled-start c = omega (arith, small (goal.at.slice_bounds-add_scaled-start c).Start)

pub add_scaled-requires : goal.add_scaled-requires
add_scaled-requires c =
    let s = (goal.at.add_scaled-requires c).Start in
    let x = s.args.plane.now in
    let to = plane_room - 1 + x.size - (s.args.k + 1) in
    let long = s.requires.comes.long in
    let long_before = s.requires.comes.long_before in
    let near = place s in
    let whole = ap length (drop_part to (plane_room - to) x.coefficients (omega arith)) ∙ length-drop to x.coefficients in
    let other = ap length (drop_part x.from (plane_room - x.from) x.before (omega arith)) ∙ length-drop x.from x.before in
    (c.reduced-exponent.ensures.0, omega arith)

pub overflow_sub-plane-then-size-k : goal.overflow_sub-plane-then-size-k
overflow_sub-plane-then-size-k c = let o = own (goal.at.overflow_sub-plane-then-size-k c).After-exponent_of-own in omega (arith, o.0)

-- what is known when the multiple was added
module _ (c : After-add_scaled) where
  abbrev start : Start
  start = (goal.at.After-add_scaled c).Start

  -- the factor is the discrepancy times the other factor
  both : power 2 c.reduced-exponent.result ≡ times c.discrepancy-d.result (power 2 c.args.plane.now.scale)
  both =
      c.reduced-exponent.ensures.1 ∙ sym (power_add c.exponent_of-own.result c.args.plane.now.scale)
      ∙ ap (λ (x : ℕ). times x (power 2 c.args.plane.now.scale)) (own (goal.at.After-add_scaled c).After-exponent_of-own).1

  abbrev to : ℕ
  to = plane_room - 1 + c.args.plane.now.size - (c.args.k + 1)

  now :
      let x = c.args.plane.now in
      put_mid to (plane_room - to) x.coefficients c.add_scaled.new.polynomial
      ≡ added x.coefficients (scaled (power 2 c.reduced-exponent.result) (raised to (drop x.from x.before)))
  now =
      let x = c.args.plane.now in
      added_part c.reduced-exponent.result to x.from (plane_room - to) (plane_room - x.from) x.coefficients x.before _ (place start)
      (omega (arith, x.within, start.requires.comes.long_before)) (omega (arith, start.requires.comes.long, start.requires.comes.long_before))
      (omega (arith, start.requires.comes.long)) (omega (arith, start.requires.comes.long_before)) (reached_bytes _ _ _ start.requires.comes start.requires.p_lt_row_width.1) c.add_scaled.ensures

pub returns-then-size-k : goal.returns-then-size-k
returns-then-size-k c =
    let a = (goal.at.returns-then-size-k c).After-add_scaled in
    let o = own (goal.at.returns-then-size-k c).After-exponent_of-own in
    step_longer (sums_of c.args.p c.args.sums.now) c.args.k _ c.requires.comes c.requires.p_lt_row_width.1 _ (found (goal.at.returns-then-size-k c).After-discrepancy-d)
    _ _ _ c.if-d-eq0.false (omega arith) o.0 o.1 (both a) refl _ c.if-size-k.true (now a) refl refl refl refl

pub returns-else-size-k : goal.returns-else-size-k
returns-else-size-k c =
    let a = (goal.at.returns-else-size-k c).After-add_scaled in
    let o = own (goal.at.returns-else-size-k c).After-exponent_of-own in
    step_as_long (sums_of c.args.p c.args.sums.now) c.args.k _ c.requires.comes c.requires.p_lt_row_width.1 _ (found (goal.at.returns-else-size-k c).After-discrepancy-d)
    _ _ _ c.if-d-eq0.false (omega arith) o.0 o.1 (both a) refl _ c.if-size-k.false (now a) refl refl refl refl
