-- What a settled column says: Y at it, and the value and confidence held. Where its leader is found often enough it is m, found as often;
-- where it is not, m is not either, and blank is what the definitions say. Assumes nothing.
use mathlib.Core.Path.{◌≡◌, refl, sym, ◌∙◌, ap, ap₂}
use mathlib.Core.Bool.{Bool, true, false, cond}
use mathlib.Core.List.{[], ◌∷◌}
use Prim.Native.Nat.{ℕ, ◌+◌, ◌*◌, ◌-◌, ◌≤◌, ◌<◌}
use native.Mathlib.Omega.{arith}
use lib.Dec.{leb, eqb}
use lib.ListN.{length, replicate}
use borrow.Author.Tests.{leb-true, leb-false, le-leb, lt-leb, eqb-true}
use Rattle.arrays.proofs.Bool.{and_split}
use Rattle.code.specs.Settings.{Settings, settings, value_size}
use Rattle.grading.specs.Value.{Value, Rows, blank, is_blank}
use Rattle.grading.specs.Held.{Held, held_as}
use Rattle.grading.specs.Count.{found, most, agreed_least, sure_least, likely_least, agreed_at, held_of, held_at}
use Rattle.grading.proofs.Value.{blank_size}
use Rattle.grading.proofs.Most.{most_is}
use Rattle.counting.specs.Steps.Table.{Planes, value_in, rows_in}
use Rattle.counting.specs.declared.leaders.Counted.{Counted}
use Rattle.counting.specs.Steps.Tally.{best_in, Settled, value_from, confidence_by}
use Rattle.counting.proofs.Planes.{value_long, rows_length, value_at}
use Rattle.counting.proofs.Settling.{counted_filled, counted_some}

-- a blank of a value's size
blank_of : (v : Value) → is_blank v ≡ true → v ≡ replicate (length v) 0
unfolding is_blank
blank_of [] e = refl
blank_of (x ∷ v) e = let both = and_split (eqb x 0) (is_blank v) e in ap₂ ◌∷◌ (eqb-true x 0 both.0) (blank_of v both.1)

-- the value that leads a column is an entry that it is where it is found so often, and that is blank where it is found less often
value_over : (w least : ℕ) (x : Planes) (k : ℕ) (v : Counted) (u : Value) → (least ≤ v.times → value_in w x v.row k ≡ u) →
    (v.times < least → u ≡ replicate w 0) → value_from w least x k v ≡ u
unfolding value_from
value_over w least x k v u often seldom = go (leb least v.times) refl
  where
    go : (q : Bool) → leb least v.times ≡ q → cond q (value_in w x v.row k) (replicate w 0) ≡ u
    go true e = often (leb-true least v.times e)
    go false e = sym (seldom (leb-false least v.times e))

module _ (n t w : ℕ) (x : Planes) (k : ℕ) (inside : k < n) where
  abbrev s : Settings
  s = settings n t w

  abbrev rows : Rows
  rows = rows_in n w x

  abbrev m : Value
  m = best_in n w x k

  best_long : length m ≡ w
  unfolding best_in settings value_size
  best_long =
      most_is (λ v. length v ≡ w) (settings 0 0 w) k rows (blank_size (settings 0 0 w))
      (λ i h. (let l : i < n = rw (rows_length n w x) at h in rw (value_at n w x i k l inside) (value_long w x i k)))

  -- Y
  agreed_as : agreed_at s rows k ≡ cond (leb (n - t) (found k m rows)) m (replicate w 0)
  unfolding agreed_at agreed_least best_in most blank settings value_size
  agreed_as = refl

  module _ (row times : ℕ) (a : Settled n w (n - t) x k row times) where
    agreed_often : t < n → n - t ≤ times → value_in w x row k ≡ agreed_at s rows k
    agreed_often some h =
        let e = a.count h in
        let filled = counted_some k m rows (omega arith) in
        a.value h ∙ sym (agreed_as ∙ rw (le-leb (n - t) (found k m rows) (omega (arith, counted_filled k m rows filled))) refl)

    agreed_seldom : times < n - t → agreed_at s rows k ≡ replicate w 0
    agreed_seldom h = agreed_as ∙ go (is_blank m) refl
      where
        either : (q : Bool) → m ≡ replicate w 0 → cond q m (replicate w 0) ≡ replicate w 0
        either true e = e
        either false e = refl

        go : (q : Bool) → is_blank m ≡ q → cond (leb (n - t) (found k m rows)) m (replicate w 0) ≡ replicate w 0
        go true e = either (leb (n - t) (found k m rows)) (blank_of m e ∙ ap (λ (l : ℕ). replicate l 0) best_long)
        go false e = rw (lt-leb (n - t) (found k m rows) (omega (arith, counted_filled k m rows e, a.seldom h)))

  pub agreed_value : (v : Counted) → Settled n w (n - t) x k v.row v.times → t < n → value_from w (n - t) x k v ≡ agreed_at s rows k
  agreed_value v a some =
      value_over w (n - t) x k v (agreed_at s rows k) (agreed_often v.row v.times a some) (agreed_seldom v.row v.times a)

  -- values and confidences
  held_by : held_at s rows k
      ≡ cond (is_blank m) (held_as (replicate w 0) 0)
      (cond (leb (2 * t + 1) (found k m rows)) (held_as m 2) (cond (leb (t + 1) (found k m rows)) (held_as m 1) (held_as (replicate w 0) 0)))
  unfolding held_at held_of sure_least likely_least best_in most blank settings value_size
  held_by = refl

  module _ (row times : ℕ) (a : Settled n w (t + 1) x k row times) where
    held_often : t < times → held_at s rows k ≡ held_as (value_in w x row k) (confidence_by t times)
    unfolding confidence_by
    held_often h =
        let e = a.count (omega arith) in
        let filled = counted_some k m rows (omega arith) in
        let f : found k m rows ≡ times = omega (arith, counted_filled k m rows filled) in
        held_by ∙ rw (filled, f, a.value (omega arith), le-leb (t + 1) times (omega arith)) (go (leb (2 * t + 1) times))
      where
        go : (q : Bool) → cond q (held_as m 2) (held_as m 1) ≡ held_as m (cond q 2 1)
        go true = refl
        go false = refl

    held_seldom : times ≤ t → held_at s rows k ≡ held_as (replicate w 0) 0
    held_seldom h = held_by ∙ go (is_blank m) refl
      where
        go : (q : Bool) → is_blank m ≡ q →
            cond q (held_as (replicate w 0) 0)
            (cond (leb (2 * t + 1) (found k m rows)) (held_as m 2) (cond (leb (t + 1) (found k m rows)) (held_as m 1) (held_as (replicate w 0) 0)))
            ≡ held_as (replicate w 0) 0
        go true e = refl
        go false e =
            let l = a.seldom (omega arith) in
            let f = counted_filled k m rows e in
            rw (lt-leb (2 * t + 1) (found k m rows) (omega arith), lt-leb (t + 1) (found k m rows) (omega arith))

    held_filled : t < times → value_in w x row k ≡ (held_at s rows k).value
    unfolding held_as
    held_filled h = sym (ap (λ (r : Held). r.value) (held_often h))

    held_blank : times ≤ t → (held_at s rows k).value ≡ replicate w 0
    unfolding held_as
    held_blank h = ap (λ (r : Held). r.value) (held_seldom h)

    pub held_confidence : confidence_by t times ≡ (held_at s rows k).confidence
    unfolding held_as confidence_by
    held_confidence = go (leb (t + 1) times) refl
      where
        go : (q : Bool) → leb (t + 1) times ≡ q → confidence_by t times ≡ (held_at s rows k).confidence
        go true e = sym (ap (λ (r : Held). r.confidence) (held_often (omega (arith, leb-true (t + 1) times e))))
        go false e =
            let few = leb-false (t + 1) times e in
            rw (lt-leb (2 * t + 1) times (omega arith), e) (sym (ap (λ (r : Held). r.confidence) (held_seldom (omega arith))))

  pub held_value : (v : Counted) → Settled n w (t + 1) x k v.row v.times → value_from w (t + 1) x k v ≡ (held_at s rows k).value
  held_value v a =
      value_over w (t + 1) x k v (held_at s rows k).value (λ h. held_filled v.row v.times a (omega arith)) (λ h. held_blank v.row v.times a (omega arith))
