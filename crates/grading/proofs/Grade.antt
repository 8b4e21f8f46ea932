-- One entry of Y, and one value with its confidence. A value of Y that is no blank was found n − t times, and what is found so often
-- is more than half of the rows and stands in Y. Above confidence 0 the value is the one found most often, no blank, found t + 1
-- times, at confidence 2 even 2t + 1 times; and the other way round. Assumes nothing.
use mathlib.Core.Path.{◌≡◌, refl, sym, ◌∙◌}
use mathlib.Core.Bool.{Bool, true, false, cond}
use mathlib.Core.List.{[]}
use mathlib.Core.Logic.{◌≢◌}
use Prim.Native.Nat.{ℕ, ◌+◌, ◌*◌, ◌-◌, ◌<◌, ◌≤◌}
use native.Mathlib.Omega.{arith}
use lib.Dec.{leb, eqb}
use lib.ListN.{length, get_or}
use borrow.Author.Tests.{eqb-true, eqb-false, leb-true, le-leb}
use Rattle.arrays.proofs.Bool.{true_not_false}
use Rattle.code.specs.Settings.{Settings}
use Rattle.grading.specs.Value.{Value, Rows, blank, is_blank}
use Rattle.grading.specs.Held.{held_as}
use Rattle.grading.specs.Count.{found, most, agreed_least, sure_least, likely_least, agreed_at, held_of}
use Rattle.grading.proofs.Value.{blank_is_blank}
use Rattle.grading.specs.Promise.{apart}
use Rattle.grading.proofs.Most.{most_is, most_of_half}

-- an entry of Y
pub agreed_found : (s : Settings) (rows : Rows) (j : ℕ) → is_blank (agreed_at s rows j) ≡ false → agreed_least s ≤ found j (agreed_at s rows j) rows
unfolding agreed_at
agreed_found s rows j e = go (leb (agreed_least s) (found j (most s j rows) rows)) refl e
  where
    go : (q : Bool) → leb (agreed_least s) (found j (most s j rows) rows) ≡ q → is_blank (cond q (most s j rows) (blank s)) ≡ false →
        agreed_least s ≤ found j (cond q (most s j rows) (blank s)) rows
    go true g h = leb-true _ _ g
    go false g h = true_not_false (sym (blank_is_blank s) ∙ h)

pub agreed_of_often :
    (s : Settings) (rows : Rows) (j : ℕ) (v : Value) → 3 * s.t + 1 ≤ s.n → length rows ≡ s.n → is_blank v ≡ false → s.n ≤ found j v rows + s.t →
    agreed_at s rows j ≡ v
unfolding agreed_at agreed_least
agreed_of_often s rows j v enough many e h =
    let often : agreed_least s ≤ found j v rows = omega arith in
    rw (most_of_half s j rows v e (omega arith), le-leb (agreed_least s) (found j v rows) often) refl

pub agreed_is :
    (P : Value → Type 0) (s : Settings) (rows : Rows) (j : ℕ) → P (blank s) → ((k : ℕ) → k < length rows → P (get_or (get_or rows k []) j [])) →
    P (agreed_at s rows j)
unfolding agreed_at
agreed_is P s rows j b h = go (leb (agreed_least s) (found j (most s j rows) rows))
  where
    go : (q : Bool) → P (cond q (most s j rows) (blank s))
    go true = most_is P s j rows b h
    go false = b

-- a value that is held at confidence 2 is found often enough for confidence 1
likely_le_sure : (s : Settings) → likely_least s ≤ sure_least s
unfolding likely_least sure_least
likely_le_sure s = omega arith

-- a value above confidence 0
pub record Sure (s : Settings) (v : Value) (times : ℕ) : Type 0 where
  pub filled : is_blank v ≡ false
  pub often : likely_least s ≤ times
  pub is : (held_of s v times).value ≡ v
  pub often_at_two : (held_of s v times).confidence ≡ 2 → sure_least s ≤ times

pub held_sure : (s : Settings) (v : Value) (c : ℕ) → 1 ≤ (held_of s v c).confidence → Sure s v c
unfolding held_of held_as
held_sure s v c h = go (is_blank v) (leb (sure_least s) c) (leb (likely_least s) c) refl refl refl h
  where
    go : (p q r : Bool) → is_blank v ≡ p → leb (sure_least s) c ≡ q → leb (likely_least s) c ≡ r →
        1 ≤ (cond p (held_as (blank s) 0) (cond q (held_as v 2) (cond r (held_as v 1) (held_as (blank s) 0)))).confidence → Sure s v c
    go true q r e f g h = absurd (omega arith)
    go false true r e f g h = let k = leb-true (sure_least s) c f in record { filled = e; often = omega (arith, likely_le_sure s); is = rw (e, f) refl; often_at_two = λ z. k }
    go false false true e f g h =
        record {
          filled = e;
          often = leb-true _ _ g;
          is = rw (e, f, g) refl;
          often_at_two = λ z. absurd (let y : ◌≡◌ {A = ℕ} 1 2 = rw (e, f, g) at z in omega arith);
        }
    go false false false e f g h = absurd (omega arith)

pub confidence_le : (s : Settings) (v : Value) (c : ℕ) → (held_of s v c).confidence ≤ 2
unfolding held_of held_as
confidence_le s v c = go (is_blank v) (leb (sure_least s) c) (leb (likely_least s) c)
  where
    go : (p q r : Bool) → (cond p (held_as (blank s) 0) (cond q (held_as v 2) (cond r (held_as v 1) (held_as (blank s) 0)))).confidence ≤ 2
    go true q r = omega arith
    go false true r = omega arith
    go false false true = omega arith
    go false false false = omega arith

pub held_some : (s : Settings) (v : Value) (c : ℕ) → is_blank v ≡ false → likely_least s ≤ c → 1 ≤ (held_of s v c).confidence
unfolding held_of held_as
held_some s v c e h = rw (e, le-leb (likely_least s) c h) (go (leb (sure_least s) c))
  where
    go : (q : Bool) → 1 ≤ (cond q (held_as v 2) (held_as v 1)).confidence
    go true = omega arith
    go false = omega arith

pub held_full : (s : Settings) (v : Value) (c : ℕ) → is_blank v ≡ false → sure_least s ≤ c → held_of s v c ≡ held_as v 2
unfolding held_of
held_full s v c e h = rw (e, le-leb (sure_least s) c h) refl

-- confidences of which neither is 2 where the other is 0 are at most one apart
pub apart_le_one : (a b : ℕ) → a ≤ 2 → b ≤ 2 → (a ≡ 2 → 1 ≤ b) → (b ≡ 2 → 1 ≤ a) → apart a b ≤ 1
unfolding apart
apart_le_one a b h l f g = go (eqb a 2) (eqb b 2) refl refl
  where
    go : (p q : Bool) → eqb a 2 ≡ p → eqb b 2 ≡ q → (a - b) + (b - a) ≤ 1
    go true q e i = omega (arith, f (eqb-true a 2 e), eqb-true a 2 e)
    go false true e i = omega (arith, g (eqb-true b 2 i), eqb-true b 2 i)
    go false false e i = let x : a ≢ 2 = eqb-false a 2 e in let y : b ≢ 2 = eqb-false b 2 i in omega arith
