-- Places: an x of the field with a weight y. What is said of a list of places (bytes, different x, all y zero, how many y not
-- zero) carries over to two lists joined, and to places whose y is multiplied by a value that depends on x. Assumes nothing.
use mathlib.Core.Path.{◌≡◌, refl, ◌∙◌, ap}
use mathlib.Core.Bool.{cond}
use mathlib.Core.List.{List, [], ◌∷◌, ◌++◌}
use Prim.Native.Nat.{ℕ, suc, ◌+◌, ◌<◌, ◌≤◌}
use native.Mathlib.Omega.{arith}
use lib.Dec.{eqb}
use lib.ListN.{length}
use borrow.Author.Tests.{eqb-true, eq-eqb}
use Rattle.arrays.proofs.Bool.{count_le_one, count_le}
use Rattle.field.specs.Field.{plus, times}
use Rattle.field.proofs.Xor.{plus_lt, equal_of_plus_zero}
use Rattle.field.proofs.Times.{times_lt, zero_times}
use Rattle.field.proofs.Logarithm.{times_comm, no_zero_divisors}

pub record Place : Type 0 where
  pub x : ℕ
  pub y : ℕ

abbrev pub BytePlaces : List Place → Type 0
BytePlaces [] = Unit {0}
BytePlaces (p ∷ ps) = (p.x < 256) × (p.y < 256) × BytePlaces ps

-- no place has the x given
abbrev pub Apart : (x : ℕ) → List Place → Type 0
Apart c [] = Unit {0}
Apart c (p ∷ ps) = (p.x ≡ c → ⊥) × Apart c ps

-- no two places have the same x
abbrev pub Different : List Place → Type 0
Different [] = Unit {0}
Different (p ∷ ps) = Apart p.x ps × Different ps

abbrev pub AllZero : List Place → Type 0
AllZero [] = Unit {0}
AllZero (p ∷ ps) = (p.y ≡ 0) × AllZero ps

-- how many y are not zero
unfoldable pub nonzero : List Place → ℕ
nonzero [] = 0
nonzero (p ∷ ps) = cond (eqb p.y 0) 0 1 + nonzero ps

pub nonzero_le_length : (ps : List Place) → nonzero ps ≤ length ps
unfolding nonzero
nonzero_le_length [] = omega arith
nonzero_le_length (p ∷ ps) = omega (arith, count_le_one (eqb p.y 0), nonzero_le_length ps)

-- two lists joined
pub byte_places_append : (ps qs : List Place) → BytePlaces ps → BytePlaces qs → BytePlaces (ps ++ qs)
byte_places_append [] qs b c = c
byte_places_append (p ∷ ps) qs b c = (b.0, b.1, byte_places_append ps qs b.2 c)

pub apart_append : (c : ℕ) (ps qs : List Place) → Apart c ps → Apart c qs → Apart c (ps ++ qs)
apart_append c [] qs a b = b
apart_append c (p ∷ ps) qs a b = (a.0, apart_append c ps qs a.1 b)

pub nonzero_append : (ps qs : List Place) → nonzero (ps ++ qs) ≡ nonzero ps + nonzero qs
unfolding nonzero
nonzero_append [] qs = omega arith
nonzero_append (p ∷ ps) qs = omega (arith, nonzero_append ps qs)

pub all_zero_split : (ps qs : List Place) → AllZero (ps ++ qs) → AllZero ps × AllZero qs
all_zero_split [] qs z = (tt, z)
all_zero_split (p ∷ ps) qs z = let rest = all_zero_split ps qs z.1 in ((z.0, rest.0), rest.1)

-- every y times a value of its x
unfoldable pub weighed : (weight : ℕ → ℕ) → List Place → List Place
weighed f [] = []
weighed f (p ∷ ps) = record { x = p.x; y = times p.y (f p.x) } ∷ weighed f ps

module _ (f : ℕ → ℕ) where
  pub weighed_bytes : (ps : List Place) → BytePlaces ps → BytePlaces (weighed f ps)
  unfolding weighed
  weighed_bytes [] b = b
  weighed_bytes (p ∷ ps) b = (b.0, times_lt _ _, weighed_bytes ps b.2)

  pub weighed_apart : (c : ℕ) (ps : List Place) → Apart c ps → Apart c (weighed f ps)
  unfolding weighed
  weighed_apart c [] a = a
  weighed_apart c (p ∷ ps) a = (a.0, weighed_apart c ps a.1)

  pub weighed_different : (ps : List Place) → Different ps → Different (weighed f ps)
  unfolding weighed
  weighed_different [] d = d
  weighed_different (p ∷ ps) d = (weighed_apart p.x ps d.0, weighed_different ps d.1)

  pub weighed_length : (ps : List Place) → length (weighed f ps) ≡ length ps
  unfolding weighed
  weighed_length [] = refl
  weighed_length (p ∷ ps) = ap suc (weighed_length ps)

  pub weighed_nonzero : (ps : List Place) → nonzero (weighed f ps) ≤ nonzero ps
  unfolding weighed nonzero
  weighed_nonzero [] = omega arith
  weighed_nonzero (p ∷ ps) =
      omega (
        arith,
        count_le (eqb (times p.y (f p.x)) 0) (eqb p.y 0)
            (λ e. eq-eqb _ 0 (ap (λ (y : ℕ). times y (f p.x)) (eqb-true p.y 0 e) ∙ zero_times (f p.x))),
        weighed_nonzero ps,
      )

-- weighed by x + c, where no x is c, only zeros become zero
pub weighed_zero : (c : ℕ) (ps : List Place) → c < 256 → BytePlaces ps → Apart c ps → AllZero (weighed (λ x. plus x c) ps) → AllZero ps
unfolding weighed
weighed_zero c [] h b a z = z
weighed_zero c (p ∷ ps) h b a z = (
  no_zero_divisors (plus p.x c) p.y (plus_lt p.x c) b.1 (times_comm (plus p.x c) p.y (plus_lt p.x c) b.1 ∙ z.0)
      (λ e. a.0 (equal_of_plus_zero p.x c b.0 h e)),
  weighed_zero c ps h b.2 a.1 z.1,
)
