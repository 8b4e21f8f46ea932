-- The locator of a sequence in which each number is c times the one before. Where all are 0 it is 1 at every step. Where the first
-- is not, it is X after one step, against which the second number is left, c times the first; the second step divides that by
-- the first number and makes X + c, against which nothing more is left. Assumes nothing.
use mathlib.Core.Path.{◌≡◌, refl, sym, ◌∙◌, ap, ap₂}
use mathlib.Core.List.{List, [], ◌∷◌}
use Prim.Native.Nat.{ℕ, zero, suc, ◌-◌, ◌<◌, ◌≤◌}
use native.Mathlib.Omega.{arith}
use native.Mathlib.Decide.{dec_le}
use Rattle.field.specs.Field.{plus, times, inverse}
use Rattle.field.proofs.Xor.{plus_self, plus_zero, zero_plus}
use Rattle.field.proofs.Times.{times_lt, one_times, zero_times}
use Rattle.field.proofs.Logarithm.{times_comm, times_one, no_zero_divisors}
use Rattle.field.proofs.Division.{inverse_lt, times_divide}
use Rattle.code.specs.Polynomial.{added, scaled}
use Rattle.locator.specs.Locator.{against, raised, State, start, longer, as_long, changed, massey}
use Rattle.locator.proofs.Locator.Shape.{changed_none, changed_longer, changed_cases}

-- a step from a state that is known
stepped : (S : ℕ → ℕ) (k : ℕ) (s : State) → massey S k ≡ s → massey S (suc k) ≡ changed k (against s.locator S (k - s.size)) s
unfolding massey
stepped S k s e = ap (λ (z : State). changed k (against z.locator S (k - z.size)) z) e

-- sums against 1 and against X + c
against_one : (S : ℕ → ℕ) (j : ℕ) → S j < 256 → against (1 ∷ []) S j ≡ S j
unfolding against
against_one S j h = plus_zero _ (times_lt _ _) ∙ one_times (S j) h

against_factor : (S : ℕ → ℕ) (c j : ℕ) → S (suc j) < 256 → against (c ∷ 1 ∷ []) S j ≡ plus (times c (S j)) (S (suc j))
unfolding against
against_factor S c j h = ap (plus (times c (S j))) (plus_zero _ (times_lt _ _) ∙ one_times (S (suc j)) h)

-- zeros
zero_state : (S : ℕ → ℕ) (count : ℕ) → ((i : ℕ) → i < count → S i ≡ 0) → (k : ℕ) → k ≤ count → massey S k ≡ start
unfolding massey start
zero_state S count z zero h = refl
zero_state S count z (suc k) h =
    stepped S k start (zero_state S count z k (omega arith)) ∙ changed_none k _ start (against_one S (k - 0) (omega (arith, none)) ∙ none)
  where
    none : S (k - 0) ≡ 0
    none = z (k - 0) (omega arith)

pub zero_locator :
    (S : ℕ → ℕ) (count : ℕ) → ((i : ℕ) → i < count → S i ≡ 0) → ((massey S count).locator ≡ 1 ∷ []) × ((massey S count).size ≡ 0)
unfolding start
zero_locator S count z =
    let e = zero_state S count z count (omega arith) in (ap (λ (s : State). s.locator) e, ap (λ (s : State). s.size) e)

-- a progression
module _ (S : ℕ → ℕ) (x count : ℕ) (bytes : (i : ℕ) → S i < 256) (h : x < 256) (some : S 0 ≡ 0 → ⊥) (two : 2 ≤ count) (each : (i : ℕ) → 1 ≤ i → i < count → S i ≡ times x (S (i - 1))) where
  first : State
  first = record { locator = 0 ∷ 1 ∷ []; before = times (inverse (S 0)) 1 ∷ []; size = 1 }

  first_state : massey S 1 ≡ first
  unfolding massey start first longer raised added scaled
  first_state =
      stepped S 0 start refl ∙ ap (λ (d : ℕ). changed 0 d start) (against_one S 0 (bytes 0)) ∙ changed_longer 0 (S 0) start some (omega arith)

  abbrev Found : State → Type 0
  Found s = (s.locator ≡ x ∷ 1 ∷ []) × (s.size ≡ 1)

  -- the second step, by whether anything is left
  second : S 1 ≡ times x (S 0)
  second = each 1 (omega arith) (omega arith)

  ratio : (d : ℕ) → d ≡ times x (S 0) → Found (changed 1 d first)
  unfolding first as_long raised added scaled
  ratio d e =
      changed_cases 1 d first Found (λ z. (ap (λ (c : ℕ). c ∷ 1 ∷ []) (sym (none z)), refl)) (λ z l. absurd (omega arith))
      (λ z l. (ap (λ (c : ℕ). c ∷ 1 ∷ []) divided, refl))
    where
      none : d ≡ 0 → x ≡ 0
      none z = no_zero_divisors (S 0) x (bytes 0) h (times_comm (S 0) x (bytes 0) h ∙ sym e ∙ z) some

      divided : plus 0 (times d (times (inverse (S 0)) 1)) ≡ x
      divided =
          zero_plus _ (times_lt _ _) ∙ ap₂ times e (times_one (inverse (S 0)) (inverse_lt (S 0))) ∙ times_divide x (S 0) h (bytes 0) some

  found_second : Found (massey S 2)
  unfolding first
  found_second =
      rw (stepped S 1 first first_state)
      (ratio _ (against_factor S 0 0 (bytes 1) ∙ ap₂ plus (zero_times (S 0)) second ∙ zero_plus _ (times_lt _ _)))

  found_later : (k : ℕ) → 2 ≤ k → k < count → Found (massey S k) → Found (massey S (suc k))
  unfolding massey
  found_later k l m found =
      rw (changed_none k (against (massey S k).locator S (k - (massey S k).size)) (massey S k) none) found
    where
      next : S (suc (k - 1)) ≡ times x (S (k - 1))
      next = ap S (let q : suc (k - 1) ≡ k = omega arith in q) ∙ each k (omega arith) m

      none : against (massey S k).locator S (k - (massey S k).size) ≡ 0
      none =
          ap₂ (λ (ps : List ℕ) (z : ℕ). against ps S (k - z)) found.0 found.1 ∙ against_factor S x (k - 1) (bytes _)
          ∙ ap (plus _) next ∙ plus_self _

  found_all : (k : ℕ) → k ≤ count → 2 ≤ k → Found (massey S k)
  found_all zero l m = absurd (omega arith)
  found_all (suc k) l m = go (dec_le 2 k) (found_all k (omega arith))
    where
      go : Dec (2 ≤ k) → (2 ≤ k → Found (massey S k)) → Found (massey S (suc k))
      go (yes o) found = found_later k o l (found o)
      go (no o) found = rw (let e : suc k ≡ 2 = omega arith in e) found_second

  pub geometric_locator : ((massey S count).locator ≡ x ∷ 1 ∷ []) × ((massey S count).size ≡ 1)
  geometric_locator = found_all count (omega arith) two
