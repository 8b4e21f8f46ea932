-- Every byte but 0 is a power of 2: antt works out the 255 powers once and finds each byte among them. From the logarithm
-- the product is associative and commutative and has no zero divisors: no test over pairs is needed. Assumes nothing.
use mathlib.Core.Path.{◌≡◌, refl, sym, ◌∙◌, ap, ap₂}
use mathlib.Core.Bool.{Bool, true, false}
use mathlib.Core.List.{List, [], ◌∷◌}
use Prim.Native.Nat.{ℕ, zero, suc, ◌<◌}
use native.Mathlib.Omega.{arith}
use native.Mathlib.Nat.{add_comm}
use native.Mathlib.Decide.{ℕ_discrete}
use lib.Dec.{T, eqb, eqb→eq}
use lib.ListN.{get_or}
use Rattle.field.specs.Field.{plus, xor_from, doubled, times, power}
use Rattle.field.proofs.Xor.{plus_lt}
use Rattle.field.proofs.Times.{times_plus, one_times, zero_times, times_zero}
use Rattle.field.proofs.Power.{doublings, doublings_none, doublings_inner, doublings_nonzero, power_doublings, power_times, power_times_assoc, power_add}
use Rattle.field.proofs.Test.{below, every}

-- x, and as many doublings of it as make the list that long
abbrev pub doubled_list : (many x : ℕ) → List ℕ
doubled_list zero x = []
doubled_list (suc n) x = x ∷ doubled_list n (doubled x)

pub doubled_list_at : (n x k : ℕ) → k < n → get_or (doubled_list n x) k 0 ≡ doublings k x
doubled_list_at zero x k h = absurd (omega arith)
doubled_list_at (suc n) x zero h = sym (doublings_none x)
doubled_list_at (suc n) x (suc k) h = doubled_list_at n (doubled x) k (omega arith) ∙ doublings_inner k x

abbrev member : ℕ → List ℕ → Bool
member a [] = false
member a (x ∷ xs) = elim (eqb x a) [ true ↦ true | false ↦ member a xs ]

either : {P : Type 0} (t r : Bool) → T (elim t [ true ↦ true | false ↦ r ]) → (T t → P) → (T r → P) → P
either true r h f g = f tt
either false r h f g = g h

found_at : (n x a : ℕ) → T (member a (doubled_list n x)) → (i : ℕ) × (i < n) × (doublings i x ≡ a)
found_at zero x a t = absurd t
found_at (suc n) x a t =
    either (eqb x a) (member a (doubled_list n (doubled x))) t (λ e. (0, omega arith, doublings_none x ∙ eqb→eq x a e))
    (λ r. let f = found_at n (doubled x) a r in (suc f.0, (let l = f.1 in omega arith), sym (doublings_inner f.0 x) ∙ f.2))

all_found : T (let powers = doubled_list 255 1 in every (λ m. member (suc m) powers) 255)
unfolding doubled plus xor_from
all_found = tt

pub logarithm : (a : ℕ) → a < 256 → (a ≡ 0 → ⊥) → (i : ℕ) × (i < 255) × (power 2 i ≡ a)
logarithm zero h z = absurd (z refl)
logarithm (suc a) h z =
    let f = found_at 255 1 (suc a) (below (λ m. member (suc m) (doubled_list 255 1)) 255 all_found a (omega arith)) in
    (f.0, f.1, power_doublings f.0 ∙ f.2)

-- the laws that the logarithm gives
pub times_assoc : (a b c : ℕ) → a < 256 → b < 256 → times (times a b) c ≡ times a (times b c)
times_assoc a b c h l = go (ℕ_discrete a 0)
  where
    go : Dec (a ≡ 0) → times (times a b) c ≡ times a (times b c)
    go (yes z) = rw (z, zero_times b, zero_times c, zero_times (times b c))
    go (no z) = let f = logarithm a h z in rw (← f.2) (power_times_assoc f.0 b c l)

pub times_comm : (a b : ℕ) → a < 256 → b < 256 → times a b ≡ times b a
times_comm a b h l = go (ℕ_discrete a 0) (ℕ_discrete b 0)
  where
    go : Dec (a ≡ 0) → Dec (b ≡ 0) → times a b ≡ times b a
    go (yes z) d = rw z (zero_times b ∙ sym (times_zero b l))
    go (no z) (yes y) = rw y (times_zero a h ∙ sym (zero_times a))
    go (no z) (no y) =
        let f = logarithm a h z in
        let g = logarithm b l y in
        rw (← f.2, ← g.2) (power_add f.0 g.0 ∙ ap (power 2) (add_comm f.0 g.0) ∙ sym (power_add g.0 f.0))

pub no_zero_divisors : (a b : ℕ) → a < 256 → b < 256 → times a b ≡ 0 → (a ≡ 0 → ⊥) → b ≡ 0
no_zero_divisors a b h l e z =
    let f = logarithm a h z in
    doublings_nonzero f.0 b l (sym (power_times f.0 b l) ∙ ap (λ (x : ℕ). times x b) f.2 ∙ e)

pub times_one : (a : ℕ) → a < 256 → times a 1 ≡ a
times_one a h = times_comm a 1 h (omega arith) ∙ one_times a h

pub times_left_comm : (a b c : ℕ) → a < 256 → b < 256 → times a (times b c) ≡ times b (times a c)
times_left_comm a b c h l = sym (times_assoc a b c h l) ∙ ap (λ (x : ℕ). times x c) (times_comm a b h l) ∙ times_assoc b a c l h

pub plus_times : (a b c : ℕ) → a < 256 → b < 256 → c < 256 → times (plus a b) c ≡ plus (times a c) (times b c)
plus_times a b c h l g = times_comm (plus a b) c (plus_lt a b) g ∙ times_plus c a b g ∙ ap₂ plus (times_comm c a g h) (times_comm c b g l)
