-- Values: equal ones are the `same`, blank is blank and as long as any value; and a list given entry by entry has those entries.
-- Each by induction. Assumes nothing.
use mathlib.Core.Path.{◌≡◌, refl, sym, ◌∙◌, ap, ap₂}
use mathlib.Core.Bool.{true, false, ◌&&◌}
use mathlib.Core.List.{[], ◌∷◌, ◌++◌}
use Prim.Native.Nat.{ℕ, zero, suc, ◌+◌, ◌<◌, ◌≤◌}
use native.Mathlib.Omega.{arith}
use lib.Dec.{eqb}
use lib.ListN.{length, get_or, take, replicate, length-replicate}
use Rattle.arrays.specs.Array.{all_zero}
use Rattle.arrays.proofs.Bool.{true_not_false}
use Rattle.code.specs.Settings.{Settings, value_size}
use Rattle.code.specs.Vector.{same}
use Rattle.code.proofs.Vectors.Planes.{same_self}
use Rattle.grading.specs.Value.{Value, blank, is_blank, entries}

pub same_of_equal : (a b : Value) → a ≡ b → same a b ≡ true
same_of_equal a b e = rw e (same_self b)

pub differ_of_not_same : (a b : Value) → same a b ≡ false → a ≡ b → ⊥
differ_of_not_same a b e f = true_not_false (sym (same_of_equal a b f) ∙ e)

-- blank
pub all_zero_blank : (v : Value) → all_zero v ≡ is_blank v
unfolding is_blank
all_zero_blank [] = refl
all_zero_blank (b ∷ bs) = ap (◌&&◌ (eqb b 0)) (all_zero_blank bs)

pub zeros_blank : (w : ℕ) → is_blank (replicate w 0) ≡ true
unfolding is_blank
zeros_blank zero = refl
zeros_blank (suc w) = zeros_blank w

pub take_replicate : {A : Type 0} (m n : ℕ) (x : A) → m ≤ n → take m (replicate n x) ≡ replicate m x
take_replicate zero n x h = refl
take_replicate (suc m) zero x h = absurd (omega arith)
take_replicate (suc m) (suc n) x h = ap (◌∷◌ x) (take_replicate m n x (omega arith))

pub blank_is_blank : (s : Settings) → is_blank (blank s) ≡ true
unfolding blank
blank_is_blank s = zeros_blank (value_size s)

pub blank_size : (s : Settings) → length (blank s) ≡ value_size s
unfolding blank
blank_size s = length-replicate (value_size s) 0

-- lists given entry by entry
pub entries_length : {A : Type 0} (n i : ℕ) (f : ℕ → A) → length (entries n i f) ≡ n
unfolding entries
entries_length zero i f = refl
entries_length (suc n) i f = ap suc (entries_length n (suc i) f)

pub entries_at : {A : Type 0} (n i j : ℕ) (f : ℕ → A) (d : A) → j < n → get_or (entries n i f) j d ≡ f (i + j)
unfolding entries
entries_at zero i j f d h = absurd (omega arith)
entries_at (suc n) i zero f d h = ap f (let e : i ≡ i + 0 = omega arith in e)
entries_at (suc n) i (suc j) f d h = entries_at n (suc i) j f d (omega arith) ∙ ap f (let e : suc i + j ≡ i + suc j = omega arith in e)

pub entries_of : {A : Type 0} (n j : ℕ) (f : ℕ → A) (d : A) → j < n → get_or (entries n 0 f) j d ≡ f j
entries_of n j f d h = entries_at n 0 j f d h ∙ ap f (let e : 0 + j ≡ j = omega arith in e)

pub entries_alike : {A : Type 0} (n i : ℕ) (f g : ℕ → A) → ((j : ℕ) → j < i + n → f j ≡ g j) → entries n i f ≡ entries n i g
unfolding entries
entries_alike zero i f g h = refl
entries_alike (suc n) i f g h = ap₂ ◌∷◌ (h i (omega arith)) (entries_alike n (suc i) f g (λ j l. h j (omega arith)))

pub entries_next : {A : Type 0} (n i : ℕ) (f : ℕ → A) → entries n (i + 1) f ≡ entries n i (λ j. f (j + 1))
unfolding entries
entries_next zero i f = refl
entries_next (suc n) i f = ap (◌∷◌ (f (i + 1))) (ap (λ (k : ℕ). entries n k f) (let e : suc (i + 1) ≡ suc i + 1 = omega arith in e) ∙ entries_next n (suc i) f)

entries_last : {A : Type 0} (n i : ℕ) (f : ℕ → A) → entries n i f ++ (f (i + n) ∷ []) ≡ entries (suc n) i f
unfolding entries
entries_last zero i f = ap (λ (k : ℕ). f k ∷ []) (let e : i + 0 ≡ i = omega arith in e)
entries_last (suc n) i f =
    ap (◌∷◌ (f i)) (ap (λ (k : ℕ). entries n (suc i) f ++ (f k ∷ [])) (let e : i + suc n ≡ suc i + n = omega arith in e) ∙ entries_last n (suc i) f)

pub entries_more : {A : Type 0} (n : ℕ) (f : ℕ → A) → entries n 0 f ++ (f n ∷ []) ≡ entries (n + 1) 0 f
entries_more n f =
    ap (λ (k : ℕ). entries n 0 f ++ (f k ∷ [])) (let e : n ≡ 0 + n = omega arith in e) ∙ entries_last n 0 f
    ∙ ap (λ (k : ℕ). entries k 0 f) (let e : suc n ≡ n + 1 = omega arith in e)
