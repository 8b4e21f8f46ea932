-- The places of a plane by their number: n columns, then 2t checks. Weighted errors by number are a list of places, with the count
-- that the definition gives them; and the places of two words have the same powers of 2 by number. Assumes nothing.
use mathlib.Core.Path.{◌≡◌, refl, sym, ◌∙◌, ap, ap₂}
use mathlib.Core.List.{List, [], ◌∷◌, ◌++◌}
use Prim.Native.Nat.{ℕ, zero, suc, ◌+◌, ◌-◌, ◌<◌, ◌≤◌}
use native.Mathlib.Omega.{arith}
use native.Mathlib.Decide.{dec_lt}
use lib.ListN.{length, get_or, length-append, get_or-append}
use lib.Seq.{get_or-append-add, ext_get_or}
use borrow.Author.Tests.{lt-ltb, le-ltb}
use Rattle.field.specs.Field.{power}
use Rattle.code.specs.Settings.{Settings, check_count}
use Rattle.code.proofs.Codewords.Place.{Place, nonzero}
use Rattle.code.proofs.Codewords.Errors.{errors}
use Rattle.code.proofs.ValidSettings.{Sizes}
use Rattle.code.proofs.Codewords.Word.{Shape, word_errors}
use Rattle.locator.specs.Errors.{place_exponent, wrong_places}

-- columns and checks
pub place_exponent_column : (n checks j : ℕ) → j < n → place_exponent n checks j ≡ 254 - j
unfolding place_exponent
place_exponent_column n checks j h = rw (lt-ltb j n h)

pub place_exponent_check : (n checks j : ℕ) → n ≤ j → place_exponent n checks j ≡ n + checks - suc j
unfolding place_exponent
place_exponent_check n checks j h = rw (le-ltb j n h)

pub place_exponent_next : (n checks c : ℕ) → place_exponent n checks (n + c) ≡ checks - suc c
place_exponent_next n checks c = place_exponent_check n checks (n + c) (omega arith) ∙ omega arith

pub by_place :
    (s : Settings) (P : ℕ → Type 0) → ((j : ℕ) → j < s.n → P j) → ((c : ℕ) → c < check_count s → P (s.n + c)) →
    (j : ℕ) → j < s.n + check_count s → P j
by_place s P f g j h = go (dec_lt j s.n)
  where
    go : Dec (j < s.n) → P j
    go (yes l) = f j l
    go (no l) = rw (let e : j ≡ s.n + (j - s.n) = omega arith in e) (g (j - s.n) (omega arith))

-- weighted errors from place j on, as places
unfoldable pub placed : Settings → (j : ℕ) → (weighted : List ℕ) → List Place
placed s j [] = []
placed s j (y ∷ ys) = record { x = power 2 (place_exponent s.n (check_count s) j); y = y } ∷ placed s (suc j) ys

pub placed_nonzero : (s : Settings) (j : ℕ) (ys : List ℕ) → nonzero (placed s j ys) ≡ wrong_places ys
unfolding placed nonzero wrong_places
placed_nonzero s j [] = refl
placed_nonzero s j (y ∷ ys) = ap (◌+◌ _) (placed_nonzero s (suc j) ys)

pub placed_append : (s : Settings) (j k : ℕ) (xs ys : List ℕ) → k ≡ j + length xs → placed s j (xs ++ ys) ≡ placed s j xs ++ placed s k ys
unfolding placed
placed_append s j k [] ys e = ap (λ (i : ℕ). placed s i ys) (let q : j ≡ k = omega arith in q)
placed_append s j k (x ∷ xs) ys e =
    let p : Place = record { x = power 2 (place_exponent s.n (check_count s) j); y = x } in ap (◌∷◌ p) (placed_append s (suc j) k xs ys (omega arith))

pub placed_length : (s : Settings) (j : ℕ) (ys : List ℕ) → length (placed s j ys) ≡ length ys
unfolding placed
placed_length s j [] = refl
placed_length s j (y ∷ ys) = ap suc (placed_length s (suc j) ys)

pub placed_at :
    (s : Settings) (i : ℕ) (ys : List ℕ) (j k : ℕ) (p : Place) → k ≡ i + j → j < length ys →
    get_or (placed s i ys) j p ≡ record { x = power 2 (place_exponent s.n (check_count s) k); y = get_or ys j 0 }
unfolding placed
placed_at s i [] j k p e h = absurd (omega arith)
placed_at s i (y ∷ ys) zero k p e h =
    ap {B = Place} (λ (m : ℕ). record { x = power 2 (place_exponent s.n (check_count s) m); y = y }) (let q : i ≡ k = omega arith in q)
placed_at s i (y ∷ ys) (suc j) k p e h = placed_at s (suc i) ys j k p (omega arith) (omega arith)

-- a list of places that has the powers of their numbers is that of its weights
pub placed_equal :
    (s : Settings) (qs : List Place) (p : Place) (ys : List ℕ) → length ys ≡ length qs →
    ((j : ℕ) → j < length qs → (get_or qs j p).x ≡ power 2 (place_exponent s.n (check_count s) j)) →
    ((j : ℕ) → j < length qs → get_or ys j 0 ≡ (get_or qs j p).y) → placed s 0 ys ≡ qs
placed_equal s qs p ys l powers weights =
    ext_get_or p (placed s 0 ys) qs (placed_length s 0 ys ∙ l) (λ j h. at j (rw (placed_length s 0 ys ∙ l) at h))
  where
    at : (j : ℕ) → j < length qs → get_or (placed s 0 ys) j p ≡ get_or qs j p
    at j h =
        placed_at s 0 ys j j p (omega arith) (omega arith)
        ∙ ap₂ {C = Place} (λ (a b : ℕ). record { x = a; y = b }) (sym (powers j h)) (weights j h)

-- the places of two words have the powers of their numbers
errors_length : (m : ℕ) (us vs : List ℕ) → length us ≤ m → length us ≡ length vs → length (errors m us vs) ≡ length us
unfolding errors
errors_length zero [] vs h e = refl
errors_length zero (u ∷ us) vs h e = absurd (omega arith)
errors_length (suc k) [] vs h e = refl
errors_length (suc k) (u ∷ us) [] h e = absurd (omega arith)
errors_length (suc k) (u ∷ us) (v ∷ vs) h e = ap suc (errors_length k us vs (omega arith) (omega arith))

errors_power :
    (m : ℕ) (us vs : List ℕ) (j : ℕ) (p : Place) → length us ≤ m → length us ≡ length vs → j < length us →
    (get_or (errors m us vs) j p).x ≡ power 2 (m - suc j)
unfolding errors
errors_power zero [] vs j p h l k = absurd (omega arith)
errors_power zero (u ∷ us) vs j p h l k = absurd (omega arith)
errors_power (suc m) [] vs j p h l k = absurd (omega arith)
errors_power (suc m) (u ∷ us) [] j p h l k = absurd (omega arith)
errors_power (suc m) (u ∷ us) (v ∷ vs) zero p h l k = ap (power 2) (let e : m ≡ suc m - 1 = omega arith in e)
errors_power (suc m) (u ∷ us) (v ∷ vs) (suc j) p h l k =
    errors_power m us vs j p (omega arith) (omega arith) (omega arith) ∙ ap (power 2) (let e : m - suc j ≡ suc m - suc (suc j) = omega arith in e)

module _ (s : Settings) (bs cs us ds : List ℕ) (z : Sizes s) (v : Shape s bs cs) (w : Shape s us ds) where
  columns_length : length (errors 255 bs us) ≡ s.n
  columns_length = errors_length 255 bs us (omega arith) (v.many ∙ sym w.many) ∙ v.many

  checks_length : length (errors (check_count s) cs ds) ≡ check_count s
  checks_length = errors_length (check_count s) cs ds (omega arith) (v.many_checks ∙ sym w.many_checks) ∙ v.many_checks

  pub word_errors_length : length (word_errors s bs cs us ds) ≡ s.n + check_count s
  unfolding word_errors
  word_errors_length = length-append (errors 255 bs us) (errors (check_count s) cs ds) ∙ ap₂ ◌+◌ columns_length checks_length

  pub word_errors_power : (p : Place) (j : ℕ) → j < s.n + check_count s → (get_or (word_errors s bs cs us ds) j p).x ≡ power 2 (place_exponent s.n (check_count s) j)
  unfolding word_errors
  word_errors_power p =
      by_place s (λ j. (get_or (errors 255 bs us ++ errors (check_count s) cs ds) j p).x ≡ power 2 (place_exponent s.n (check_count s) j))
      (λ j h.
      ap (λ (q : Place). q.x) (get_or-append (errors 255 bs us) (errors (check_count s) cs ds) p j (rw columns_length h))
      ∙ errors_power 255 bs us j p (omega arith) (v.many ∙ sym w.many) (omega arith)
      ∙ ap (power 2) ((let e : 255 - suc j ≡ 254 - j = omega arith in e) ∙ sym (place_exponent_column s.n (check_count s) j h)))
      (λ c h.
      ap (λ (i : ℕ). (get_or (errors 255 bs us ++ errors (check_count s) cs ds) (i + c) p).x) (sym columns_length)
      ∙ ap (λ (q : Place). q.x) (get_or-append-add (errors 255 bs us) (errors (check_count s) cs ds) c p)
      ∙ errors_power (check_count s) cs ds c p (omega arith) (v.many_checks ∙ sym w.many_checks) (omega arith)
      ∙ ap (power 2) (sym (place_exponent_next s.n (check_count s) c)))
