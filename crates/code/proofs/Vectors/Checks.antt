-- Every vector has check values, since every plane has checks: value j is made of byte j of each plane's checks, and plane p of
-- these values is then the checks of plane p again. That there is only one list of them holds for any two. Assumes nothing.
use mathlib.Core.Path.{◌≡◌, refl, sym, ◌∙◌, ap}
use mathlib.Core.Bool.{true}
use mathlib.Core.List.{List, [], ◌∷◌}
use Prim.Native.Nat.{ℕ, zero, suc, ◌<◌}
use native.Mathlib.Omega.{arith}
use lib.ListN.{length, get_or}
use lib.Seq.{ext_get_or}
use Rattle.code.specs.Settings.{Settings, check_count, value_size}
use Rattle.code.specs.Plane.{is_codeword}
use Rattle.code.specs.Vector.{plane, has_checks}
use Rattle.code.specs.Promise.{ChecksThere}
use Rattle.arrays.proofs.Bytes.{Bytes, byte_at}
use Rattle.code.proofs.Codewords.Word.{Word, word_of}
use Rattle.code.proofs.Vectors.Planes.{Values, Vector, vector_of, plane_length, plane_bytes, checked_back, checks_unique}
use Rattle.code.proofs.Polynomials.Remainder.{plane_checks}

-- the list of a function's values at the first n numbers
tabulated : {A : Type 0} → (n : ℕ) → (ℕ → A) → List A
tabulated zero f = []
tabulated (suc n) f = f 0 ∷ tabulated n (λ k. f (suc k))

tabulated_length : {A : Type 0} (n : ℕ) (f : ℕ → A) → length (tabulated n f) ≡ n
unfolding tabulated
tabulated_length zero f = refl
tabulated_length (suc n) f = ap suc (tabulated_length n (λ k. f (suc k)))

tabulated_at : (n : ℕ) (f : ℕ → ℕ) (k : ℕ) → k < n → get_or (tabulated n f) k 0 ≡ f k
unfolding tabulated
tabulated_at zero f k h = absurd (omega arith)
tabulated_at (suc n) f zero h = refl
tabulated_at (suc n) f (suc k) h = tabulated_at n (λ j. f (suc j)) k (omega arith)

tabulated_bytes : (n : ℕ) (f : ℕ → ℕ) → ((k : ℕ) → k < n → f k < 256) → Bytes (tabulated n f)
unfolding tabulated
tabulated_bytes zero f h = tt
tabulated_bytes (suc n) f h = (h 0 (omega arith), tabulated_bytes n (λ k. f (suc k)) (λ k l. h (suc k) (omega arith)))

tabulated_values : (w n : ℕ) (f : ℕ → List ℕ) → ((k : ℕ) → (length (f k) ≡ w) × Bytes (f k)) → Values w (tabulated n f)
unfolding tabulated
tabulated_values w zero f h = tt
tabulated_values w (suc n) f h = ((h 0).0, (h 0).1, tabulated_values w n (λ k. f (suc k)) (λ k. h (suc k)))

tabulated_plane : (p n : ℕ) (f : ℕ → List ℕ) → plane p (tabulated n f) ≡ tabulated n (λ k. get_or (f k) p 0)
unfolding tabulated plane
tabulated_plane p zero f = refl
tabulated_plane p (suc n) f = ap (◌∷◌ (get_or (f 0) p 0)) (tabulated_plane p n (λ k. f (suc k)))

-- m values of w bytes from a list of m bytes for each plane
interleaved : (m w : ℕ) → (bytes : ℕ → List ℕ) → List (List ℕ)
interleaved m w f = tabulated m (λ j. tabulated w (λ p. get_or (f p) j 0))

interleaved_length : (m w : ℕ) (f : ℕ → List ℕ) → length (interleaved m w f) ≡ m
unfolding interleaved
interleaved_length m w f = tabulated_length m (λ j. tabulated w (λ p. get_or (f p) j 0))

interleaved_values : (m w : ℕ) (f : ℕ → List ℕ) → ((p : ℕ) → p < w → Bytes (f p)) → Values w (interleaved m w f)
unfolding interleaved
interleaved_values m w f h =
    tabulated_values w m (λ j. tabulated w (λ p. get_or (f p) j 0))
    (λ j. (tabulated_length w (λ p. get_or (f p) j 0), tabulated_bytes w (λ p. get_or (f p) j 0) (λ p l. byte_at (f p) j (h p l))))

interleaved_plane : (m w : ℕ) (f : ℕ → List ℕ) (p : ℕ) → p < w → length (f p) ≡ m → plane p (interleaved m w f) ≡ f p
unfolding interleaved
interleaved_plane m w f p h e =
    tabulated_plane p m (λ j. tabulated w (λ q. get_or (f q) j 0))
    ∙ ext_get_or 0 _ (f p) (tabulated_length m _ ∙ sym e)
    (λ j l. tabulated_at m _ j (rw tabulated_length at l) ∙ tabulated_at w (λ q. get_or (f q) j 0) p h)

interleaved_checks :
    (s : Settings) (vs : List (List ℕ)) (f : ℕ → List ℕ) → ((p : ℕ) → p < value_size s → is_codeword s (plane p vs) (f p) ≡ true) →
    has_checks s vs (interleaved (check_count s) (value_size s) f) ≡ true
interleaved_checks s vs f h =
    checked_back s vs (interleaved (check_count s) (value_size s) f)
    (record {
      many = interleaved_length (check_count s) (value_size s) f;
      values = interleaved_values (check_count s) (value_size s) f (λ p l. (word p l).shape.check_bytes);
      planes = λ p l. ap (is_codeword s (plane p vs)) (interleaved_plane (check_count s) (value_size s) f p l (word p l).shape.many_checks) ∙ h p l;
    })
  where
    word : (p : ℕ) → p < value_size s → Word s (plane p vs) (f p)
    word p l = word_of s (plane p vs) (f p) (h p l)

pub checks_there : ChecksThere
unfolding ChecksThere
checks_there s vs r e =
    (interleaved (check_count s) (value_size s) checks, there, λ ds h. checks_unique s vs ds (interleaved (check_count s) (value_size s) checks) r h there)
  where
    vector : Vector s vs
    vector = vector_of s vs e

    found : (p : ℕ) → (ds : List ℕ) × (is_codeword s (plane p vs) ds ≡ true)
    found p = plane_checks s (plane p vs) r (plane_length p vs ∙ vector.many) (plane_bytes p (value_size s) vs vector.values)

    checks : ℕ → List ℕ
    checks p = (found p).0

    there : has_checks s vs (interleaved (check_count s) (value_size s) checks) ≡ true
    there = interleaved_checks s vs checks (λ p l. (found p).1)
