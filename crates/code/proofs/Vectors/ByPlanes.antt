-- Values put together of their planes: as long as these are, of bytes where these are, and with these planes again. So where each plane has a
-- codeword near, there is a repair. Assumes nothing.
use mathlib.Core.Path.{◌≡◌, refl, sym, ◌∙◌, ap, ap₂}
use mathlib.Core.Bool.{Bool, true, false}
use mathlib.Core.List.{List, [], ◌∷◌}
use Prim.Native.Nat.{ℕ, zero, suc, ◌+◌, ◌<◌, ◌≤◌}
use native.Mathlib.Omega.{arith}
use lib.Dec.{ltb}
use lib.ListN.{length, get_or, drop, length-drop}
use borrow.Author.Tests.{ltb-true, ltb-false}
use Rattle.arrays.proofs.Bytes.{Bytes, bytes_drop, byte_at}
use Rattle.code.specs.Settings.{check_count, value_size}
use Rattle.code.specs.Vector.{plane}
use Rattle.code.specs.Repair.{Near}
use Rattle.code.specs.Promise.{PlanesRepair}
use Rattle.code.proofs.Codewords.Word.{Word, word_of}
use Rattle.code.proofs.Vectors.Planes.{Values, checks_back}

abbrev front_bytes : (w i : ℕ) → (ℕ → List ℕ) → List ℕ
front_bytes zero i f = []
front_bytes (suc w) i f = get_or (f i) 0 0 ∷ front_bytes w (suc i) f

pub by_planes : (many w : ℕ) → (ℕ → List ℕ) → List (List ℕ)
by_planes zero w f = []
by_planes (suc k) w f = front_bytes w 0 f ∷ by_planes k w (λ p. drop 1 (f p))

front_length : (w i : ℕ) (f : ℕ → List ℕ) → length (front_bytes w i f) ≡ w
front_length zero i f = refl
front_length (suc w) i f = ap suc (front_length w (suc i) f)

front_at : (w i : ℕ) (f : ℕ → List ℕ) (p : ℕ) → p < w → get_or (front_bytes w i f) p 0 ≡ get_or (f (i + p)) 0 0
front_at zero i f p h = absurd (omega arith)
front_at (suc w) i f zero h = ap (λ (q : ℕ). get_or (f q) 0 0) (let e : i ≡ i + 0 = omega arith in e)
front_at (suc w) i f (suc p) h = front_at w (suc i) f p (omega arith) ∙ ap (λ (q : ℕ). get_or (f q) 0 0) (let e : suc i + p ≡ i + suc p = omega arith in e)

front_all : (w i : ℕ) (f : ℕ → List ℕ) → ((p : ℕ) → i ≤ p → p < i + w → Bytes (f p)) → Bytes (front_bytes w i f)
front_all zero i f b = tt
front_all (suc w) i f b = (byte_at (f i) 0 (b i (omega arith) (omega arith)), front_all w (suc i) f (λ p h l. b p (omega arith) (omega arith)))

pub by_planes_length : (k w : ℕ) (f : ℕ → List ℕ) → length (by_planes k w f) ≡ k
unfolding by_planes
by_planes_length zero w f = refl
by_planes_length (suc k) w f = ap suc (by_planes_length k w (λ p. drop 1 (f p)))

pub by_planes_values : (k w : ℕ) (f : ℕ → List ℕ) → ((p : ℕ) → p < w → Bytes (f p)) → Values w (by_planes k w f)
unfolding by_planes
by_planes_values zero w f b = tt
by_planes_values (suc k) w f b = (
  front_length w 0 f,
  front_all w 0 f (λ p h l. b p (omega arith)),
  by_planes_values k w (λ p. drop 1 (f p)) (λ p h. bytes_drop 1 (f p) (b p h)),
)

pub by_planes_plane : (k w : ℕ) (f : ℕ → List ℕ) (p : ℕ) → p < w → length (f p) ≡ k → plane p (by_planes k w f) ≡ f p
unfolding by_planes plane
by_planes_plane zero w f p h l = sym (nothing (f p) l)
  where
    nothing : (bs : List ℕ) → length bs ≡ 0 → bs ≡ []
    nothing [] e = refl
    nothing (b ∷ bs) e = absurd (omega arith)
by_planes_plane (suc k) w f p h l =
    ap₂ ◌∷◌ (front_at w 0 f p h ∙ ap (λ (q : ℕ). get_or (f q) 0 0) (let e : 0 + p ≡ p = omega arith in e))
    (by_planes_plane k w (λ q. drop 1 (f q)) p h (omega (arith, length-drop 1 (f p))))
    ∙ again (f p) (omega arith)
  where
    again : (bs : List ℕ) → 1 ≤ length bs → get_or bs 0 0 ∷ drop 1 bs ≡ bs
    again [] e = absurd (omega arith)
    again (b ∷ bs) e = refl

pub planes_repair : PlanesRepair
unfolding PlanesRepair
planes_repair s vs cs us v found = (
  by_planes (check_count s) w checks,
  record {
    vector = v;
    checks = checks_back s _ (by_planes_length (check_count s) w checks) (by_planes_values (check_count s) w checks (λ p h. (word p h).shape.check_bytes));
    planes = λ p h. rw (by_planes_plane (check_count s) w checks p h (word p h).shape.many_checks) (near p h);
  },
)
  where
    w : ℕ
    w = value_size s

    checks_if : (p : ℕ) (q : Bool) → ltb p w ≡ q → List ℕ
    checks_if p true e = (found p (ltb-true p w e)).0
    checks_if p false e = []

    checks : ℕ → List ℕ
    checks p = checks_if p (ltb p w) refl

    near_if : (p : ℕ) (q : Bool) (e : ltb p w ≡ q) → p < w → Near s (plane p vs) (plane p cs) (plane p us) (checks_if p q e)
    near_if p true e h = (found p (ltb-true p w e)).1
    near_if p false e h = let l = ltb-false p w e in absurd (omega arith)

    near : (p : ℕ) → p < w → Near s (plane p vs) (plane p cs) (plane p us) (checks p)
    near p h = near_if p (ltb p w) refl h

    word : (p : ℕ) → p < w → Word s (plane p us) (checks p)
    word p h = word_of s (plane p us) (checks p) (near p h).codeword
