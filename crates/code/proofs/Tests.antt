-- What the tests of the definitions say, as facts: a run of tests holds at each of its numbers, and a list that `byte_list`
-- accepts is one of bytes. Each goes both ways, by induction. Assumes nothing.
use mathlib.Core.Path.{◌≡◌, refl, ◌∙◌, ap}
use mathlib.Core.Bool.{Bool, true, ◌&&◌}
use mathlib.Mathlib.Data.Bool.Basic.{and_intro}
use Prim.Native.Nat.{ℕ, zero, suc, ◌+◌, ◌<◌, ◌≤◌}
use native.Mathlib.Omega.{arith}
use mathlib.Core.List.{List, [], ◌∷◌}
use lib.Dec.{ltb}
use borrow.Author.Tests.{ltb-true, lt-ltb}
use Rattle.arrays.proofs.Bool.{and_split}
use Rattle.arrays.proofs.Bytes.{Bytes}
use Rattle.code.specs.Plane.{byte_list}

-- a test at so many numbers, from i on
unfoldable pub all_from : (left i : ℕ) → (test : ℕ → Bool) → Bool
all_from zero i f = true
all_from (suc n) i f = f i && all_from n (suc i) f

all_from_at : (n i : ℕ) (f : ℕ → Bool) → all_from n i f ≡ true → (k j : ℕ) → k ≡ i + j → j < n → f k ≡ true
unfolding all_from
all_from_at zero i f e k j q h = absurd (omega arith)
all_from_at (suc n) i f e k zero q h = ap f (let r : k ≡ i = omega arith in r) ∙ (and_split (f i) (all_from n (suc i) f) e).0
all_from_at (suc n) i f e k (suc j) q h = all_from_at n (suc i) f (and_split (f i) (all_from n (suc i) f) e).1 k j (omega arith) (omega arith)

all_from_back : (n i : ℕ) (f : ℕ → Bool) → ((k : ℕ) → i ≤ k → k < i + n → f k ≡ true) → all_from n i f ≡ true
unfolding all_from
all_from_back zero i f h = refl
all_from_back (suc n) i f h = and_intro (h i (omega arith) (omega arith)) (all_from_back n (suc i) f (λ k l g. h k (omega arith) (omega arith)))

pub all_below_at : (n : ℕ) (f : ℕ → Bool) → all_from n 0 f ≡ true → (k : ℕ) → k < n → f k ≡ true
all_below_at n f e k h = all_from_at n 0 f e k k (omega arith) h

pub all_below_back : (n : ℕ) (f : ℕ → Bool) → ((k : ℕ) → k < n → f k ≡ true) → all_from n 0 f ≡ true
all_below_back n f h = all_from_back n 0 f (λ k l g. h k (omega arith))

-- lists of bytes
pub bytes_of : (us : List ℕ) → byte_list us ≡ true → Bytes us
unfolding byte_list
bytes_of [] e = tt
bytes_of (u ∷ us) e = let both = and_split (ltb u 256) (byte_list us) e in (ltb-true u 256 both.0, bytes_of us both.1)

pub bytes_back : (us : List ℕ) → Bytes us → byte_list us ≡ true
unfolding byte_list
bytes_back [] b = refl
bytes_back (u ∷ us) b = and_intro (lt-ltb u 256 b.0) (bytes_back us b.1)
