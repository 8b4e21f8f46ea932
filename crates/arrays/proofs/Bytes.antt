-- Lists of bytes: numbers below 256. Their parts are, and lists joined or reversed; and what a list that is reversed has where. Assumes
-- nothing.
use mathlib.Core.Path.{◌≡◌, ◌∙◌, ap}
use mathlib.Core.List.{List, [], ◌∷◌, ◌++◌, reverse, reverse-cons}
use Prim.Native.Nat.{ℕ, zero, suc, ◌+◌, ◌-◌, ◌<◌}
use native.Mathlib.Omega.{arith}
use native.Mathlib.Decide.{dec_lt}
use lib.ListN.{length, get_or, take, drop, replicate, length-reverse, get_or-append}
use lib.Seq.{get_or-append-add}

abbrev pub Bytes : List ℕ → Type 0
Bytes [] = Unit {0}
Bytes (u ∷ us) = (u < 256) × Bytes us

pub byte_at : (us : List ℕ) (k : ℕ) → Bytes us → get_or us k 0 < 256
byte_at [] k b = omega arith
byte_at (u ∷ us) zero b = b.0
byte_at (u ∷ us) (suc k) b = byte_at us k b.1

pub bytes_every : (us : List ℕ) → ((i : ℕ) → get_or us i 0 < 256) → Bytes us
bytes_every [] h = tt
bytes_every (u ∷ us) h = (h 0, bytes_every us (λ i. h (suc i)))

pub bytes_take : (n : ℕ) (us : List ℕ) → Bytes us → Bytes (take n us)
bytes_take zero us b = tt
bytes_take (suc n) [] b = tt
bytes_take (suc n) (u ∷ us) b = (b.0, bytes_take n us b.1)

pub bytes_drop : (n : ℕ) (us : List ℕ) → Bytes us → Bytes (drop n us)
bytes_drop zero us b = b
bytes_drop (suc n) [] b = tt
bytes_drop (suc n) (u ∷ us) b = bytes_drop n us b.1

pub bytes_zeros : (n : ℕ) → Bytes (replicate n 0)
bytes_zeros zero = tt
bytes_zeros (suc n) = (omega arith, bytes_zeros n)

pub bytes_append : (us vs : List ℕ) → Bytes us → Bytes vs → Bytes (us ++ vs)
bytes_append [] vs b d = d
bytes_append (u ∷ us) vs b d = (b.0, bytes_append us vs b.1 d)

pub bytes_reverse : (us : List ℕ) → Bytes us → Bytes (reverse us)
bytes_reverse [] b = tt
bytes_reverse (u ∷ us) b = rw reverse-cons (bytes_append (reverse us) (u ∷ []) (bytes_reverse us b.1) (b.0, tt))

pub get_or_reverse : (l : List ℕ) (i : ℕ) → i < length l → get_or (reverse l) i 0 ≡ get_or l (length l - 1 - i) 0
get_or_reverse [] i h = absurd (omega arith)
get_or_reverse (x ∷ l) i h = rw (reverse-cons x l) (go (dec_lt i (length l)) (get_or_reverse l i))
  where
    go : Dec (i < length l) → (i < length l → get_or (reverse l) i 0 ≡ get_or l (length l - 1 - i) 0) → get_or (reverse l ++ (x ∷ [])) i 0 ≡ get_or (x ∷ l) (length (x ∷ l) - 1 - i) 0
    go (yes a) f =
        get_or-append (reverse l) (x ∷ []) 0 i (omega (arith, length-reverse l)) ∙ f a
        ∙ ap (λ (k : ℕ). get_or (x ∷ l) k 0) (let e : suc (length l - 1 - i) ≡ length (x ∷ l) - 1 - i = omega arith in e)
    go (no a) f =
        ap (λ (k : ℕ). get_or (reverse l ++ (x ∷ [])) k 0) (let e : i ≡ length (reverse l) + 0 = omega (arith, length-reverse l) in e)
        ∙ get_or-append-add (reverse l) (x ∷ []) 0 0 ∙ ap (λ (k : ℕ). get_or (x ∷ l) k 0) (let e : 0 ≡ length (x ∷ l) - 1 - i = omega arith in e)
