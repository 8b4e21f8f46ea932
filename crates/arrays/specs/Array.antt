-- Arrays of bytes: what stands in one, and what a function has put into one. Assumes nothing: these are definitions.
use Rattle.std.specs.Prelude.{◌≡◌, Bool, true, ◌&&◌, List, [], ◌∷◌, ◌++◌, ℕ, ◌+◌, ◌≤◌, ◌<◌, eqb, length, get_or, drop, replicate}

-- an output that is filled changes only in its first bytes
unfoldable pub in_front : (new old : List ℕ) → List ℕ
in_front new old = new ++ drop (length new) old

-- an array of so many bytes that holds these in front: every other byte is 0
unfoldable pub padded : (room : ℕ) → List ℕ → List ℕ
padded room bytes = in_front bytes (replicate room 0)

-- whether every byte is 0
abbrev pub all_zero : List ℕ → Bool
all_zero [] = true
all_zero (b ∷ bs) = eqb b 0 && all_zero bs

-- an array of a length whose first bytes are those of f
pub record Filled (size many : ℕ) (f : ℕ → ℕ) (bytes : List ℕ) : Type 0 where
  pub long : length bytes ≡ size
  pub new : (p : ℕ) → p < many → get_or bytes p 0 ≡ f p

-- so many bytes from a place on are those of f, and every other byte is kept
pub record Written (at many : ℕ) (f : ℕ → ℕ) (bytes bytes_now : List ℕ) : Type 0 where
  pub long : length bytes_now ≡ length bytes
  pub new : (p : ℕ) → p < many → get_or bytes_now (at + p) 0 ≡ f p
  pub before : (i : ℕ) → i < at → get_or bytes_now i 0 ≡ get_or bytes i 0
  pub after : (i : ℕ) → at + many ≤ i → get_or bytes_now i 0 ≡ get_or bytes i 0
