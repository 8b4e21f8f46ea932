-- Values of columns, and blank, "no value"; and lists given entry by entry. Assumes nothing: these are definitions.
use Rattle.std.specs.Prelude.{Bool, true, false, ◌&&◌, ◌||◌, List, [], ◌∷◌, ℕ, zero, suc, ltb, eqb, replicate}
use Rattle.code.specs.Settings.{Settings, value_size}

-- a value: its bytes
abbrev pub Value : Type 0
Value = List ℕ

-- a vector: a value for each of n columns
abbrev pub Vector : Type 0
Vector = List Value

-- the rows of a table: a vector for each of n senders
abbrev pub Rows : Type 0
Rows = List Vector

-- blank, "no value": zero bytes, as many as a value has
unfoldable pub blank : Settings → Value
blank s = replicate (value_size s) 0

-- whether a value is blank: all its bytes are zero; any other bytes are a value
unfoldable pub is_blank : Value → Bool
is_blank [] = true
is_blank (b ∷ bs) = eqb b 0 && is_blank bs

-- a row of blanks: what a missing frame or "none" gives
unfoldable pub blanks : Settings → Vector
blanks s = replicate s.n (blank s)

-- the smaller bytes of two values: the smaller byte at the first place where they differ
unfoldable pub bytes_before : Value → Value → Bool
bytes_before xs [] = false
bytes_before [] (y ∷ ys) = true
bytes_before (x ∷ xs) (y ∷ ys) = ltb x y || (eqb x y && bytes_before xs ys)

-- a list given entry by entry, so many from the entry i on
unfoldable pub entries : {A : Type 0} → (many i : ℕ) → (ℕ → A) → List A
entries zero i f = []
entries (suc n) i f = f i ∷ entries n (suc i) f
