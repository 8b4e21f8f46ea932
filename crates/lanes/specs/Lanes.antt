-- Byte planes side by side in one array: a row has a byte of each, and products of all planes are sums of rows. Assumes nothing: these
-- are definitions.
use Rattle.std.specs.Prelude.{◌≡◌, List, [], ◌∷◌, ℕ, zero, suc, ◌+◌, ◌*◌, ◌≤◌, ◌<◌, length, get_or, drop}
use Rattle.field.specs.Field.{plus, doubled, times}

-- the byte planes that a row has room for, at least the most bytes of a value
abbrev pub row_width : ℕ
row_width = 8

-- a row for each multiple of a value by half a byte
abbrev pub multiple_rows : ℕ
multiple_rows = row_width * 16

-- room for both tables of a value
abbrev pub table_room : ℕ
table_room = 2 * multiple_rows

-- where row j's byte of plane p stands
abbrev pub in_row : (j p : ℕ) → ℕ
in_row j p = row_width * j + p

-- plane p of the first rows
unfoldable pub lane : (p rows : ℕ) → List ℕ → List ℕ
lane p zero bs = []
lane p (suc k) bs = get_or bs p 0 ∷ lane p k (drop row_width bs)

-- each of the first rows k is k times the value with the bytes f
pub record Multiples (many : ℕ) (f : ℕ → ℕ) (rows : List ℕ) : Type 0 where
  pub long : length rows ≡ multiple_rows
  pub row : (k p : ℕ) → k < many → p < row_width → get_or rows (in_row k p) 0 ≡ times (f p) k

-- both tables of the value with the bytes f stand from a place on: its multiples by the low and by the high half of a byte
pub record Tables (at : ℕ) (f : ℕ → ℕ) (tables : List ℕ) : Type 0 where
  pub low : (k p : ℕ) → k < 16 → p < row_width → get_or tables (at + in_row k p) 0 ≡ times (f p) k
  pub high : (k p : ℕ) → k < 16 → p < row_width → get_or tables (at + multiple_rows + in_row k p) 0 ≡ times (doubled (times (f p) 8)) k

-- and every other byte is kept
pub record TablesPut (at : ℕ) (f : ℕ → ℕ) (tables tables_now : List ℕ) : Type 0 where
  pub long : length tables_now ≡ length tables
  pub put : Tables at f tables_now
  pub before : (i : ℕ) → i < at → get_or tables_now i 0 ≡ get_or tables i 0
  pub after : (i : ℕ) → at + table_room ≤ i → get_or tables_now i 0 ≡ get_or tables i 0

-- both tables of each row from the first named on, up to the last of so many, each pair at its row's number
pub record RowTables (first many : ℕ) (rows tables : List ℕ) : Type 0 where
  pub room : table_room * many ≤ length tables
  pub each : (m : ℕ) → first ≤ m → m < many → Tables (table_room * m) (λ p. get_or rows (in_row m p) 0) tables

-- and every other byte is kept
pub record RowTablesPut (first many : ℕ) (rows tables tables_now : List ℕ) : Type 0 where
  pub long : length tables_now ≡ length tables
  pub put : RowTables first many rows tables_now
  pub before : (i : ℕ) → i < table_room * first → get_or tables_now i 0 ≡ get_or tables i 0
  pub after : (i : ℕ) → table_room * many ≤ i → get_or tables_now i 0 ≡ get_or tables i 0

-- where the first rows are so many multiples of any value of bytes, they now are more of them
abbrev pub Continued : (many more : ℕ) → (rows rows_now : List ℕ) → Type 0
Continued many more rows rows_now = (f : ℕ → ℕ) → ((p : ℕ) → f p < 256) → Multiples many f rows → Multiples more f rows_now

-- row 1 is the value with the bytes f, and each row up to the last named is twice the one before
pub record Doublings (last : ℕ) (f : ℕ → ℕ) (rows : List ℕ) : Type 0 where
  pub long : length rows ≡ multiple_rows
  pub first : (p : ℕ) → p < row_width → get_or rows (in_row 1 p) 0 ≡ f p
  pub next : (k p : ℕ) → 1 ≤ k → k < last → p < row_width → get_or rows (in_row (k + 1) p) 0 ≡ doubled (get_or rows (in_row k p) 0)

-- to each of the first rows j of each plane its value times constant j is added, and every other byte is kept
pub record ProductsAdded (many : ℕ) (value constants rows rows_now : List ℕ) : Type 0 where
  pub long : length rows_now ≡ length rows
  pub sums :
      (j p : ℕ) → j < many → p < row_width →
      get_or rows_now (in_row j p) 0 ≡ plus (get_or rows (in_row j p) 0) (times (get_or value p 0) (get_or constants j 0))
  pub rest : (i : ℕ) → row_width * many ≤ i → get_or rows_now i 0 ≡ get_or rows i 0
