-- Tables of rows as arrays, plane by plane: byte p of the value in row i, column k stands at p, i, k. Assumes nothing: these are
-- definitions.
use Rattle.std.specs.Prelude.{◌≡◌, List, [], ℕ, ◌≤◌, ◌<◌, length, get_or}
use Rattle.arrays.specs.Array.{in_front}
use Rattle.code.specs.Size.{most_columns, value_room}
use Rattle.code.specs.Vector.{plane, cut}
use Rattle.grading.specs.Value.{Value, Vector, Rows, entries}

-- the planes, each with the bytes of its rows
abbrev pub Planes : Type 0
Planes = List (List (List ℕ))

unfoldable pub byte_in : Planes → (p i k : ℕ) → ℕ
byte_in x p i k = get_or (get_or (get_or x p []) i []) k 0

-- the value of w bytes in row i, column k
unfoldable pub value_in : (w : ℕ) → Planes → (i k : ℕ) → Value
value_in w x i k = entries w 0 (λ p. byte_in x p i k)

-- row i of n values
unfoldable pub row_in : (n w : ℕ) → Planes → (i : ℕ) → Vector
row_in n w x i = entries n 0 (value_in w x i)

-- the n rows
unfoldable pub rows_in : (n w : ℕ) → Planes → Rows
rows_in n w x = entries n 0 (row_in n w x)

-- a plane for each byte of a value, of a row for each sender, of a byte for each column
pub record Shaped (x : Planes) : Type 0 where
  pub planes : length x ≡ value_room
  pub rows : (p : ℕ) → p < value_room → length (get_or x p []) ≡ most_columns
  pub bytes : (p i : ℕ) → p < value_room → i < most_columns → length (get_or (get_or x p []) i []) ≡ most_columns

-- the bytes of row i in plane p
unfoldable pub row_plane : Planes → (i p : ℕ) → List ℕ
row_plane x i p = get_or (get_or x p []) i []

-- the same when a row of n values of w bytes is written there: byte p of each value, and the bytes behind them as they were
unfoldable pub written_plane : (n w : ℕ) → (row : List ℕ) → Planes → (i p : ℕ) → List ℕ
written_plane n w row x i p = in_front (plane p (cut n w row)) (row_plane x i p)

-- row i of the first planes is that of f, and every other row and plane is kept
pub record RowPut (many i : ℕ) (f : ℕ → List ℕ) (x x_now : Planes) : Type 0 where
  pub shape : Shaped x_now
  pub new : (p : ℕ) → p < many → row_plane x_now i p ≡ f p
  pub planes_kept : (p : ℕ) → many ≤ p → get_or x_now p [] ≡ get_or x p []
  pub rows_kept : (p j : ℕ) → (j ≡ i → ⊥) → row_plane x_now j p ≡ row_plane x j p
