-- What the steps of check values do: the feedback made, columns taken into the planes' windows, and checks stored. Assumes nothing:
-- these are definitions.
use Rattle.std.specs.Prelude.{◌≡◌, List, [], reverse, ℕ, ◌+◌, ◌*◌, ◌-◌, ◌≤◌, ◌<◌, length, get_or, take, drop}
use Rattle.arrays.specs.Array.{Written}
use Rattle.field.specs.Field.{plus, times, inverse, power}
use Rattle.lanes.specs.Lanes.{row_width}
use Rattle.code.specs.Size.{feedback_room, value_room, window_room}
use Rattle.code.specs.Polynomial.{eval, added}
use Rattle.code.specs.Vector.{plane, cut}

-- bytes that are fed back, so many, and zeros behind them
pub record Feedback (many : ℕ) (bytes : List ℕ) : Type 0 where
  pub long : length bytes ≡ feedback_room
  pub fits : (j : ℕ) → get_or bytes j 0 < 256
  pub behind : (j : ℕ) → many ≤ j → get_or bytes j 0 ≡ 0

-- a generator over its lowest coefficient, without that one; zeros stand behind it
pub record FeedbackOf (many : ℕ) (generator bytes : List ℕ) : Type 0 where
  pub long : length bytes ≡ feedback_room
  pub each : (j : ℕ) → j < many → get_or bytes j 0 ≡ times (get_or generator (j + 1) 0) (inverse (get_or generator 0 0))
  pub behind : (j : ℕ) → many ≤ j → get_or bytes j 0 ≡ 0

-- so many rows of the feedback's multiples of one byte added from a place on, and every other byte kept
abbrev pub RowsAdded : (at rows out : ℕ) → (feedback bytes bytes_now : List ℕ) → Type 0
RowsAdded at rows out feedback bytes bytes_now =
    Written at (row_width * rows) (λ j. plus (get_or bytes (at + j) 0) (times (get_or feedback j 0) out)) bytes bytes_now

-- a window of bytes for each plane
pub record Shaped (windows : List (List ℕ)) : Type 0 where
  pub long : length windows ≡ value_room
  pub each : (p : ℕ) → p < value_room → length (get_or windows p []) ≡ window_room
  pub bytes : (p i : ℕ) → p < value_room → get_or (get_or windows p []) i 0 < 256

-- byte i of plane p's window
abbrev pub byte_in : (p i : ℕ) → List (List ℕ) → ℕ
byte_in p i windows = get_or (get_or windows p []) i 0

-- the first bytes of plane p's window
abbrev pub window : (p many : ℕ) → List (List ℕ) → List ℕ
window p many windows = take many (get_or windows p [])

-- a step of the registers of the first planes, which stand at s: to the bytes behind come the feedback's multiples of the byte at s and
-- the one that comes in; every other window is kept
pub record Fed (planes rows s : ℕ) (feedback value : List ℕ) (windows windows_now : List (List ℕ)) : Type 0 where
  pub fed :
      (p : ℕ) → p < planes →
      RowsAdded (s + 1) rows (plus (get_or value p 0) (byte_in p s windows)) feedback (get_or windows p []) (get_or windows_now p [])
  pub other : (p : ℕ) → planes ≤ p → get_or windows_now p [] ≡ get_or windows p []

-- the bytes of plane p in the order in which columns are taken in, the last first
abbrev pub taken_in : (n size p : ℕ) → (vector : List ℕ) → List ℕ
taken_in n size p vector = reverse (plane p (cut n size vector))

-- so many columns taken in by the registers: where r times the feedback's value at r is 1, the value at r of what is left, a window with the
-- columns to come added, times r to the power of those taken in, is the value at r of all columns
pub record Divided (steps n size many : ℕ) (feedback vector : List ℕ) (windows : List (List ℕ)) : Type 0 where
  pub shaped : Shaped windows
  pub value :
      (p r : ℕ) → p < size → r < 256 → times r (eval feedback r) ≡ 1 →
      times (power r steps) (eval (drop steps (added (window p many windows) (taken_in n size p vector))) r) ≡ eval (taken_in n size p vector) r

-- the first values of an output are the bytes of the windows behind n columns, the last of them first, and all bytes after them are kept
pub record Stored (values n count size : ℕ) (windows : List (List ℕ)) (out out_now : List ℕ) : Type 0 where
  pub long : length out_now ≡ length out
  pub value : (c p : ℕ) → c < values → p < size → get_or out_now (c * size + p) 0 ≡ byte_in p (n + count - 1 - c) windows
  pub kept : (i : ℕ) → values * size ≤ i → get_or out_now i 0 ≡ get_or out i 0
