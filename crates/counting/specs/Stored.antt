-- Vectors and what a column ends with as arrays of a program, byte for byte. Assumes nothing: these are definitions.
use Rattle.std.specs.Prelude.{◌≡◌, List, ℕ}
use Rattle.arrays.specs.Array.{padded}
use Rattle.code.specs.Settings.{Settings}
use Rattle.code.specs.Size.{most_columns, vector_room}
use Rattle.code.specs.Vector.{glued}
use Rattle.code.specs.Entry.{values_in}
use Rattle.grading.specs.Value.{Vector}
use Rattle.grading.specs.Held.{Held, held_in, held_values, held_confidences}

-- a vector as an array: its values one after the other from the front on, every other byte 0; read again, it is the vector
pub record Stores (s : Settings) (vs : Vector) (array : List ℕ) : Type 0 where
  pub bytes : array ≡ padded vector_room (glued vs)
  pub reads : values_in s s.n array ≡ vs

-- values and confidences as arrays, in the same way
pub record StoresHeld (s : Settings) (hs : List Held) (values confidences : List ℕ) : Type 0 where
  pub value_bytes : values ≡ padded vector_room (glued (held_values hs))
  pub confidence_bytes : confidences ≡ padded most_columns (held_confidences hs)
  pub reads : held_in s values confidences ≡ hs
