-- What is written into the arrays of the program's record is read back as it was: values glued together are cut into the same values,
-- and values and confidences are paired again. Assumes nothing.
use mathlib.Core.Path.{◌≡◌, refl, sym, ◌∙◌, ap, ap₂}
use mathlib.Core.List.{List, [], ◌∷◌, ◌++◌, append_assoc}
use Prim.Native.Nat.{ℕ, suc, ◌<◌}
use native.Mathlib.Omega.{arith}
use lib.ListN.{length, get_or, drop, replicate}
use lib.Seq.{take_at, drop_at}
use Rattle.arrays.specs.Array.{in_front, padded}
use Rattle.arrays.proofs.Padded.{padded_at}
use Rattle.code.specs.Settings.{Settings, value_size}
use Rattle.code.specs.Size.{most_columns, vector_room}
use Rattle.code.specs.Vector.{cut, glued}
use Rattle.code.specs.Entry.{values_in}
use Rattle.grading.specs.Value.{Vector, entries}
use Rattle.grading.specs.Held.{Held, held_as, held_in, held_values, held_confidences}
use Rattle.grading.proofs.Value.{entries_length, entries_of, entries_alike}
use Rattle.counting.specs.Stored.{Stores, StoresHeld}
use Rattle.counting.proofs.Placed.{held_values_entries, held_confidences_entries}
use Rattle.rounds.proofs.Rows.{Sized}

-- values
cut_sized :
    (w : ℕ) (vs : Vector) (rest : List ℕ) → ((j : ℕ) → j < length vs → length (get_or vs j []) ≡ w) → cut (length vs) w (glued vs ++ rest) ≡ vs
unfolding cut glued
cut_sized w [] rest h = refl
cut_sized w (v ∷ vs) rest h =
    let size = h 0 (omega arith) in
    rw (append_assoc v (glued vs) rest)
    (ap₂ ◌∷◌ (take_at v (glued vs ++ rest) w size)
    (ap (cut (length vs) w) (drop_at v (glued vs ++ rest) w size) ∙ cut_sized w vs rest (λ j l. h (suc j) (omega arith))))

pub stores_sized : (s : Settings) (vs : Vector) → Sized s vs → Stores s vs (padded vector_room (glued vs))
unfolding values_in padded in_front
stores_sized s vs z =
    record {
      bytes = refl;
      reads =
          ap (λ (k : ℕ). cut k (value_size s) (glued vs ++ drop (length (glued vs)) (replicate vector_room 0))) (sym z.many)
          ∙ cut_sized (value_size s) vs _ (λ j h. z.each j (rw z.many at h));
    }

-- values with their confidences
module _ (s : Settings) (f : ℕ → Held) (sized : (j : ℕ) → j < s.n → length (f j).value ≡ value_size s) where
  values_are : held_values (entries s.n 0 f) ≡ entries s.n 0 (λ j. (f j).value)
  values_are = held_values_entries s.n 0 f

  values_sized : Sized s (held_values (entries s.n 0 f))
  values_sized =
      rw values_are (record { many = entries_length s.n 0 _; each = λ j h. ap length (entries_of s.n j _ [] h) ∙ sized j h })

  pub stores_entries :
      StoresHeld s (entries s.n 0 f) (padded vector_room (glued (held_values (entries s.n 0 f))))
      (padded most_columns (held_confidences (entries s.n 0 f)))
  unfolding held_in held_as
  stores_entries =
      record {
        value_bytes = refl;
        confidence_bytes = refl;
        reads =
            entries_alike s.n 0 _ f
            (λ j l. (let h : j < s.n = omega arith in ap₂ held_as (value j h) (confidence j h)));
      }
    where
      value : (j : ℕ) → j < s.n → get_or (values_in s s.n (padded vector_room (glued (held_values (entries s.n 0 f))))) j [] ≡ (f j).value
      value j h =
          ap (λ (vs : Vector). get_or vs j []) ((stores_sized s _ values_sized).reads ∙ values_are) ∙ entries_of s.n j _ [] h

      confidence : (j : ℕ) → j < s.n → get_or (padded most_columns (held_confidences (entries s.n 0 f))) j 0 ≡ (f j).confidence
      confidence j h =
          padded_at most_columns _ j ∙ ap (λ (cs : List ℕ). get_or cs j 0) (held_confidences_entries s.n 0 f) ∙ entries_of s.n j _ 0 h
