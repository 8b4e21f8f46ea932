-- The conditions of `SomeLeft` and `LeftBetween` can be met: column 1 of a group of four that bears one bad column, finished with the heights
-- 1000, 1004, 1010 and one blank, drops nothing, levels at 1005 and has 5 to go. With the fourth at 9999 it drops one at either end and
-- levels at 1007; with two blanks it is refused 22. Computed. Assumes nothing.
use mathlib.Core.Path.{◌≡◌, refl, sym}
use mathlib.Core.List.{List, [], ◌∷◌}
use Prim.Native.Nat.{ℕ, ◌*◌, ◌≤◌, ◌<◌}
use native.Mathlib.Omega.{arith}
use lib.IntN.{ℤ, pos}
use lib.ListN.{length}
use Rattle.arrays.specs.Array.{in_front, padded}
use Rattle.code.specs.Settings.{settings, settings_refusal, value_size}
use Rattle.code.specs.Vector.{cut, glued}
use Rattle.code.specs.Entry.{values_in}
use Rattle.grading.specs.Value.{is_blank, entries}
use Rattle.grading.specs.Held.{Held, held_as, held_in, held_values, held_confidences}
use Rattle.record.specs.Record.{who_as, found_as}
use Rattle.record.specs.Refusal.{line, first_of, number_refusal, blank_refusal, unfinished_refusal, record_refusal, ask_refusal}
use Rattle.record.specs.View.{settings_of, who_in, found_in, view}
use Rattle.record.specs.Stored.{no_findings, identity, opened_column, found_now, one_on}
use Rattle.record.specs.declared.Column.{Column}
use Rattle.level.specs.Level.{bits, signed, height, confident, placed, ascending, blank_columns, dropped, without_ends, left, halved, middle, level_of, correction_of, width_refusal, blank_columns_refusal, level_refusal}
use Rattle.level.specs.Entry.{LevelSays}
use Rattle.level.specs.Promise.{SomeLeft}
use Rattle.level.proofs.Left.{some_left}

-- column 1 in round four with what it holds, opened at 1000
finished : List Held → Column
finished held =
    let opened = opened_column (identity 4 1 4 1 7 (0 ∷ 0 ∷ 3 ∷ 232 ∷ [])) in
    one_on (one_on (one_on opened no_findings) no_findings) (found_now 3 no_findings (found_as [] [] held [] []))

-- a height of two bytes at confidence 2, and a blank
at_height : (high low : ℕ) → Held
at_height a b = held_as (0 ∷ 0 ∷ a ∷ b ∷ []) 2

blank_column : Held
blank_column = held_as (0 ∷ 0 ∷ 0 ∷ 0 ∷ []) 0

one_blank : Column
one_blank = finished (at_height 3 232 ∷ at_height 3 236 ∷ at_height 3 242 ∷ blank_column ∷ [])

none_blank : Column
none_blank = finished (at_height 3 232 ∷ at_height 3 236 ∷ at_height 3 242 ∷ at_height 39 15 ∷ [])

two_blank : Column
two_blank = finished (at_height 3 232 ∷ at_height 3 236 ∷ blank_column ∷ blank_column ∷ [])

-- the condition of `LeftBetween`: enough heights to drop that many at either end
Enough : Column → Type 0
Enough c = 2 * dropped (view c).who.settings (view c).found.held ≤ length (confident (view c).found.held)

-- the heights that are left to a column
heights_left : Column → List ℤ
heights_left c = left (view c).who.settings (view c).found.held

answers :
    (c : Column) (level correction : ℤ) → level_refusal (view c) ≡ 0 → level_of (view c).who.settings (view c).found.held ≡ level →
    correction_of (view c) ≡ correction → LevelSays c 0 level correction
answers c level correction r l k =
    record {
      answered = sym r;
      level_done = λ z. sym l;
      correction_done = λ z. sym k;
      level_refused = λ z. absurd (z refl);
      correction_refused = λ z. absurd (z refl);
    }

worked :
    (LevelSays one_blank 0 (pos 1005) (pos 5) × (heights_left one_blank ≡ pos 1000 ∷ pos 1004 ∷ pos 1010 ∷ []))
    × (LevelSays none_blank 0 (pos 1007) (pos 7) × (heights_left none_blank ≡ pos 1004 ∷ pos 1010 ∷ []) × Enough none_blank)
    × (level_refusal (view two_blank) ≡ 22)
unfolding Enough finished at_height blank_column one_blank none_blank two_blank heights_left opened_column identity one_on no_findings found_now found_as
    who_as who_in found_in view settings_of settings settings_refusal value_size in_front padded cut glued values_in is_blank entries held_as
    held_in held_values held_confidences line first_of number_refusal blank_refusal unfinished_refusal record_refusal ask_refusal bits signed
    height confident placed ascending blank_columns dropped without_ends left halved middle level_of correction_of width_refusal
    blank_columns_refusal level_refusal
worked = ((answers one_blank _ _ refl refl refl, refl), (answers none_blank _ _ refl refl refl, refl, omega arith), refl)

more_than_t : one_blank.who.t < length (heights_left one_blank)
unfolding SomeLeft heights_left
more_than_t = some_left one_blank (sym worked.0.0.answered)
