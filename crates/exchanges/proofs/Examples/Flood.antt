-- A count can reach its top: column 1 is handed an empty frame in column 2's slot, again and again. After m calls that slot's count is m, or
-- the top where m is more, and all others are 0; from a record at the top on, it stays there. Assumes nothing.
use mathlib.Core.Path.{◌≡◌, refl, sym, ◌∙◌, subst}
use mathlib.Core.Bool.{Bool, true, false, cond}
use mathlib.Core.List.{[], ◌∷◌}
use Prim.Native.Nat.{ℕ, zero, suc, ◌+◌, min}
use native.Mathlib.Nat.{zero-add, add-zero}
use native.Mathlib.Omega.{arith}
use lib.Dec.{ltb}
use lib.ListN.{replicate}
use borrow.Author.Tests.{ltb-true, ltb-false}
use Rattle.arrays.specs.Array.{in_front, padded}
use Rattle.code.specs.Settings.{settings, settings_refusal, value_size}
use Rattle.grading.specs.Value.{is_blank}
use Rattle.record.specs.Record.{who_as, count_top, raised, count_at, one_more}
use Rattle.record.specs.Refusal.{line, first_of, number_refusal, size_refusal, blank_refusal, round_refusal, slot_refusal, short_refusal, open_refusal, record_refusal, frame_refusal, take_refusal, frame_fault}
use Rattle.record.specs.View.{settings_of, who_in, view}
use Rattle.record.specs.Stored.{identity, opened_column, with_counts, after_refusal}
use Rattle.record.specs.declared.Column.{Column}
use Rattle.column.specs.Call.{taking}
use Rattle.column.specs.Entry.{OpenSays, TakeSays}
use Rattle.gradecast.specs.Built.{takes, BuiltRun, no_step, one_step, Built, BuiltRan}
use Rattle.gradecast.specs.Refused.{refused_of, TopStays}
use Rattle.gradecast.proofs.Refused.{top_stays}
use Rattle.exchanges.proofs.Examples.Exchange.{four}

-- column 1 after so many
unfoldable pub flooded : ℕ → Column
flooded m = with_counts (opened_column (identity 4 1 1 1 7 (241 ∷ []))) (0 ∷ min m count_top ∷ replicate 30 0)

top_next : (m : ℕ) → min (suc m) count_top ≡ raised (min m count_top)
unfolding raised
top_next m = go (ltb (min m count_top) count_top) refl
  where
    go : (q : Bool) → ltb (min m count_top) count_top ≡ q → min (suc m) count_top ≡ cond q (suc (min m count_top)) (min m count_top)
    go true e = omega (arith, ltb-true (min m count_top) count_top e)
    go false e = omega (arith, ltb-false (min m count_top) count_top e)

-- one more
flood_step : (m : ℕ) → TakeSays (flooded m) 2 [] 9 (flooded (suc m))
unfolding flooded view settings_of who_in who_as settings settings_refusal value_size identity opened_column with_counts after_refusal padded in_front is_blank
    one_more count_at line first_of number_refusal blank_refusal round_refusal slot_refusal short_refusal record_refusal frame_refusal take_refusal frame_fault
flood_step m =
    record {
      answered = refl;
      done = λ z. absurd (omega arith);
      refused = λ z. rw (top_next m) refl;
    }

flood_run : (many before after : ℕ) → many + before ≡ after → BuiltRun (flooded before) (replicate many (taking 2 [])) (replicate many 9) (flooded after)
flood_run zero before after e = subst (λ (m : ℕ). BuiltRun (flooded before) [] [] (flooded m)) (sym (zero-add before) ∙ e) (no_step (flooded before))
flood_run (suc many) before after e =
    one_step (flooded before) (flooded (suc before)) (flooded after) (taking 2 []) (replicate many (taking 2 [])) 9 (replicate many 9)
    (takes (flooded before) (flooded (suc before)) 2 9 [] (flood_step before)) (flood_run many (suc before) after (omega arith))

-- the column as built
unfoldable pub flood : ℕ → Built
flood m =
    record {
      number = 1;
      own = 241 ∷ [];
      first = flooded 0;
      calls = replicate m (taking 2 []);
      answers = replicate m 9;
      last = flooded m;
    }

opened : OpenSays 4 1 1 1 7 (241 ∷ []) 0 (flooded 0)
unfolding flooded with_counts opened_column settings settings_refusal first_of line open_refusal number_refusal size_refusal blank_refusal is_blank
opened = record { answered = refl; done = λ z. refl; refused = λ z. absurd (z refl) }

pub flood_ran : (m : ℕ) → BuiltRan four 7 (flood m)
unfolding flood
flood_ran m = record { opening = opened; steps = flood_run m 0 m (add-zero m) }

-- five calls more than a count can count
pub top_example : (b : Built) × BuiltRan four 7 b × (refused_of b.last 2 ≡ count_top)
unfolding flood flooded with_counts count_at
top_example = (flood (count_top + 5), flood_ran (count_top + 5), refl)

-- the last five of them, by the theorem
pub stays_example : refused_of (flooded (count_top + 5)) 2 ≡ count_top
unfolding TopStays flooded with_counts count_at
stays_example = top_stays (flooded count_top) (flooded (count_top + 5)) _ _ (flood_run 5 count_top (count_top + 5) refl) 2 refl
