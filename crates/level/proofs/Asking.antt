-- What is answered when the level is asked for: which line of the refusals applies, and, where none does, the level and the correction
-- from the heights that stand in ascending order. Assumes nothing.
use mathlib.Core.Path.{◌≡◌, refl, sym, ◌∙◌, ap, ap₂}
use mathlib.Core.Bool.{not}
use mathlib.Core.List.{List}
use Prim.Native.Nat.{ℕ, ◌+◌, ◌-◌, ◌≤◌, ◌<◌}
use native.Mathlib.Omega.{arith}
use lib.IntN.{ℤ, pos, ◌-ℤ◌}
use lib.ListN.{length, take}
use borrow.Author.Tests.{lt-ltb, le-ltb, eq-eqb, ne_eqb}
use Rattle.code.specs.Settings.{settings, value_size}
use Rattle.code.proofs.ValidSettings.{Sizes, sizes}
use Rattle.grading.specs.Held.{held_in}
use Rattle.record.specs.Record.{Rec, who_as}
use Rattle.record.specs.Refusal.{ask_refusal}
use Rattle.record.specs.View.{settings_of, who_in, view}
use Rattle.column.specs.Entry.{ResultSays}
use Rattle.record.specs.declared.Column.{Column}
use Rattle.record.specs.declared.Holdings.{Holdings}
use Rattle.record.proofs.Refusal.{line_applies, line_passed, first_of_here, first_of_next, first_of_last, ask_settings}
use Rattle.level.specs.Level.{height, confident, ascending, blank_columns, dropped, without_ends, left, middle, level_of, correction_of, width_refusal, blank_columns_refusal, level_refusal}
use Rattle.level.specs.Entry.{LevelSays}
use Rattle.level.proofs.Gathering.{ascending_length}
use Rattle.level.proofs.Left.{blank_or_confident, held_columns}

-- the lines
pub asked_refused : (r : Rec) (answer : ℕ) → answer ≡ ask_refusal r → (answer ≡ 0 → ⊥) → answer ≡ level_refusal r
unfolding level_refusal
asked_refused r answer e h = sym (first_of_here _ (sym e) h)

pub width_refused : (r : Rec) → ask_refusal r ≡ 0 → (r.who.settings.w ≡ 4 → ⊥) → level_refusal r ≡ 21
unfolding level_refusal width_refusal
width_refused r e h =
    first_of_next _ e (first_of_here _ (line_applies 21 _ (ap not (ne_eqb r.who.settings.w 4 h))) (λ z. absurd (omega (arith, z))))

last_line : (r : Rec) → ask_refusal r ≡ 0 → r.who.settings.w ≡ 4 → level_refusal r ≡ blank_columns_refusal r.who.settings r.found.held
unfolding level_refusal width_refusal
last_line r e h = first_of_next _ e (first_of_next _ (line_passed 21 _ (ap not (eq-eqb r.who.settings.w 4 h))) (first_of_last _))

pub asked_sizes : (r : Rec) → ask_refusal r ≡ 0 → Sizes r.who.settings
asked_sizes r e = sizes r.who.settings (ask_settings r e)

-- a refusal has two zeros
pub says_refused :
    (c : Column) (answer : ℕ) (level correction : ℤ) → answer ≡ level_refusal (view c) → (answer ≡ 0 → ⊥) → level ≡ pos 0 → correction ≡ pos 0 →
    LevelSays c answer level correction
says_refused c answer level correction e h l k =
    record {
      answered = e;
      level_done = λ z. absurd (h z);
      correction_done = λ z. absurd (h z);
      level_refused = λ z. l;
      correction_refused = λ z. k;
    }

-- a finished column of heights, with those of confidence above 0 in ascending order
pub record SortedHeights (c : Column) (sorted : List ℤ) : Type 0 where
  pub asked : ask_refusal (view c) ≡ 0
  pub width : c.who.w ≡ 4
  pub heights : sorted ≡ ascending (confident (view c).found.held)

pub sorted_heights :
    (c : Column) (h : Holdings) (sorted : List ℤ) → ResultSays c h → h.answer ≡ 0 → c.who.w ≡ 4 →
    sorted ≡ ascending (confident (held_in (settings c.who.n c.who.t 4) h.values h.confidences)) → SortedHeights c sorted
unfolding settings_of
sorted_heights c h sorted says done width heights =
    let e : held_in (settings c.who.n c.who.t 4) h.values h.confidences ≡ (view c).found.held =
    ap (λ (w : ℕ). held_in (settings c.who.n c.who.t w) h.values h.confidences) (sym width) ∙ (says.done done).reads in
    record { asked = sym says.answered ∙ done; width = width; heights = rw e at heights }

module _ (c : Column) (sorted : List ℤ) (s : SortedHeights c sorted) where
  count : length (confident (view c).found.held) ≡ length sorted
  count = sym (ap length s.heights ∙ ascending_length (confident (view c).found.held))

  -- a column is blank or its height is among those sorted
  blank_or_sorted : blank_columns (view c).found.held + length sorted ≡ c.who.n
  blank_or_sorted = omega (arith, count, blank_or_confident (view c).found.held, held_columns c s.asked)

  pub some_columns : length sorted ≤ c.who.n
  some_columns = omega (arith, blank_or_sorted)

  blank_count : c.who.n - length sorted ≡ blank_columns (view c).found.held
  blank_count = omega (arith, blank_or_sorted)

  pub blank_refused : c.who.t < c.who.n - length sorted → level_refusal (view c) ≡ 22
  unfolding blank_columns_refusal view who_in who_as settings_of settings
  blank_refused h =
      last_line (view c) s.asked s.width
      ∙ line_applies 22 _ (lt-ltb c.who.t (blank_columns (view c).found.held) (omega (arith, blank_count)))

  pub not_refused : c.who.n - length sorted ≤ c.who.t → level_refusal (view c) ≡ 0
  unfolding blank_columns_refusal view who_in who_as settings_of settings
  not_refused h =
      last_line (view c) s.asked s.width
      ∙ line_passed 22 _ (le-ltb c.who.t (blank_columns (view c).found.held) (omega (arith, blank_count)))

  pub says_level :
      (level correction : ℤ) → c.who.n - length sorted ≤ c.who.t → level ≡ middle (without_ends (c.who.t - (c.who.n - length sorted)) sorted) →
      correction ≡ level -ℤ height (take 4 c.who.own) → LevelSays c 0 level correction
  unfolding level_of correction_of left dropped view who_in who_as settings_of settings value_size
  says_level level correction h e k =
      let done : level ≡ level_of (view c).who.settings (view c).found.held =
      e ∙ ap₂ (λ (b : ℕ) (hs : List ℤ). middle (without_ends (c.who.t - b) hs)) blank_count s.heights in
      record {
        answered = sym (not_refused h);
        level_done = λ z. done;
        correction_done = λ z. k ∙ ap₂ (λ (l : ℤ) (w : ℕ). l -ℤ height (take w c.who.own)) done (sym s.width);
        level_refused = λ z. absurd (z refl);
        correction_refused = λ z. absurd (z refl);
      }
