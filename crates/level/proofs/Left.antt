-- Which heights are left, and how many. A column is blank or its height counts, so that of n columns n−b heights are there; of these t−b are
-- dropped at either end, and n+b−2t are left. With n above 3t that is more than t, however many are blank. Assumes nothing.
use mathlib.Core.Path.{◌≡◌, refl, sym, ◌∙◌, ap}
use mathlib.Core.List.{List, [], ◌∷◌, ◌++◌}
use Prim.Native.Nat.{ℕ, zero, suc, ◌+◌, ◌*◌, ◌-◌, ◌≤◌}
use native.Mathlib.Omega.{arith}
use lib.IntN.{ℤ}
use lib.ListN.{length, take, drop, length-drop, take-append-drop}
use lib.Seq.{length-take-le}
use borrow.Author.Tests.{ltb-false, lt-ltb, ne_eqb}
use Rattle.code.specs.Settings.{Settings, settings}
use Rattle.code.proofs.ValidSettings.{sizes}
use Rattle.grading.specs.Held.{Held, held_as, held_in}
use Rattle.grading.proofs.Value.{entries_length}
use Rattle.record.specs.Record.{who_as}
use Rattle.record.specs.Refusal.{ask_refusal}
use Rattle.record.specs.View.{settings_of, who_in, view}
use Rattle.record.specs.declared.Column.{Column}
use Rattle.record.proofs.Refusal.{line_zero, first_of_zero, ask_round, ask_settings}
use Rattle.record.proofs.View.{found_held}
use Rattle.level.specs.Level.{confident, ascending, blank_columns, dropped, without_ends, left, blank_columns_refusal, level_refusal}
use Rattle.level.specs.Promise.{LeftBetween, LeftCount, SomeLeft}
use Rattle.level.proofs.Gathering.{ascending_length}
use Rattle.level.proofs.Remaining.{many_left}

-- a column is blank or its height counts
pub blank_or_confident : (hs : List Held) → blank_columns hs + length (confident hs) ≡ length hs
unfolding blank_columns confident held_as
blank_or_confident [] = refl
blank_or_confident (h ∷ hs) = go h.confidence (blank_or_confident hs)
  where
    go :
        (c : ℕ) → blank_columns hs + length (confident hs) ≡ length hs →
        blank_columns (held_as h.value c ∷ hs) + length (confident (held_as h.value c ∷ hs)) ≡ suc (length hs)
    go zero e = omega arith
    go (suc zero) e = omega arith
    go (suc (suc c)) e = rw (ne_eqb (suc (suc c)) 0 (λ z. absurd (omega (arith, z))), lt-ltb 0 (suc (suc c)) (omega arith)) (omega arith)

few_blank : (s : Settings) (hs : List Held) → blank_columns_refusal s hs ≡ 0 → blank_columns hs ≤ s.t
unfolding blank_columns_refusal
few_blank s hs e = ltb-false s.t (blank_columns hs) (line_zero 22 _ (omega arith) e)

pub left_count : LeftCount
unfolding LeftCount left dropped
left_count s hs e =
    let few = few_blank s hs e in
    let many = ascending_length (confident hs) in
    let all = blank_or_confident hs in
    omega (arith, many_left (s.t - blank_columns hs) (ascending (confident hs)))

pub left_between : LeftBetween
unfolding LeftBetween left without_ends
left_between s hs enough =
    let xs = ascending (confident hs) in
    let d = dropped s hs in
    let many = ascending_length (confident hs) in
    let k = length xs - 2 * d in (
      take d xs,
      drop k (drop d xs),
      length-take-le d xs (omega (arith, many)),
      length-drop k (drop d xs) ∙ omega (arith, many, length-drop d xs),
      sym (ap (λ (ys : List ℤ). take d xs ++ ys) (take-append-drop k (drop d xs)) ∙ take-append-drop d xs),
    )

-- a finished column holds something about each column of its group
pub held_columns : (c : Column) → ask_refusal (view c) ≡ 0 → length (view c).found.held ≡ c.who.n
unfolding view settings_of settings held_in
held_columns c e = ap length (found_held (settings_of c.who) c.round c.found (omega (arith, ask_round (view c) e))) ∙ entries_length c.who.n 0 _

pub some_left : SomeLeft
unfolding SomeLeft LeftCount level_refusal view who_in who_as settings_of settings
some_left c e =
    let asked = (first_of_zero _ _ e).0 in
    let passed = (first_of_zero _ _ (first_of_zero _ _ (first_of_zero _ _ e).1).1).0 in
    let size = sizes (view c).who.settings (ask_settings (view c) asked) in
    let all = held_columns c asked in
    omega (arith, size, left_count (view c).who.settings (view c).found.held passed)
