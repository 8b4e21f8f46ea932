-- `level` meets its contract: the lines of the refusals in their order, and then the middle of the heights left. Assumes nothing.
use mathlib.Core.Path.{◌≡◌, refl, sym}
use native.Mathlib.Omega.{arith}
use mir.Facts.{to_z-of_z}
use Rattle.std.proofs.lemmas.Result.{err_from_is_err_and}
use Rattle.refusal.specs.Number.{number_of}
use Rattle.refusal.proofs.Positive.{number-positive}
use Rattle.code.specs.Settings.{settings}
use Rattle.code.proofs.ValidSettings.{Sizes}
use Rattle.record.specs.Record.{who_as}
use Rattle.record.specs.View.{settings_of, who_in, view}
use Rattle.record.specs.Refusal.{ask_refusal}
use Rattle.record.specs.Stored.{no_holdings}
use Rattle.record.specs.declared.Column.{Column}
use Rattle.level.proofs.Integers.{stored}
use Rattle.level.proofs.Asking.{asked_refused, width_refused, asked_sizes, says_refused, SortedHeights, sorted_heights, some_columns, blank_refused, says_level}
use Rattle.level.proofs.level.Goals as goal
use Rattle.level.proofs.level.Goals.{In_ok-held, After-of-sorted}

pub returns-in_err-held : goal.returns-in_err-held
unfolding no_holdings
returns-in_err-held c =
    let p = err_from_is_err_and c.from_residual.result c.from_residual.ensures.1 in
    let number : number_of c.in_err-held.field-0.0 ≡ 0 → ⊥ = λ z. omega (arith, number-positive c.in_err-held.field-0.0) in
    rw (p.1, p.2) (says_refused c.args.column.now _ _ _ (asked_refused (view c.args.column.now) _ c.in_err-held.ensures.answered number) number refl refl)

-- what is known where `result` is not refused
module _ (c : In_ok-held) where
  column : Column
  column = c.args.column.now

  asked : ask_refusal (view column) ≡ 0
  unfolding column
  asked = sym c.in_ok-held.ensures.answered

  columns : Sizes (settings_of column.who)
  unfolding column view who_in who_as
  columns = asked_sizes (view column) asked

pub returns-then-who-ne-HEIGHT : goal.returns-then-who-ne-HEIGHT
unfolding column view who_in who_as settings_of settings
returns-then-who-ne-HEIGHT c =
    let held = (goal.at.returns-then-who-ne-HEIGHT c).In_ok-held in
    says_refused (column held) _ _ _ (sym (width_refused (view (column held)) (asked held) c.if-who-ne-HEIGHT.true)) (λ z. absurd (omega (arith, z))) refl refl

pub of-sorted-requires : goal.of-sorted-requires
unfolding column settings_of settings
of-sorted-requires c = (columns (goal.at.of-sorted-requires c).In_ok-held).few_columns

-- the heights that were sorted
sorted : (c : After-of-sorted) → SortedHeights (column (goal.at.After-of-sorted c).In_ok-held) c.of-sorted.result
unfolding column
sorted c = sorted_heights _ _ _ c.in_ok-held.ensures refl c.if-who-ne-HEIGHT.false (c.of-sorted.ensures c.args.column.now.who.t)

pub overflow_sub-blank : goal.overflow_sub-blank
unfolding column
overflow_sub-blank c = rw c.len.ensures (some_columns _ _ (sorted (goal.at.overflow_sub-blank c).After-of-sorted))

pub returns-then-blank-t : goal.returns-then-blank-t
unfolding column
returns-then-blank-t c =
    let many_blank = blank_refused _ _ (sorted (goal.at.returns-then-blank-t c).After-of-sorted) (omega (arith, c.if-blank-t.true, c.len.ensures)) in
    says_refused _ _ _ _ (sym many_blank) (λ z. absurd (omega (arith, z))) refl refl

pub middle-level-requires : goal.middle-level-requires
unfolding column settings_of settings
middle-level-requires c =
    omega
    (arith, c.len.ensures, columns (goal.at.middle-level-requires c).In_ok-held, some_columns _ _ (sorted (goal.at.middle-level-requires c).After-of-sorted), c.if-blank-t.false)

pub correction-correction-requires : goal.correction-correction-requires
correction-correction-requires c = rw (stored c.middle-level.result (omega arith)) c.middle-level.ensures.1

pub returns : goal.returns
unfolding column
returns c =
    let m = c.middle-level in
    let e = stored m.result (omega arith) in
    rw (e, to_z-of_z (record { sfits = c.correction-correction.type_inv }))
    (says_level _ _ (sorted (goal.at.returns c).After-of-sorted) m.result c.correction-correction.result (rw c.len.ensures at c.if-blank-t.false) (rw c.len.ensures at m.ensures.0) (rw e at c.correction-correction.ensures))
