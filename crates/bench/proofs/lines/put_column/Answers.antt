-- `put_column` meets its contract: the line of what the result answers, or nothing. Assumes nothing.
use mathlib.Core.Path.{refl, sym, ◌∙◌, ap}
use mathlib.Core.List.{◌++◌, append-nil}
use Prim.Native.Nat.{ℕ}
use native.Mathlib.Omega.{arith}
use lib.ListN.{length, length-append}
use Rattle.code.specs.Settings.{Settings}
use Rattle.grading.specs.Held.{held_in}
use Rattle.record.specs.Stored.{no_holdings}
use Rattle.refusal.proofs.Positive.{number-positive}
use Rattle.bench_file.specs.Steps.Places.{group_of}
use Rattle.bench.specs.Listing.{column_line}
use Rattle.bench_file.proofs.OneCommand.Faults.{small_settings}
use Rattle.bench.proofs.Listing.Wording.{line_short}
use Rattle.bench.proofs.lines.put_column.Goals as goal

pub returns-then-not-is_good-clause-by_index : goal.returns-then-not-is_good-clause-by_index
returns-then-not-is_good-clause-by_index c file f h finished =
    rw (sym (c.is_good.ensures file f h) ∙ c.if-not-is_good.true) (sym (append-nil _))

pub put_line-requires : goal.put_line-requires
put_line-requires c =
    let s = c.args.places.now.settings in
    let small = small_settings s in
    let v = c.in-Ok.verdict in
    omega (arith, c.requires, line_short c.args.number (group_of s) v.values v.confidences (omega (arith, c.requires)) small.0 small.2)

pub returns-in-Ok-clause-by_index : goal.returns-in-Ok-clause-by_index
returns-in-Ok-clause-by_index c file f h finished =
    let a = c.args in
    let v = c.in-Ok.verdict in
    let good = sym (c.is_good.ensures file f h) ∙ c.if-not-is_good.false in
    let done = finished good in
    let same = done.settings ∙ h.settings in
    let held = ap (λ (x : Settings). held_in x v.values v.confidences) (sym same) ∙ (c.in-Ok.ensures.done refl).reads in
    rw good (c.put_line.ensures ∙ ap (λ hs. a.text.now ++ column_line a.number hs) held)

pub returns-in-Ok-clause-within : goal.returns-in-Ok-clause-within
returns-in-Ok-clause-within c =
    let s = c.args.places.now.settings in
    let small = small_settings s in
    let v = c.in-Ok.verdict in
    omega
    (arith, length-append {A = ℕ}, ap length c.put_line.ensures, line_short c.args.number (group_of s) v.values v.confidences (omega (arith, c.requires)) small.0 small.2)

pub returns-in_default-clause-by_index : goal.returns-in_default-clause-by_index
unfolding no_holdings
returns-in_default-clause-by_index c file f h finished =
    let good = sym (c.is_good.ensures file f h) ∙ c.if-not-is_good.false in
    absurd (omega (arith, (finished good).answered, c.in_default.ensures.answered, number-positive c.in_default.field-0))
