-- `result` meets its contract: refused, it answers zeros; in round four, what the record has found. Assumes nothing.
use mathlib.Core.Path.{sym}
use Prim.Native.Nat.{◌*◌, ◌≤◌}
use native.Mathlib.Omega.{arith}
use lib.ListN.{length}
use Rattle.std.proofs.lemmas.Result.{err_from_is_err_and}
use Rattle.refusal.proofs.Positive.{number-positive}
use Rattle.code.proofs.ValidSettings.{bounds, values_fit}
use Rattle.record.specs.Refusal.{ask_refusal}
use Rattle.record.specs.View.{view}
use Rattle.column.proofs.Asked.{refused_says, done_says}
use Rattle.column.proofs.result.Goals as goal

pub returns-in_err-settings : goal.returns-in_err-settings
unfolding view ask_refusal
returns-in_err-settings c =
    let p = err_from_is_err_and c.from_residual.result c.from_residual.ensures.1 in
    rw (p.1, p.2) (refused_says c.args.column.now _ c.in_err-settings.ensures.answer (λ z. omega (arith, number-positive c.in_err-settings.field-0.0)))

pub returns : goal.returns
unfolding view ask_refusal
returns c =
    let a = c.args.column.now in
    let s = c.in_ok-settings.settings in
    let same = c.in_ok-settings.ensures.same in
    let b = bounds s.n s.t s.w s.allowed in
    let l = c.of.ensures.long in
    let fits : a.who.n * a.who.w ≤ length a.found.values = rw (← same.0, ← same.2, l.0) (values_fit s.n s.w b.0 b.2) in
    done_says a _ (sym c.in_ok-settings.ensures.answer) fits (omega (arith, same.0, b.0, l.1)) (rw (same.0, same.2) at c.of.ensures.fronts)
