-- `check_values` meets its contract: each refusal under its own condition, in the table's order. Assumes nothing.
use Rattle.std.proofs.Common.{rules}
use mathlib.Core.Path.{◌≡◌, sym}
use mathlib.Core.Logic.{inl, inr}
use native.Mathlib.Omega.{arith}
use borrow.Author.Tests.{ne_eqb, lt-ltb}
use Rattle.refusal.specs.Number.{answer_of}
use Rattle.refusal.proofs.Positive.{number-positive}
use Rattle.code.specs.Settings.{settings, settings_refusal}
use Rattle.code.proofs.Encoding.Entry.{checks_settings, checks_length, checks_done}
use Rattle.code.proofs.check_values.Goals as goal
use Rattle.code.proofs.check_values.Goals.{then-vector-columns-via-then-vector-columns, then-vector-columns-via-else-vector-columns+then-output-count}

pub returns-in_err-settings : goal.returns-in_err-settings
returns-in_err-settings c =
    let a = c.args in
    let told : answer_of c.from_residual.result ≡ settings_refusal (settings a.n a.t a.w) = search rules in
    checks_settings a.n a.t a.w a.vector.now a.output.now _ told
    (λ z. omega (arith, z, told, c.in_err-settings.ensures.answer, number-positive c.in_err-settings.field-0.0))

pub returns-then-vector-columns : goal.returns-then-vector-columns
returns-then-vector-columns c =
    let s = c.in_ok-settings.settings in
    let same = c.in_ok-settings.ensures.same in
    rw (sym same.0, sym same.1, sym same.2)
    (checks_length s.n s.t s.w c.args.vector.now c.args.output.now s.allowed
    (elim c.then-vector-columns.branch [
      | then-vector-columns-via-then-vector-columns w ↦ inl (ne_eqb _ _ (rw (c.columns-columns.ensures.value, c.size-size.ensures.value) at w.if-vector-columns.true))
      | then-vector-columns-via-else-vector-columns+then-output-count w ↦
          inr (lt-ltb _ _ (rw (c.check_count-count.ensures.value, c.size-size.ensures.value) at w.if-output-count.true))
    ]))

pub returns : goal.returns
returns c =
    let s = c.in_ok-settings.settings in
    let same = c.in_ok-settings.ensures.same in
    rw (sym same.0, sym same.1, sym same.2)
    (checks_done s.n s.t s.w c.args.vector.now c.args.output.now _ s.allowed
    (rw (c.columns-columns.ensures.value, c.size-size.ensures.value) at c.if-vector-columns.false)
    (rw (c.check_count-count.ensures.value, c.size-size.ensures.value) at c.if-output-count.false) c.put_checks.ensures)
