-- `frame_size` meets its contract: the lines of closing are those under which `send` turns the record down. Assumes nothing.
use mathlib.Core.Path.{refl, sym, ◌∙◌, ap}
use native.Mathlib.Omega.{arith}
use Rattle.arrays.proofs.Bool.{true_not_false}
use Rattle.refusal.proofs.Positive.{number-positive}
use Rattle.code.specs.Settings.{Settings}
use Rattle.record.specs.Frame.{frame_size}
use Rattle.record.specs.Refusal.{close_refusal}
use Rattle.record.specs.View.{settings_of, view}
use Rattle.record.proofs.Checked.{settings_are}
use Rattle.column.proofs.frame_size.Goals as goal

pub returns-in-Ok-clause-size : goal.returns-in-Ok-clause-size
unfolding view close_refusal settings_of
returns-in-Ok-clause-size c =
    let column = c.args.column.now in
    let who = column.who in
    record {
      done = λ z. c.frame_size.ensures.0 ∙ ap (λ (s : Settings). frame_size s column.round) (settings_are who.n who.t who.w c.in-Ok.settings c.in-Ok.ensures.same);
      refused = λ z. absurd (z (sym c.in-Ok.ensures.answer));
    }

pub returns-in-Err-clause-size : goal.returns-in-Err-clause-size
unfolding view close_refusal
returns-in-Err-clause-size c =
    let e = c.in-Err.ensures.answer in
    record { done = λ z. absurd (omega (arith, e ∙ z, number-positive c.in-Err.field-0)); refused = λ z. refl }

pub returns-in-Ok-clause-some : goal.returns-in-Ok-clause-some
unfolding view close_refusal
returns-in-Ok-clause-some c = (λ z. sym c.in-Ok.ensures.answer, λ z. refl)

pub returns-in-Err-clause-some : goal.returns-in-Err-clause-some
unfolding view close_refusal
returns-in-Err-clause-some c =
    let e = c.in-Err.ensures.answer in
    (λ z. true_not_false (sym z), λ z. absurd (omega (arith, e ∙ z, number-positive c.in-Err.field-0)))
