-- `close` meets its contract: refused, the record is as before; else what was found, the early frames in the slots, and one round on.
-- Assumes nothing.
use mathlib.Core.Path.{◌≡◌, refl, sym, ◌∙◌, ap, subst}
use mathlib.Core.List.{List}
use Prim.Native.Nat.{◌+◌}
use native.Mathlib.Omega.{arith}
use Rattle.std.proofs.lemmas.Result.{err_from_is_err_and}
use Rattle.refusal.proofs.Positive.{number-positive}
use Rattle.record.specs.Refusal.{close_refusal}
use Rattle.column.specs.Call.{closing, Leads}
use Rattle.record.specs.View.{view}
use Rattle.record.specs.Stored.{found_now, one_on}
use Rattle.record.specs.declared.Slot.{Slot}
use Rattle.record.specs.declared.Findings.{Findings}
use Rattle.record.specs.declared.Column.{Column}
use Rattle.record.proofs.Refusal.{close_round}
use Rattle.column.proofs.Step.{refused_says, leads_closing}
use Rattle.column.proofs.close.Goals as goal
use Rattle.column.proofs.close.Goals.{In_ok-check_close}

pub returns-in_err-check_close : goal.returns-in_err-check_close
unfolding view close_refusal
returns-in_err-check_close c =
    let p = err_from_is_err_and c.from_residual.result c.from_residual.ensures.1 in
    rw (p.1, p.2) (refused_says _ _ c.in_err-check_close.ensures.answer (λ z. omega (arith, number-positive c.in_err-check_close.field-0.0)))

passed : (c : In_ok-check_close) → close_refusal (view c.args.column.now) ≡ 0
unfolding view close_refusal
passed c = sym c.in_ok-check_close.ensures.answer

pub found_after-found-requires : goal.found_after-found-requires
found_after-found-requires c = passed (goal.at.found_after-found-requires c).In_ok-check_close

pub overflow_add-column : goal.overflow_add-column
unfolding view
overflow_add-column c = omega (arith, close_round (view c.args.column.now) (passed (goal.at.overflow_add-column c).In_ok-check_close))

-- a column one round on, the room for early frames as it is made
abbrev with_room : Column → Findings → List Slot → Column
with_room c f slots = record { who = c.who; slots = c.early; early = slots; found = f; round = c.round + 1; refused = c.refused }

pub returns : goal.returns
unfolding view one_on
returns c =
    let a = c.args.column.now in
    let f = c.found_after-found.result in
    let finds = c.found_after-found.ensures in
    let zero = passed (goal.at.returns c).In_ok-check_close in
    let now : with_room a f c.no_slots-none.result ≡ one_on a f = ap (with_room a f) c.no_slots-none.ensures in
    record {
      answered = sym zero;
      reads =
          subst (λ (q : Column). Leads closing (view a) (view q)) (sym now)
          (leads_closing a.round (view a) (view (one_on a f)) zero refl finds.reads);
      done =
          λ z.
          now ∙ ap (one_on a) finds.bytes ∙ ap (λ (q : Column). one_on a (found_now a.round a.found (view q).found)) (sym now);
      refused = λ z. absurd (z refl);
    }
