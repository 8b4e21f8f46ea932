-- `repair` meets its contract: the own check values are worked out, and the vector is repaired by the difference to them.
-- Assumes nothing.
use mathlib.Core.Path.{◌≡◌, sym, ◌∙◌, subst}
use mathlib.Core.Bool.{true}
use Prim.Native.Nat.{ℕ, ◌*◌, ◌≤◌}
use native.Mathlib.Omega.{arith}
use lib.ListN.{length, take}
use lib.Seq.{length-take-le}
use Rattle.refusal.proofs.Positive.{number-positive}
use Rattle.code.specs.Size.{checks_room}
use Rattle.code.specs.Settings.{settings, settings_refusal, check_count}
use Rattle.code.specs.Vector.{has_checks}
use Rattle.code.specs.Entry.{values_in}
use Rattle.arrays.proofs.Bytes.{bytes_every}
use Rattle.code.proofs.ValidSettings.{check_room, sizes}
use Rattle.repair.specs.Entry.{RepairAs, RepairByAs}
use Rattle.repair.specs.Promise.{ByOwnChecks}
use Rattle.repair.proofs.Difference.ByOwnChecks.{by_own_checks}
use Rattle.repair.proofs.Difference.OwnChecks.{own_checks, is_vector_in, are_checks_in}
use Rattle.repair.proofs.Entry.{repair_refused, repair_done}
use Rattle.repair.proofs.repair.Goals as goal

room : (n t w : ℕ) → settings_refusal (settings n t w) ≡ 0 → 2 * t * w ≤ checks_room
unfolding settings
room n t w e = let z = sizes (settings n t w) e in check_room t w (omega (arith, z.few_columns, z.few_bad)) z.few_bytes

pub put_checks-requires : goal.put_checks-requires
put_checks-requires c = (c.in-Ok.ensures.lengths.0, room _ _ _ c.in-Ok.settings.allowed)

pub slice_bounds-own-end : goal.slice_bounds-own-end
slice_bounds-own-end c = omega (arith, c.in-Ok.ensures.lengths, room _ _ _ c.in-Ok.settings.allowed, c.put_checks.auto.output)

pub slice_bounds-by_difference-end : goal.slice_bounds-by_difference-end
slice_bounds-by_difference-end c = sym (length-take-le _ _ (omega (arith, c.in-Ok.ensures.lengths, room _ _ _ c.in-Ok.settings.allowed, c.put_checks.auto.output)))

pub by_difference-requires-clause-checks_len : goal.by_difference-requires-clause-checks_len
by_difference-requires-clause-checks_len c =
    let long = c.in-Ok.ensures.lengths.1 in
    (length-take-le (length c.args.checks.now) c.put_checks.new.output (omega (arith, long, room _ _ _ c.in-Ok.settings.allowed, c.put_checks.auto.output)) ∙ long, long)

pub returns-in-Err : goal.returns-in-Err
returns-in-Err c =
    let a = c.args in
    repair_refused a.n a.t a.w a.vector.now a.checks.now a.output.now _ _ _ _ (c.number.ensures ∙ c.in-Err.ensures.answer)
    (λ z. omega (arith, number-positive c.in-Err.refusal, c.number.ensures, z)) c.untried.ensures

pub returns-in-Ok : goal.returns-in-Ok
unfolding ByOwnChecks RepairAs RepairByAs settings check_count
returns-in-Ok c =
    let a = c.args in
    let s = settings a.n a.t a.w in
    let same = c.in-Ok.ensures.same in
    let long = rw (same.0, same.1, same.2) at c.in-Ok.ensures.lengths in
    let done = rw (same.0, same.1, same.2) at c.by_difference.ensures in
    let own = c.put_checks in
    let put = rw (same.0, same.1, same.2) at own.ensures in
    repair_done a.n a.t a.w a.vector.now a.checks.now a.output.now _ _ _ _ (sym c.in-Ok.ensures.answer)
    (by_own_checks s (values_in s a.n a.vector.now) (values_in s (2 * a.t) (take (length a.checks.now) own.new.output))
    (values_in s (2 * a.t) a.checks.now) _ _ _ _ _
    (is_vector_in a.n a.t a.w a.vector.now long.0 (bytes_every a.vector.now (λ i. (c.type_inv.vector i).fits)))
    (subst (λ (k : ℕ). has_checks s (values_in s a.n a.vector.now) (values_in s (2 * a.t) (take k own.new.output)) ≡ true) (sym long.1)
    (own_checks a.n a.t a.w a.vector.now _ _ put))
    (are_checks_in a.n a.t a.w a.checks.now long.1 (bytes_every a.checks.now (λ i. (c.type_inv.checks i).fits)))
    done)
