-- `by_difference` meets its contract: no difference, a plane in which roots are left, or errors that are applied and counted. Assumes nothing.
use mathlib.Core.List.{List, ◌++◌}
use mathlib.Core.Path.{ap, sym, ◌∙◌}
use Prim.Native.Nat.{ℕ}
use native.Mathlib.Omega.{arith}
use lib.ListN.{length, drop}
use Rattle.arrays.proofs.Zeros.{zero_at}
use Rattle.arrays.specs.Array.{in_front}
use Rattle.code.specs.Settings.{settings, check_count, value_size}
use Rattle.code.specs.Entry.{values_in}
use Rattle.arrays.proofs.Bytes.{Bytes, bytes_every}
use Rattle.code.proofs.ValidSettings.{bounds}
use Rattle.repair.specs.Entry.{none_found, RepairByAs}
use Rattle.repair.proofs.Difference.Rows.{ChecksApart, some_bad}
use Rattle.repair.proofs.Answer.{answer_none, answer_found}
use Rattle.repair.proofs.SameChecks.{answer_same}
use Rattle.repair.proofs.by_difference.Goals as goal
use Rattle.repair.proofs.by_difference.Goals.{After-difference-difference}

vector_bytes : (d : After-difference-difference) → Bytes d.args.vector.now
vector_bytes d = bytes_every d.args.vector.now (λ i. (d.type_inv.vector i).fits)

apart_by : (d : After-difference-difference) → let s = d.args.settings in ChecksApart s.t s.w d.args.own.now d.args.checks.now d.difference-difference.result
apart_by d =
    record {
      own_bytes = bytes_every d.args.own.now (λ i. (d.type_inv.own i).fits);
      check_bytes = bytes_every d.args.checks.now (λ i. (d.type_inv.checks i).fits);
      own_long = d.requires.checks_len.0;
      checks_long = d.requires.checks_len.1;
      added = rw (d.check_count.ensures.value, d.size.ensures.value) at d.difference-difference.ensures;
    }

pub returns-then-is_zero : goal.returns-then-is_zero
unfolding RepairByAs values_in settings check_count value_size in_front
returns-then-is_zero c =
    let a = c.args in
    let d = (goal.at.returns-then-is_zero c).After-difference-difference in
    rw (c.untried.ensures.0, c.untried.ensures.1, c.untried.ensures.2)
    (answer_same a.settings.n (apart_by d) (zero_at c.difference-difference.result (sym c.is_zero.ensures ∙ c.if-is_zero.true)) a.vector.now a.output.now _
    c.requires.vector_len.0 (vector_bytes d) (ap (λ (bs : List ℕ). bs ++ drop (length a.vector.now) a.output.now) c.copy_from_slice.ensures.after))

pub decode-found-requires : goal.decode-found-requires
decode-found-requires c =
    let s = c.args.settings in
    let rows = c.difference-difference in
    let added = rw (c.check_count.ensures.value, c.size.ensures.value) at rows.ensures in
    some_bad s.t s.w _ _ rows.result (sym c.is_zero.ensures ∙ c.if-is_zero.false) added

pub returns-then-not-is_zero : goal.returns-then-not-is_zero
unfolding RepairByAs values_in settings check_count value_size none_found
returns-then-not-is_zero c =
    let a = c.args in
    let s = a.settings in
    answer_none s.n (apart_by (goal.at.returns-then-not-is_zero c).After-difference-difference) s.allowed _ _ _ _ c.decode-found.ensures a.vector.now a.output.now (sym c.is_zero-2.ensures ∙ c.if-not-is_zero.true)

pub count_changed-changed-requires : goal.count_changed-changed-requires
unfolding settings check_count
count_changed-changed-requires c =
    let z = bounds _ _ _ c.args.settings.allowed in omega (arith, c.decode-found.ensures.ended.within)

pub returns : goal.returns
unfolding RepairByAs values_in settings check_count value_size
returns c =
    let a = c.args in
    let s = a.settings in
    answer_found s.n (apart_by (goal.at.returns c).After-difference-difference) s.allowed _ _ _ _ (bounds _ _ _ s.allowed).3 (sym c.is_zero-2.ensures ∙ c.if-not-is_zero.false)
    c.decode-found.ensures _ a.vector.now a.output.now _ c.count_changed-changed.ensures c.apply_errors.ensures
