-- `put_checks` meets its contract: what the code wrote is the operand. Assumes nothing.
use mathlib.Core.Path.{◌≡◌, sym, ◌∙◌}
use native.Mathlib.Omega.{arith}
use Rattle.code.specs.Settings.{settings, check_count, value_size}
use lib.ListN.{length, take}
use lib.Seq.{length-take-le}
use Rattle.record.proofs.Front.{checks_written}
use Rattle.rounds.proofs.coded.put_checks.Goals as goal
use Rattle.rounds.proofs.coded.put_checks.Goals.{After-vector_size-end}

part_long : (c : After-vector_size-end) → length (take c.vector_size-end.result c.args.values.now) ≡ c.vector_size-end.result
part_long c = length-take-le _ _ (omega (arith, c.requires.0, c.vector_size-end.ensures))

pub slice_bounds-put_checks-end : goal.slice_bounds-put_checks-end
slice_bounds-put_checks-end c = sym (part_long c)

pub put_checks-requires : goal.put_checks-requires
unfolding settings check_count value_size
put_checks-requires c = (part_long (goal.at.put_checks-requires c).After-vector_size-end ∙ c.vector_size-end.ensures.0, omega (arith, c.requires.1))

pub returns : goal.returns
returns c =
    let a = c.args in
    let s = a.settings in
    checks_written s.n s.t s.w _ a.values.now a.operand.now _ c.vector_size-end.ensures.0 c.requires.1 c.put_checks.ensures
