-- `check_value` meets its contract: the value of an own command is the bytes behind its two. Assumes nothing.
use mathlib.Core.Path.{◌≡◌, refl, sym, ◌∙◌}
use mathlib.Core.Bool.{cond}
use Prim.Native.Nat.{◌+◌, ◌-◌}
use native.Mathlib.Omega.{arith}
use lib.ListN.{take, drop}
use Rattle.record.specs.Refusal.{line, blank_refusal}
use Rattle.grading.proofs.Value.{all_zero_blank}
use Rattle.bench_file.specs.Steps.Places.{group_of}
use Rattle.bench_file.specs.Steps.CommandAt.{code_of, value_fault}
use Rattle.bench_file.proofs.OneCommand.Faults.{own_size, not_own}
use Rattle.bench_file.proofs.commands.Command.check_value.Goals as goal
use Rattle.bench_file.proofs.commands.Command.check_value.Goals.{After-is_zero}

pub slice_bounds-is_zero-end : goal.slice_bounds-is_zero-end
slice_bounds-is_zero-end c =
    let fits = rw (c.in-Own.is, own_size (group_of c.args.settings)) at c.requires in
    omega (arith, fits, c.size.ensures.value)

-- the value's bytes
own :
    (c : After-is_zero) →
    let a = c.args in value_fault a.file.now a.at (code_of a.self) a.settings.w ≡ cond c.is_zero.result 6 0
unfolding value_fault blank_refusal line
own c =
    let a = c.args in
    let size : a.at + 2 + a.settings.w - (a.at + 2) ≡ a.settings.w = omega arith in
    rw c.in-Own.is (simp (c.is_zero.ensures ∙ all_zero_blank (take (a.at + 2 + c.size.result - (a.at + 2)) (drop (a.at + 2) a.file.now)), c.size.ensures.value, size))

pub returns-then-is_zero : goal.returns-then-is_zero
returns-then-is_zero c = sym (own (goal.at.returns-then-is_zero c).After-is_zero ∙ simp c.if-is_zero.true)

pub returns-else-is_zero : goal.returns-else-is_zero
returns-else-is_zero c = sym (own (goal.at.returns-else-is_zero c).After-is_zero ∙ simp c.if-is_zero.false)

pub returns-in_default : goal.returns-in_default
unfolding value_fault
returns-in_default c = rw (not_own c.args.self c.in_default.not-Own) refl
