-- `is_before` meets its contract: the bytes passed are the same, so the first that differ decide. Assumes nothing.
use mathlib.Core.Path.{◌≡◌, sym, ◌∙◌}
use native.Mathlib.Omega.{arith}
use Rattle.counting.specs.Steps.Table.{byte_in}
use Rattle.counting.proofs.Bytewise.{before_on, before_first, before_end}
use Rattle.counting.proofs.table.Rows.is_before.Goals as goal

pub returns-then-a-b : goal.returns-then-a-b
unfolding byte_in
returns-then-a-b c = sym (c.loop-p.invariant ∙ before_first _ _ _ _ _ c.loop-p.p (omega arith) c.if-a-b.true)

pub loop-p-preserved : goal.loop-p-preserved
unfolding byte_in
loop-p-preserved c = c.loop-p.invariant ∙ before_on _ _ _ _ _ c.loop-p.p (omega arith) (omega arith)

pub returns : goal.returns
returns c =
    let e : c.loop-p.p ≡ c.args.self.now.w = omega arith in
    sym ((rw e at c.loop-p.invariant) ∙ before_end _ _ _ _ _)
