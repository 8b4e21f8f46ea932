-- `step_all` meets its contract: the planes below p have taken power sum k, and the others have it to come. Assumes nothing.
use native.Mathlib.Omega.{arith}
use Rattle.locator.proofs.Locator.AllReached.{none_taken, all_taken, to_step, stepped}
use Rattle.locator.proofs.berlekamp.step_all.Goals as goal

pub loop-p-init : goal.loop-p-init
loop-p-init c = none_taken c.args.k _ _ c.requires.all_come

pub step-requires-clause-comes : goal.step-requires-clause-comes
step-requires-clause-comes c = to_step c.args.k _ _ c.loop-p.p c.loop-p.invariant (omega arith) _

pub loop-p-preserved : goal.loop-p-preserved
loop-p-preserved c = stepped c.args.k _ _ c.loop-p.p c.loop-p.invariant (omega arith) _ c.step.ensures

pub returns : goal.returns
returns c = all_taken c.args.k _ _ c.loop-p.p (omega arith) c.loop-p.invariant
