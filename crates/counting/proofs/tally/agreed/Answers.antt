-- `agreed` meets its contract: of each column the value that is found so often is its entry in Y. Assumes nothing.
use native.Mathlib.Omega.{arith}
use Rattle.code.specs.Settings.{settings}
use Rattle.grading.specs.Count.{agreed_vector}
use Rattle.counting.proofs.Placed.{stores_as}
use Rattle.counting.proofs.Tallied.{agreed_value}
use Rattle.counting.proofs.tally.agreed.Goals as goal

pub returns : goal.returns
unfolding agreed_vector settings
returns c =
    let r = c.args.rows.now in
    let t = c.args.t in
    stores_as r.n t r.w _ _ _ (λ k h. agreed_value r.n t r.w r.table.now k h _ (c.find-standings.ensures k h) (omega arith)) c.values_from.ensures
