-- `first_errors` meets its contract: plane after plane. Assumes nothing.
use native.Mathlib.Omega.{arith}
use Rattle.arrays.proofs.Written.{filled_more}
use Rattle.errors.specs.Errors.{error_told}
use Rattle.errors.specs.Fractions.{first_told}
use Rattle.errors.proofs.weighted.first_errors.Goals as goal

pub loop-p-preserved : goal.loop-p-preserved
unfolding error_told
loop-p-preserved c =
    filled_more _ _ _ (λ q. first_told c.args.rows.now c.args.sums.now q) _ c.loop-p.invariant (omega arith) c.marked_error.ensures
