-- `put_errors` meets its contract: plane after plane. Assumes nothing.
use native.Mathlib.Omega.{arith}
use lib.ListN.{get_or}
use Rattle.errors.proofs.Told.{put_more}
use Rattle.errors.proofs.weighted.put_errors.Goals as goal

pub loop-p-preserved : goal.loop-p-preserved
loop-p-preserved c =
    put_more _ _ _ (λ q. get_or c.args.errors.now q 0) _ _ c.loop-p.invariant (omega arith) c.marked_error.ensures
