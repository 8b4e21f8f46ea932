-- `doublings` meets its contract: one doubling more with each turn. Assumes nothing.
use Rattle.lanes.proofs.Bits.{doublings_one}
use Rattle.lanes.proofs.doublings.Goals as goal

pub loop-k-init : goal.loop-k-init
loop-k-init c = doublings_one _ _ (λ p. (c.type_inv.value p).fits) c.first_rows-rows.ensures
