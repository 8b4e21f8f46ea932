-- `locate_all` meets its contract: after k turns every plane has taken its first k power sums. Assumes nothing.
use Rattle.locator.proofs.Locator.AllReached.{located_start}
use Rattle.locator.proofs.berlekamp.locate_all.Goals as goal

pub loop-k-init : goal.loop-k-init
loop-k-init c = located_start _ _ c.requires.0 _ c.start-all.ensures
