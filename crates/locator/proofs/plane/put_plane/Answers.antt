-- `put_plane` meets its contract. Assumes nothing.
use mathlib.Core.Path.{◌≡◌, refl}
use native.Mathlib.Omega.{arith}
use Rattle.locator.proofs.Rows.Lanes.{lane_written_more, lane_written_to}
use Rattle.locator.proofs.plane.put_plane.Goals as goal

pub loop-j-preserved : goal.loop-j-preserved
loop-j-preserved c = lane_written_more _ _ _ _ _ _ c.loop-j.invariant (omega arith) refl

pub returns : goal.returns
returns c = lane_written_to (let e : c.loop-j.j ≡ _ = omega arith in e) c.loop-j.invariant
