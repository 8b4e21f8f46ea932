-- `put_from_row` meets its contract: a byte of each plane, one after the other. Assumes nothing.
use mathlib.Core.Path.{sym}
use Prim.Native.Nat.{◌+◌, ◌*◌, ◌≤◌}
use native.Mathlib.Omega.{arith}
use Rattle.arrays.proofs.Written.{written_more}
use Rattle.code.specs.Size.{vector_room}
use Rattle.counting.specs.Steps.Table.{byte_in}
use Rattle.counting.proofs.Placed.{place_fits}
use Rattle.counting.proofs.Planes.{value_byte}
use Rattle.counting.proofs.tally.put_from_row.Goals as goal
use Rattle.counting.proofs.tally.put_from_row.Goals.{Start}

-- the value's place
room : (s : Start) → s.args.k * s.args.rows.now.w + s.args.rows.now.w ≤ vector_room
room s = place_fits s.args.k s.args.rows.now.w s.requires.1 s.args.rows.now.fits.1

pub loop-p-preserved : goal.loop-p-preserved
unfolding byte_in
loop-p-preserved c =
    let l = c.loop-p in
    let a = c.args in
    written_more _ _ _ _ _ _ l.invariant (omega (arith, room (goal.at.loop-p-preserved c).Start))
    (sym (value_byte a.rows.now.w a.rows.now.table.now a.row a.k l.p (omega arith)))
