-- `halfway` meets its contract: the sum of two numbers of 32 bits is one of 33, and so is its half. Assumes nothing.
use native.Mathlib.Omega.{arith}
use mir.Facts.{to_z-of_z}
use Rattle.level.proofs.Integers.{stored, halfway_is}
use Rattle.level.proofs.heights.halfway.Goals as goal

pub returns : goal.returns
returns c =
    let a = c.args in
    let read = c.ranges in
    halfway_is a.low a.high read.low.sfits read.high.sfits c.div_euclid.result
    (simp (c.from.ensures, c.from-2.ensures, to_z-of_z read.low, to_z-of_z read.high, stored a.low (omega arith), stored a.high (omega arith)) at c.div_euclid.ensures)
