-- `copy_to` meets its contract: the bytes in front are the text. Assumes nothing.
use mathlib.Core.Path.{refl, sym}
use native.Mathlib.Omega.{arith}
use Rattle.arrays.specs.Array.{in_front}
use Rattle.bench.proofs.Listing.Text.{view_size}
use Rattle.bench.proofs.printing.Text.copy_to.Goals as goal

pub returns : goal.returns
unfolding in_front
returns c =
    let s = c.self.inside in
    let size = view_size s.size s.bytes c.args.self.now c.self.view_is (omega arith) in
    (rw (c.copy_from_slice.ensures.after, c.self.view_is, size) refl, sym size)
