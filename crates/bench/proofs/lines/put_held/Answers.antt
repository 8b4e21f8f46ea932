-- `put_held` meets its contract: the space, the value, the slash and the confidence. Assumes nothing.
use mathlib.Core.Path.{ap}
use mathlib.Core.List.{append_assoc}
use Prim.Native.Nat.{ℕ}
use native.Mathlib.Omega.{arith}
use lib.ListN.{length, length-append}
use Rattle.grading.specs.Held.{held_as}
use Rattle.bench.specs.Listing.{held_text}
use Rattle.bench.proofs.lines.put_held.Goals as goal

pub put_value-requires : goal.put_value-requires
unfolding held_text held_as
put_value-requires c = omega (arith, c.requires, length-append {A = ℕ}, ap length c.put_byte.ensures)

pub put_marked-requires : goal.put_marked-requires
unfolding held_text held_as
put_marked-requires c =
    rw c.from.ensures
    (omega (arith, c.requires, c.ranges.confidence, length-append {A = ℕ}, ap length c.put_byte.ensures, ap length c.put_value.ensures))

pub returns : goal.returns
unfolding held_text held_as
returns c = rw (c.put_marked.ensures, c.put_value.ensures, c.put_byte.ensures, c.from.ensures) (simp append_assoc)
