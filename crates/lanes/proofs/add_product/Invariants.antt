use mathlib.Core.Path.{◌≡◌}
use Prim.Native.Nat.{ℕ}
use lib.ListN.{length}
use Rattle.lanes.specs.Lanes.{Doublings}
use Rattle.lanes.proofs.Bits.{BitsLeft, with_product}
use Rattle.lanes.proofs.add_product.Given as goal

abbrev pub invariant-loop-k : goal.invariant-loop-k
invariant-loop-k l =
    (length l.rows ≡ length l.initial.rows)
    × ((f : ℕ → ℕ) → Doublings 8 f l.doublings → BitsLeft l.k l.left l.at l.doublings l.initial.rows l.rows (with_product l.at l.constant f l.initial.rows))
