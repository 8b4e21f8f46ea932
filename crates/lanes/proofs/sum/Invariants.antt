use Prim.Native.Nat.{ℕ, ◌≤◌, ◌<◌}
use mathlib.Core.Path.{◌≡◌}
use lib.ListN.{length, get_or}
use Rattle.field.specs.Field.{plus}
use Rattle.lanes.specs.Lanes.{row_width}
use Rattle.lanes.proofs.sum.Given as goal

abbrev pub invariant-loop-p : goal.invariant-loop-p
invariant-loop-p l =
    (length l.a ≡ row_width)
    × ((p : ℕ) → p < l.p → get_or l.a p 0 ≡ plus (get_or l.initial.a p 0) (get_or l.b p 0))
    × ((p : ℕ) → l.p ≤ p → get_or l.a p 0 ≡ get_or l.initial.a p 0)
