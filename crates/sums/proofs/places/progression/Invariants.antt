use mathlib.Core.Path.{◌≡◌}
use Prim.Native.Nat.{◌+◌, ◌*◌, ◌<◌}
use lib.ListN.{length}
use Rattle.arrays.specs.Array.{Filled}
use Rattle.field.specs.Field.{power}
use Rattle.sums.proofs.places.progression.Given as goal

abbrev pub invariant-loop-constant : goal.invariant-loop-constant
invariant-loop-constant l =
    (l.exponent < 255) × (power 2 l.exponent ≡ power 2 (l.start + l.constant-index * l.step))
    × Filled (length l.initial.constants) l.constant-index (λ k. power 2 (l.start + k * l.step)) l.constants
