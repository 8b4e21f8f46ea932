use mathlib.Core.Path.{◌≡◌}
use Prim.Native.Nat.{◌≤◌}
use Rattle.repair.specs.Steps.Changed.{wrong_rows}
use Rattle.repair.proofs.changed.count_changed.Given as goal

abbrev pub invariant-loop-k : goal.invariant-loop-k
invariant-loop-k l = (l.changed ≤ l.k) × (l.changed ≡ wrong_rows l.k l.weighted)
