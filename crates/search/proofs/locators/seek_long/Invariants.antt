use Prim.Native.Nat.{◌*◌}
use Rattle.search.specs.Steps.{AllSought}
use Rattle.search.proofs.locators.seek_long.Given as goal

abbrev pub invariant-loop-p : goal.invariant-loop-p
invariant-loop-p l = AllSought l.p (2 * l.settings.t) l.settings.t l.sums l.roots l.rows
