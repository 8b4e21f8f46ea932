use mathlib.Core.Path.{◌≡◌}
use lib.ListN.{length}
use Rattle.code.specs.Size.{value_room, locator_rows}
use Rattle.search.specs.Steps.{ShortAll}
use Rattle.search.proofs.locators.seek_short.Given as goal

abbrev pub invariant-loop-p : goal.invariant-loop-p
invariant-loop-p l = (length l.roots ≡ value_room) × (length l.rows ≡ locator_rows) × ShortAll l.p l.count l.sums l.roots l.rows
