use mathlib.Core.Path.{◌≡◌}
use Rattle.code.specs.Size.{value_room}
use Rattle.code.specs.Settings.{settings}
use Rattle.errors.specs.Roots.{Longest}
use Rattle.search.specs.Steps.{Walked}
use Rattle.search.proofs.places.try_places.Given as goal

abbrev pub invariant-loop-j : goal.invariant-loop-j
invariant-loop-j l =
    (l.turns ≡ l.j) × Walked l.j (settings l.fn.settings.n l.fn.settings.t value_room) l.polynomials.rows.now l.initial.left l.left l.tried l.rows
    × Longest l.tried l.j
