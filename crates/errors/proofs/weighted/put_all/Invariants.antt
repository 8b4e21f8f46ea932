use mathlib.Core.Path.{◌≡◌}
use mathlib.Core.List.{List}
use Prim.Native.Nat.{ℕ, ◌<◌}
use lib.ListN.{length, get_or}
use Rattle.code.specs.Size.{value_room, place_rows}
use Rattle.errors.specs.Errors.{ErrorsTold}
use Rattle.errors.proofs.weighted.put_all.Given as goal

abbrev pub invariant-loop-j : goal.invariant-loop-j
invariant-loop-j g l =
    (length l.weighted ≡ place_rows)
    × ((error : (j p : ℕ) → ℕ) → ((j p : ℕ) → error j p < 256) →
    ((j : ℕ) (errors : List ℕ) → j < l.turns → goal.F-post g l.errors_at j errors → (p : ℕ) → p < value_room → get_or errors p 0 ≡ error j p) →
    ErrorsTold l.j error l.initial.weighted l.weighted)
