-- What reading a bench file answers. Assumes nothing: these are definitions.
use Rattle.std.specs.Prelude.{◌≡◌, Result, Ok, Err, List, ℕ, ◌≤◌}
use Rattle.refusal.specs.Number.{number_of}
use Rattle.refusal.specs.declared.Refusal.{Refusal}
use Rattle.bench_file.specs.File.{Parse, refused, parsed}
use Rattle.bench_file.specs.Steps.Places.{Located}
use Rattle.bench_file.specs.declared.places.Places.{Places}

-- the refusal by which it is turned down, or the places of all that it says
unfoldable pub ParsedAs : Parse → (file : List ℕ) → Result Places Refusal → Type 0
ParsedAs (refused n) file (Err e) = (number_of e ≡ n) × (n ≡ 0 → ⊥) × (n ≤ 20)
ParsedAs (refused n) file (Ok p) = ⊥
ParsedAs (parsed f) file (Err e) = ⊥
ParsedAs (parsed f) file (Ok p) = Located file p f
