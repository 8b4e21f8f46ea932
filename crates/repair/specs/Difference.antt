-- Repair by the difference of check values. Assumes nothing: these are definitions.
use Rattle.std.specs.Prelude.{List, [], ◌∷◌, replicate, ℕ}
use Rattle.code.specs.Settings.{Settings, value_size}
use Rattle.code.specs.Polynomial.{added}

-- values added byte by byte, which is also their difference
unfoldable pub plus_values : (vs us : List (List ℕ)) → List (List ℕ)
plus_values [] us = us
plus_values (v ∷ vs) [] = v ∷ vs
plus_values (v ∷ vs) (u ∷ us) = added v u ∷ plus_values vs us

-- the vector of zero bytes
unfoldable pub zeros : Settings → List (List ℕ)
zeros s = replicate s.n (replicate (value_size s) 0)
