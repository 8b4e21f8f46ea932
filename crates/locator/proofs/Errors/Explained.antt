-- Errors that the locator tells, and errors that explain power sums: on the way from the one to the other a codeword near is found.
-- Assumes nothing: these are definitions.
use mathlib.Core.Path.{◌≡◌}
use mathlib.Core.List.{List}
use Prim.Native.Nat.{ℕ, ◌+◌, ◌<◌, ◌≤◌}
use lib.ListN.{length, get_or}
use Rattle.field.specs.Field.{plus, power}
use Rattle.code.specs.Settings.{Settings, check_count}
use Rattle.code.proofs.Codewords.PowerSum.{power_sum}
use Rattle.locator.specs.Locator.{massey, value}
use Rattle.locator.specs.Errors.{place_exponent, wrong_places}
use Rattle.locator.proofs.Errors.Places.{placed}

-- the weighted errors that the locator of the power sums S tells
pub record Located (s : Settings) (S : ℕ → ℕ) (weighted : List ℕ) : Type 0 where
  pub many : length weighted ≡ s.n + check_count s
  pub each : (j : ℕ) → j < s.n + check_count s → get_or weighted j 0 ≡ value S (massey S (check_count s)).locator (power 2 (place_exponent s.n (check_count s) j))

-- at most t errors, and S is what they sum up to
pub record Explained (s : Settings) (S : ℕ → ℕ) (weighted : List ℕ) : Type 0 where
  pub few : wrong_places weighted ≤ s.t
  pub sums : (i : ℕ) → i < check_count s → plus (S i) (power_sum i (placed s 0 weighted)) ≡ 0
