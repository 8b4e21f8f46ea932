-- What the decoder holds of its states. Assumes nothing: these are definitions.
use Rattle.std.specs.Prelude.{◌≡◌, List, ℕ, ◌-◌, ◌<◌, length, get_or, drop}
use Rattle.field.specs.Field.{power}
use Rattle.lanes.specs.Lanes.{in_row}
use Rattle.code.specs.Size.{plane_room, value_room}
use Rattle.code.specs.Polynomial.{scaled}
use Rattle.locator.specs.Locator.{State, massey}
use Rattle.locator.specs.declared.locators.Locator.{Locator}

-- where a locator of so many roots starts in its array
abbrev pub start_of : (size : ℕ) → ℕ
start_of size = plane_room - 1 - size

-- a plane's locator is that of a state: it stands at its array's end, zeros in front of it, and the one before it at the other's end, but
-- for a factor
pub record Reaches (state : State) (plane : Locator) : Type 0 where
  pub long : length plane.coefficients ≡ plane_room
  pub long_before : length plane.before ≡ plane_room
  pub size : plane.size ≡ state.size
  pub blank : (i : ℕ) → i < start_of plane.size → get_or plane.coefficients i 0 ≡ 0
  pub coefficients : drop (start_of plane.size) plane.coefficients ≡ state.locator
  pub scaled_before : scaled (power 2 plane.scale) (drop plane.from plane.before) ≡ state.before

-- plane p's power sums
abbrev pub sums_of : (p : ℕ) → (sums : List ℕ) → ℕ → ℕ
sums_of p sums i = get_or sums (in_row i p) 0

-- plane p's locator after its first k power sums
abbrev pub Comes : (k p : ℕ) → (sums : List ℕ) → Locator → Type 0
Comes k p sums plane = Reaches (massey (sums_of p sums) k) plane

-- each plane has come as far as it is said
abbrev pub AllCome : (far : ℕ → ℕ) → (sums : List ℕ) → List Locator → Type 0
AllCome far sums planes = (p : ℕ) (default : Locator) → p < length planes → Comes (far p) p sums (get_or planes p default)

-- the first planes' locators of so many power sums
pub record AllLocated (planes many : ℕ) (sums : List ℕ) (all : List Locator) : Type 0 where
  pub long : length all ≡ value_room
  pub each : (p : ℕ) (default : Locator) → p < planes → Comes many p sums (get_or all p default)
