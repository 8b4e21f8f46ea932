-- What is promised of rounds of checks. Each statement is a type, and proofs/ has its proof. Assumes nothing.
use Rattle.std.specs.Prelude.{◌≡◌, List, ℕ, ◌<◌, length}
use Rattle.std.proofs.Math.Option.{some}
use Rattle.code.specs.Settings.{Settings, settings_refusal, check_count}
use Rattle.code.specs.Repair.{changed_places, NoRepair}
use Rattle.grading.specs.Value.{Vector}
use Rattle.record.specs.Frame.{checks_in}
use Rattle.record.specs.Record.{told_missing, told_none}
use Rattle.rounds.specs.Exchange.{Row}

-- the marks of a missing frame and of "none" are two, and no numbers of places that a repair can change
unfoldable pub NoMark : Type 0
NoMark =
    (s : Settings) (vs cs us ds : Vector) → settings_refusal s ≡ 0 → length vs ≡ s.n → length cs ≡ check_count s →
    (changed_places vs cs us ds < told_missing) × (told_missing < told_none)

-- so what is told says which it was: of a frame that counted never that it was missing, and "none" just where there is no repair
unfoldable pub ToldApart : Type 0
ToldApart =
    (s : Settings) (vs : Vector) (x : List ℕ) (row : Vector) (m : ℕ) → settings_refusal s ≡ 0 → length vs ≡ s.n → Row s vs (some x) row m →
    (m ≡ told_missing → ⊥) × (m ≡ told_none → NoRepair s vs (checks_in s x)) × (NoRepair s vs (checks_in s x) → m ≡ told_none)
