-- What `level` answers. Assumes nothing: these are definitions.
use Rattle.std.specs.Prelude.{◌≡◌, ℕ, ℤ, pos}
use Rattle.record.specs.View.{view}
use Rattle.record.specs.declared.Column.{Column}
use Rattle.level.specs.Level.{level_of, correction_of, level_refusal}

-- `level`: the refusal that applies and two zeros, or 0 with the level and the correction
pub record LevelSays (c : Column) (answer : ℕ) (level correction : ℤ) : Type 0 where
  pub answered : answer ≡ level_refusal (view c)
  pub level_done : answer ≡ 0 → level ≡ level_of (view c).who.settings (view c).found.held
  pub correction_done : answer ≡ 0 → correction ≡ correction_of (view c)
  pub level_refused : (answer ≡ 0 → ⊥) → level ≡ pos 0
  pub correction_refused : (answer ≡ 0 → ⊥) → correction ≡ pos 0
