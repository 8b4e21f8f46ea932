-- The settings that a check hands on. Assumes nothing: these are definitions.
use Rattle.std.specs.Prelude.{◌≡◌, ℕ}
use Rattle.code.specs.declared.settings.Settings.{Settings}

-- settings of these numbers
abbrev pub SettingsAre : (n t w : ℕ) → Settings → Type 0
SettingsAre n t w s = (s.n ≡ n) × (s.t ≡ t) × (s.w ≡ w)
