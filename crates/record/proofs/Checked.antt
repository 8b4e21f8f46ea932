-- Settings that a check hands on are those of their numbers. Assumes nothing.
use mathlib.Core.Path.{◌≡◌}
use Prim.Native.Nat.{ℕ}
use Rattle.code.specs.Settings.{settings}
use Rattle.code.specs.declared.settings.Settings.{Settings}
use Rattle.record.specs.Steps.Checked.{SettingsAre}

pub settings_are : (n t w : ℕ) (s : Settings) → SettingsAre n t w s → settings s.n s.t s.w ≡ settings n t w
settings_are n t w s e = rw (e.0, e.1, e.2)
