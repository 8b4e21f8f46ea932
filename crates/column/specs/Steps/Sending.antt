-- What of a record goes into a frame. Assumes nothing: these are definitions.
use Rattle.std.specs.Prelude.{[], ℕ}
use Rattle.record.specs.declared.Identity.{Identity}
use Rattle.record.specs.declared.Findings.{Findings}
use Rattle.record.specs.declared.Column.{Column}

-- a record by this alone: who the column is, its round and what it has found
abbrev pub speaking : Identity → (round : ℕ) → Findings → Column
speaking i m f = record { who = i; slots = []; early = []; found = f; round = m; refused = [] }
