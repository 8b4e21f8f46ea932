-- A column that has finished, as the listing needs it. Assumes nothing: these are definitions.
use Rattle.std.specs.Prelude.{◌≡◌, true, List, [], ℕ, ◌-◌, ◌≤◌, get_or}
use Rattle.code.specs.Settings.{Settings}
use Rattle.record.specs.Record.{Rec}
use Rattle.record.specs.Refusal.{ask_refusal}
use Rattle.record.specs.View.{settings_of, view}
use Rattle.record.specs.declared.Column.{Column}
use Rattle.bench_file.specs.Scenario.{Scenario, is_good}

-- its result is answered, with the group's settings
pub record Finished (s : Settings) (c : Column) : Type 0 where
  pub answered : ask_refusal (view c) ≡ 0
  pub settings : settings_of c.who ≡ s

-- what stands for a column past the last
abbrev pub column_past : Column
column_past =
    record {
      who = record { n = 0; t = 0; w = 0; number = 0; run = 0; own = [] };
      slots = [];
      early = [];
      found = record { heard = []; agreed = []; values = []; confidences = []; told_two = []; told_three = [] };
      round = 0;
      refused = [];
    }

-- the record of a column, of all that the program holds
unfoldable pub record_of : List Column → (column : ℕ) → Rec
record_of cs k = view (get_or cs (k - 1) column_past)

-- every good column has finished
unfoldable pub AllFinished : Scenario → List Column → Type 0
AllFinished f cs = (k : ℕ) → 1 ≤ k → k ≤ f.settings.n → is_good f k ≡ true → Finished f.settings (get_or cs (k - 1) column_past)
