-- What a call's result says where the definitions of Entry speak of a record or of numbers. Assumes nothing: these are definitions.
use Rattle.std.specs.Prelude.{ℕ, Option, None, Some, Result, Ok, Err}
use Rattle.refusal.specs.declared.Refusal.{Refusal}
use Rattle.refusal.specs.Number.{number_of}
use Rattle.record.specs.Stored.{no_holdings, no_column}
use Rattle.record.specs.declared.Column.{Column}
use Rattle.record.specs.declared.Holdings.{Holdings}
use Rattle.column.specs.declared.holdings.Verdict.{Verdict}

-- the record that was opened; none, the one whose bytes are all 0
abbrev pub opened_record : Result Column Refusal → Column
opened_record (Ok c) = c
opened_record (Err e) = no_column

-- the length of a frame; none, 0
abbrev pub size_or_none : Option ℕ → ℕ
size_or_none (Some n) = n
size_or_none None = 0

-- what is handed out, under 0; refused, the number and zeros
abbrev pub holdings_of : Result Verdict Refusal → Holdings
holdings_of (Ok v) =
    record { answer = 0; values = v.values; confidences = v.confidences; told_two = v.told_two; told_three = v.told_three }
holdings_of (Err e) = no_holdings (number_of e)
