-- What the result hands out of what a column has found. Assumes nothing: these are definitions.
use Rattle.std.specs.Prelude.{◌≡◌, ℕ, take}
use Rattle.arrays.specs.Array.{padded}
use Rattle.code.specs.Size.{most_columns, vector_room}
use Rattle.record.specs.declared.Findings.{Findings}
use Rattle.column.specs.declared.holdings.Verdict.{Verdict}

-- so many bytes of the values, and so many of each list, zeros behind them
unfoldable pub Fronts : Findings → (size many : ℕ) → Verdict → Type 0
Fronts f size many v =
    v
    ≡ record {
      values = padded vector_room (take size f.values);
      confidences = padded most_columns (take many f.confidences);
      told_two = padded most_columns (take many f.told_two);
      told_three = padded most_columns (take many f.told_three);
    }
