-- `listing` meets its contract: the settings, then the lines. Assumes nothing.
use mathlib.Core.Path.{sym, ◌∙◌, ap, ap₂}
use mathlib.Core.List.{List, ◌++◌}
use Prim.Native.Nat.{ℕ}
use Rattle.code.specs.Settings.{Settings}
use Rattle.grading.specs.Held.{Held}
use Rattle.bench.specs.Listing.{group_line, column_lines, listing}
use Rattle.bench.specs.Steps.Finished.{record_of}
use Rattle.bench.proofs.lines.listing.Goals as goal

pub returns : goal.returns
unfolding listing
returns c file f h finished =
    let held : ℕ → List Held = λ k. (record_of c.args.columns.now k).found.held in
    c.put_columns.ensures file f h finished
    ∙ ap₂ ◌++◌ (c.put_group.ensures.put ∙ ap group_line (sym h.settings)) (ap (λ (s : Settings). column_lines f held s.n 1) (sym h.settings))
