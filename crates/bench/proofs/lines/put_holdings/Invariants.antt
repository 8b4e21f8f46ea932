use Rattle.std.proofs.Common.{◌≡◌, ◌++◌, ◌-◌}
use Rattle.grading.specs.Value.{entries}
use Rattle.grading.specs.Held.{held_in}
use Rattle.bench_file.specs.Steps.Places.{group_of}
use Rattle.bench.specs.Listing.{holdings_text}
use Rattle.bench.proofs.Listing.Wording.{held_entry}
use Rattle.bench.proofs.lines.put_holdings.Given as goal

abbrev pub invariant-loop-j : goal.invariant-loop-j
invariant-loop-j l =
    l.text ++ holdings_text (entries (l.n - l.j) l.j (held_entry l.n l.w l.values l.confidences))
    ≡ l.fn.text ++ holdings_text (held_in (group_of l.fn.settings) l.values l.confidences)
