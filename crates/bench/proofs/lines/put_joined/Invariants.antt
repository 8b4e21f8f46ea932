use Rattle.std.proofs.Common.{◌≡◌, ◌++◌, drop}
use Rattle.bench.specs.Listing.{pointed, joined}
use Rattle.bench.proofs.lines.put_joined.Given as goal

abbrev pub invariant-loop-i : goal.invariant-loop-i
invariant-loop-i l = l.text ++ pointed (drop l.i l.bytes) ≡ l.fn.text ++ joined l.bytes
