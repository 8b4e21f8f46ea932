-- `agreeing` counts at most one for each second factor. Assumes nothing.
use Rattle.std.proofs.Common.{◌≤◌}
use Rattle.all_products.proofs.agreeing.Given as goal

abbrev pub invariant-loop-b : goal.invariant-loop-b
invariant-loop-b l = l.count ≤ l.b
