-- `all_agreeing` counts at most 256 for each first factor. Assumes nothing.
use Rattle.std.proofs.Common.{◌*◌, ◌≤◌}
use Rattle.all_products.proofs.all_agreeing.Given as goal

abbrev pub invariant-loop-a : goal.invariant-loop-a
invariant-loop-a l = l.count ≤ 256 * l.a
