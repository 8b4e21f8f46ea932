-- `main` is safe and ends: as many bytes are written as the bench answered, which are never more than the output has. Assumes nothing.
use Rattle.std.proofs.Common.{sym}
use lib.Seq.{length-take-le}
use Rattle.bench.proofs.Listing.Output.{answer_within}
use Rattle.bench_main.proofs.main.Goals as goal

pub slice_bounds-output-end : goal.slice_bounds-output-end
slice_bounds-output-end c = answer_within _ _ _ _ c.in-Some.ensures.says

pub slice_bounds-write_all-end : goal.slice_bounds-write_all-end
slice_bounds-write_all-end c = sym (length-take-le _ _ (answer_within _ _ _ _ c.in-Some.ensures.says))
