-- Where the own checks are the vector's, repair by the difference is repair: the sum of codewords is a codeword, so a codeword
-- near the zeros and the difference is one near the vector and the checks received, less the vector's own, and differs from these at the
-- same places. Assumes nothing.
use mathlib.Core.Logic.{inl, inr}
use mathlib.Core.Path.{◌∙◌}
use Rattle.repair.specs.Difference.{plus_values}
use Rattle.repair.specs.Entry.{Done, DoneBy, TriedBy}
use Rattle.repair.specs.Promise.{ByOwnChecks}
use Rattle.repair.proofs.Difference.OwnVector.{repaired_plus, changed_plus, no_repair_plus, tried_plus}

pub by_own_checks : ByOwnChecks
unfolding ByOwnChecks Done DoneBy TriedBy
by_own_checks s vs own cs r m k o z v h c (inl (done, (es, ds, repaired, count, written)), tried) = (
  inl (
    done,
    (
      plus_values vs es,
      plus_values own ds,
      repaired_plus s vs own cs v h c es ds repaired,
      count ∙ changed_plus s vs own cs v h c es ds repaired,
      written,
    ),
  ),
  tried_plus s vs own cs v h c k tried,
)
by_own_checks s vs own cs r m k o z v h c (inr d, tried) = (
  inr (d.0, d.1, no_repair_plus s vs own cs v h c d.2, d.3),
  tried_plus s vs own cs v h c k tried,
)
