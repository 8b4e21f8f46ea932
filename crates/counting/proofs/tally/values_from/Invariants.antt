use lib.ListN.{get_or}
use Rattle.counting.specs.Steps.Tally.{unweighed, value_from}
use Rattle.counting.proofs.Placed.{Placed}
use Rattle.counting.proofs.tally.values_from.Given as goal

abbrev pub invariant-loop-k : goal.invariant-loop-k
invariant-loop-k l =
    let w = l.rows.w in
    let x = l.rows.table.now in
    Placed w l.k (λ j. value_from w l.least x j (get_or l.standings j unweighed).leads) l.vector
