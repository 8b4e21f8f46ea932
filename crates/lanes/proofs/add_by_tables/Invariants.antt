use Rattle.lanes.specs.Lanes.{ProductsAdded}
use Rattle.lanes.proofs.add_by_tables.Given as goal

abbrev pub invariant-loop-j : goal.invariant-loop-j
invariant-loop-j l = ProductsAdded l.j l.value l.constants l.initial.rows l.rows
