-- `run` meets its contract: the openings, and three rounds one after the other. Assumes nothing.
use Rattle.bench.proofs.Running.Exchanged.{group_ran}
use Rattle.bench.proofs.group.run.Goals as goal

pub returns : goal.returns
returns c f h =
    group_ran f _ _ _ _ (λ k v e. c.opened-columns.ensures f k v h e) h.opens (c.run_round.ensures f h)
    (c.run_round-2.ensures f h) (c.run_round-3.ensures f h)
