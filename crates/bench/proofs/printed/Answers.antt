-- `printed` meets its contract: a refusal, or the listing of the run. Assumes nothing.
use Rattle.bench_file.specs.Steps.Places.{PlacesOf}
use Rattle.bench.proofs.Listing.Output.{refused_printed, parsed_located, run_printed}
use Rattle.bench.proofs.printed.Goals as goal

pub run-requires : goal.run-requires
unfolding PlacesOf
run-requires c = let s = parsed_located c.args.file.now _ _ c.in-Ok.ensures in (s.0, s.2)

pub returns-in-Ok : goal.returns-in-Ok
returns-in-Ok c =
    let s = parsed_located c.args.file.now _ _ c.in-Ok.ensures in
    let ran = c.run.ensures s.0 s.2 in
    rw (c.listing.ensures c.args.file.now s.0 s.2 ran.finished) (run_printed _ _ _ s.1 ran)

pub returns-in-Err : goal.returns-in-Err
returns-in-Err c = rw c.refused.ensures (refused_printed c.args.file.now _ _ c.in-Err.ensures)
