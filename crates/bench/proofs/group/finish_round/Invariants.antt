use Prim.Native.Nat.{◌+◌, ◌-◌}
use Rattle.record.specs.Record.{Rec}
use Rattle.column.specs.Call.{Run}
use Rattle.record.specs.View.{view}
use Rattle.bench_file.specs.Scenario.{Scenario}
use Rattle.bench.specs.Group.{heard_in, calls_from}
use Rattle.bench_file.specs.Steps.Places.{Located}
use Rattle.bench.specs.Steps.Running.{frame_bytes, frame_at}
use Rattle.bench.proofs.group.finish_round.Given as goal

abbrev pub invariant-loop-slot : goal.invariant-loop-slot
invariant-loop-slot l =
    (f : Scenario) →
    Located l.file l.places f → (z : Rec) →
    Run (view l.column) (calls_from (heard_in f (λ k. frame_bytes f.settings l.round (frame_at l.frames k)) l.round l.to) (l.places.settings.n + 1 - l.slot) l.slot) z →
    Run (view l.fn.column) (calls_from (heard_in f (λ k. frame_bytes f.settings l.round (frame_at l.frames k)) l.round l.to) (l.places.settings.n + 1 - 1) 1) z
