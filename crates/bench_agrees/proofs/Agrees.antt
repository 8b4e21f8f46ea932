-- Demand 3 of what the bench writes: own values of a file that is not turned down can be opened with, so that the run of its group agrees,
-- and the output is the listing of that run. Assumes nothing.
use mathlib.Core.Path.{◌∙◌, ap}
use mathlib.Core.List.{List}
use Prim.Native.Nat.{ℕ}
use lib.ListN.{length}
use Rattle.arrays.specs.Array.{in_front}
use Rattle.bench_file.specs.File.{parsed}
use Rattle.bench.specs.Entry.{Printed}
use Rattle.bench_file.proofs.WholeFile.Sound.{file_sound}
use Rattle.bench_agrees.specs.Promise.{GroupAgrees, BenchAgrees}
use Rattle.bench_agrees.proofs.Lines.{group_agrees}

pub bench_agrees : BenchAgrees
unfolding BenchAgrees GroupAgrees Printed
bench_agrees file output answer output-now f says room parse few =
    let text = says.printed room in
    let printed : Printed (parsed f) text.0 = rw parse at text.1 in (
      printed.0,
      printed.1,
      printed.2,
      text.2 ∙ ap length printed.3,
      text.3 ∙ ap (λ (bs : List ℕ). in_front bs output) printed.3,
      group_agrees f printed.0 printed.1 (file_sound file f parse).opens few printed.2,
    )
