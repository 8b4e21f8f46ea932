-- `all_sent` meets its contract: frame by frame. Assumes nothing.
use mathlib.Core.Path.{refl}
use Prim.Native.Nat.{ℕ}
use native.Mathlib.Omega.{arith}
use lib.ListN.{length-set}
use Rattle.bench.specs.Steps.Finished.{record_of}
use Rattle.bench.specs.Steps.Running.{frame_past, Sends, frame_at}
use Rattle.bench.specs.declared.group.Frame.{Frame}
use Rattle.bench.proofs.Running.Hearing.{set_cases}
use Rattle.bench.proofs.group.all_sent.Goals as goal

pub loop-number-init : goal.loop-number-init
loop-number-init c = (refl, λ k low less. absurd (omega arith))

pub loop-number-preserved : goal.loop-number-preserved
unfolding record_of frame_at
loop-number-preserved c =
    let l = c.loop-number in
    let columns = c.args.columns.now in (
      simp length-set l.invariant.0,
      λ k low less.
          set_cases l.frames frame_past c.sent.result l.number k
          (λ (i : ℕ) (x : Frame). Sends (record_of columns i) x) (omega arith) (omega arith) low less c.sent.ensures (λ before. l.invariant.1 k low before),
    )

pub returns : goal.returns
returns c k low high = c.loop-number.invariant.1 k low (omega arith)
