-- `run_round` meets its contract: the frames of all, then column by column. Assumes nothing.
use mathlib.Core.Path.{◌≡◌, refl, ◌∙◌, ap, subst}
use Prim.Native.Nat.{ℕ, ◌-◌}
use native.Mathlib.Omega.{arith}
use borrow.Author.Rules.{rules}
use lib.ListN.{length, length-set}
use lib.Seq.{get_or-set_other}
use Rattle.code.specs.Settings.{Settings}
use Rattle.code.specs.Size.{most_columns}
use Rattle.column.specs.Call.{Run, FrameOf}
use Rattle.record.specs.View.{view}
use Rattle.record.specs.Record.{Rec}
use Rattle.record.specs.declared.Column.{Column}
use Rattle.bench.specs.Group.{round_calls}
use Rattle.bench.specs.Steps.Finished.{record_of, column_past}
use Rattle.bench.specs.Steps.Running.{frame_bytes, Sends, frame_at}
use Rattle.bench_file.proofs.OneCommand.Faults.{small_settings}
use Rattle.bench.proofs.Running.Hearing.{set_cases}
use Rattle.bench.proofs.group.run_round.Goals as goal

pub all_sent-frames-requires : goal.all_sent-frames-requires
all_sent-frames-requires c = (small_settings c.args.places.now.settings).0

pub loop-number-init : goal.loop-number-init
loop-number-init c =
    let long : length c.args.columns.now ≡ most_columns = search rules in
    record { room = long; before = λ k h. refl; done = λ f k h low less. absurd (omega arith) }

pub finish_round-requires : goal.finish_round-requires
finish_round-requires c = let p = c.requires in (p.0, p.1, p.2, omega arith, omega (arith, (small_settings c.args.places.now.settings).0))

pub loop-number-preserved : goal.loop-number-preserved
unfolding record_of
loop-number-preserved c =
    let l = c.loop-number in
    let a = c.args in
    let frames = c.all_sent-frames.result in
    let x = c.finish_round.new.column in
    let s = small_settings a.places.now.settings in
    record {
      room = simp length-set l.invariant.room;
      before = λ k h. ap view (get_or-set_other l.columns (l.number - 1) (k - 1) x column_past (λ z. absurd (omega (arith, z)))) ∙ l.invariant.before k (omega arith);
      done =
          λ f k h low less.
          set_cases l.columns column_past x l.number k
          (λ (i : ℕ) (y : Column).
          Run (record_of a.columns.now i) (round_calls f (λ j. frame_bytes f.settings a.round (frame_at frames j)) a.round i) (view y))
          (omega arith) (omega (arith, s.0, l.invariant.room)) low less
          (subst (λ (r : Rec). Run r (round_calls f (λ j. frame_bytes f.settings a.round (frame_at frames j)) a.round l.number) (view x)) (l.invariant.before l.number (omega arith)) (c.finish_round.ensures f h))
          (λ before. l.invariant.done f k h low before);
    }

pub returns : goal.returns
unfolding Sends
returns c f h =
    let l = c.loop-number in
    let a = c.args in
    let columns = a.columns.now in
    let frames = c.all_sent-frames in
    let n = ap (λ (s : Settings). s.n) h.settings in
    record {
      frames = λ j. frame_bytes f.settings a.round (frame_at frames.result j);
      sends =
          λ k low high fine settings round.
          subst (λ (s : Settings). FrameOf (record_of columns k) (frame_bytes s a.round (frame_at frames.result k))) settings
          (subst
          (λ (m : ℕ). FrameOf (record_of columns k) (frame_bytes (record_of columns k).who.settings m (frame_at frames.result k)))
          round (frames.ensures k low (omega (arith, high, n)) fine));
      calls = λ k low high. l.invariant.done f k h low (omega (arith, high, n));
    }

pub overflow_add-number-end : goal.overflow_add-number-end
overflow_add-number-end c = omega (arith, (small_settings c.args.places.now.settings).0)

pub bounds-columns-k : goal.bounds-columns-k
bounds-columns-k c = omega (arith, (small_settings c.args.places.now.settings).0)

pub bounds-columns-k-in-loop-number : goal.bounds-columns-k-in-loop-number
bounds-columns-k-in-loop-number c = omega (arith, (small_settings c.args.places.now.settings).0)
