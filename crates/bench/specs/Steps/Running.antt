-- What the steps of a group's run leave behind. Assumes nothing: these are definitions.
use Rattle.std.specs.Prelude.{◌≡◌, List, [], ℕ, ◌-◌, ◌≤◌, get_or, take}
use Rattle.std.proofs.Math.Option.{Option, none, some}
use Rattle.code.specs.Settings.{Settings}
use Rattle.record.specs.Frame.{longest_frame, frame_size}
use Rattle.record.specs.Record.{Rec}
use Rattle.record.specs.Refusal.{send_refusal}
use Rattle.column.specs.Call.{after_take, Run, FrameOf}
use Rattle.record.specs.declared.Column.{Column}
use Rattle.bench_file.specs.Scenario.{Scenario}
use Rattle.bench.specs.Group.{round_calls, GroupRun}
use Rattle.bench.specs.Steps.Finished.{record_of, AllFinished}
use Rattle.bench.specs.declared.group.Frame.{Frame}

-- the record after what is heard in a slot
unfoldable pub AfterHearing : (slot : ℕ) → Option (List ℕ) → Rec → Rec → Type 0
AfterHearing k none r q = q ≡ r
AfterHearing k (some bs) r q = q ≡ after_take r k bs

-- what stands for a frame past the last
abbrev pub frame_past : Frame
frame_past = record { bytes = [] }

-- the bytes of a round's frame, in front of its array
unfoldable pub frame_bytes : Settings → (round : ℕ) → Frame → List ℕ
frame_bytes s m x = take (frame_size s m) x.bytes

-- the frame of a column's round in front of an array, where sending is not refused
unfoldable pub Sends : Rec → Frame → Type 0
Sends r x = send_refusal r longest_frame ≡ 0 → FrameOf r (frame_bytes r.who.settings r.round x)

-- the frame of a column, of all that were sent
unfoldable pub frame_at : List Frame → (column : ℕ) → Frame
frame_at xs k = get_or xs (k - 1) frame_past

-- one round of all columns: the frames that were sent, by columns that are not refused, and the calls of each column
pub record RoundRun (f : Scenario) (round : ℕ) (columns columns_now : List Column) : Type 0 where
  pub frames : ℕ → List ℕ
  pub sends :
      (k : ℕ) → 1 ≤ k → k ≤ f.settings.n → send_refusal (record_of columns k) longest_frame ≡ 0 → (record_of columns k).who.settings ≡ f.settings →
      (record_of columns k).round ≡ round → FrameOf (record_of columns k) (frames k)
  pub calls : (k : ℕ) → 1 ≤ k → k ≤ f.settings.n → Run (record_of columns k) (round_calls f frames round k) (record_of columns_now k)

-- the whole run, with the program's columns as its last records
pub record GroupRan (f : Scenario) (columns : List Column) : Type 0 where
  pub records : (round column : ℕ) → Rec
  pub frames : (round column : ℕ) → List ℕ
  pub run : GroupRun f records frames
  pub last : (k : ℕ) → records 4 k ≡ record_of columns k
  pub finished : AllFinished f columns
