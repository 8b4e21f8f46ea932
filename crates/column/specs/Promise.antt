-- What is promised of the calls together. Each statement is a type, and proofs/ has its proof. Assumes nothing.
use Rattle.std.specs.Prelude.{◌≡◌, List, ℕ, suc, ◌≤◌, length, take}
use Rattle.std.proofs.Math.Option.{none, some}
use Rattle.code.specs.Size.{most_columns}
use Rattle.record.specs.Frame.{frame_size, operand_in}
use Rattle.record.specs.Record.{Rec, frames_of, frame_at, InTime, counted}
use Rattle.record.specs.Refusal.{record_refusal, take_refusal}
use Rattle.column.specs.Call.{after_take, FrameOf}
use Rattle.record.specs.View.{settings_of, who_in, view}
use Rattle.record.specs.Stored.{with_slot}
use Rattle.column.specs.Entry.{OpenSays, TakeSays, FrameSizeSays, SendSays, CloseSays, ResultSays}
use Rattle.record.specs.declared.Column.{Column}
use Rattle.record.specs.declared.Holdings.{Holdings}

-- each call has one outcome: two that keep its promise are the same, in the answer, in the record and in every lent byte
pub record OneOutcome : Type 0 where
  pub opening :
      (n t w k run : ℕ) (own : List ℕ) (a b : ℕ) (c d : Column) → OpenSays n t w k run own a c → OpenSays n t w k run own b d →
      (a ≡ b) × (c ≡ d)
  pub taking :
      (c : Column) (k : ℕ) (bs : List ℕ) (a b : ℕ) (d e : Column) → TakeSays c k bs a d → TakeSays c k bs b e → (a ≡ b) × (d ≡ e)
  pub sizing : (c : Column) (a b : ℕ) → FrameSizeSays c a → FrameSizeSays c b → a ≡ b
  pub sending :
      (c : Column) (buffer : List ℕ) (a b : ℕ) (xs ys : List ℕ) → SendSays c buffer a xs → SendSays c buffer b ys → (a ≡ b) × (xs ≡ ys)
  pub closing : (c : Column) (a b : ℕ) (d e : Column) → CloseSays c a d → CloseSays c b e → (a ≡ b) × (d ≡ e)
  pub asking : (c : Column) (a b : Holdings) → ResultSays c a → ResultSays c b → a ≡ b

-- a frame written and read again: another column in that round, or in the one before, takes it, and its operand is kept
unfoldable pub FrameTaken : Type 0
FrameTaken =
    (r z : Rec) (bs : List ℕ) → record_refusal r.who ≡ 0 → record_refusal z.who ≡ 0 → r.who.settings ≡ z.who.settings →
    r.who.run ≡ z.who.run → InTime r.round z.round → 1 ≤ r.round → FrameOf z bs → (r.who.number ≡ z.who.number → ⊥) →
    length (frames_of r z.round) ≡ r.who.settings.n → frame_at r z.round z.who.number ≡ none →
    (take_refusal r z.who.number bs ≡ 0) × (frame_at (after_take r z.who.number bs) z.round z.who.number ≡ some (operand_in bs))

-- a reader awaits a sender's frame: both are columns of one run, the reader is in the sender's round or in the one before, and no frame of
-- that round of the sender's is there
pub record Awaits (reader sender : Column) : Type 0 where
  pub fine : record_refusal (who_in reader.who) ≡ 0
  pub same_settings : settings_of reader.who ≡ settings_of sender.who
  pub same_run : reader.who.run ≡ sender.who.run
  pub two : reader.who.number ≡ sender.who.number → ⊥
  pub low : 1 ≤ reader.round
  pub due : InTime reader.round sender.round
  pub empty : frame_at (view reader) sender.round sender.who.number ≡ none

-- the frame that `send` wrote in front of a buffer
unfoldable pub sent_frame : Column → (buffer : List ℕ) → List ℕ
sent_frame c buffer = take (frame_size (settings_of c.who) c.round) buffer

-- the same of the calls as built: what `send` wrote, `take` on a column that awaits it takes, and the frame is there to the byte
unfoldable pub SentTaken : Type 0
SentTaken =
    (c d d_now : Column) (buffer buffer_now : List ℕ) (answer : ℕ) → SendSays c buffer 0 buffer_now → Awaits d c →
    TakeSays d c.who.number (sent_frame c buffer_now) answer d_now → (answer ≡ 0) × (d_now ≡ with_slot d c.who.number (sent_frame c buffer_now))

-- and where the reader is one round behind: when it closes its round, it is in the sender's, and the operand counts
unfoldable pub SentCounts : Type 0
SentCounts =
    (c d d_now e : Column) (buffer buffer_now : List ℕ) (answer closed : ℕ) → SendSays c buffer 0 buffer_now → Awaits d c →
    c.round ≡ suc d.round → length d.early ≡ most_columns → TakeSays d c.who.number (sent_frame c buffer_now) answer d_now →
    CloseSays d_now closed e → (closed ≡ 0) × (e.round ≡ c.round) × (counted (view e) c.who.number ≡ some (operand_in (sent_frame c buffer_now)))
