-- What the calls answer and leave behind: the answer, every byte of the record, and every lent byte, done or refused. Assumes nothing:
-- these are definitions.
use Rattle.std.specs.Prelude.{◌≡◌, List, ℕ, length}
use Rattle.arrays.specs.Array.{in_front, padded}
use Rattle.code.specs.Settings.{settings}
use Rattle.code.specs.Size.{most_columns}
use Rattle.counting.specs.Stored.{StoresHeld}
use Rattle.record.specs.Frame.{frame_size}
use Rattle.record.specs.Refusal.{open_refusal, take_refusal, send_refusal, close_refusal, ask_refusal}
use Rattle.column.specs.Call.{closing, FrameOf, Leads}
use Rattle.record.specs.View.{settings_of, view}
use Rattle.record.specs.Stored.{no_holdings, identity, no_column, opened_column, with_slot, after_refusal, found_now, one_on}
use Rattle.record.specs.declared.Column.{Column}
use Rattle.record.specs.declared.Holdings.{Holdings}

-- `open`: the refusal that applies and no column, or 0 and the record as opening makes it
pub record OpenSays (n t w number run : ℕ) (own : List ℕ) (answer : ℕ) (column : Column) : Type 0 where
  pub answered : answer ≡ open_refusal (settings n t w) number own
  pub done : answer ≡ 0 → column ≡ opened_column (identity n t w number run own)
  pub refused : (answer ≡ 0 → ⊥) → column ≡ no_column

-- `take`: the refusal that applies, under 9 to 15 with the slot's count one higher, if it is not at its top; or 0 and the frame in its
-- slot, of this round or of the one that follows; all else as before
pub record TakeSays (c : Column) (slot : ℕ) (frame : List ℕ) (answer : ℕ) (c_now : Column) : Type 0 where
  pub answered : answer ≡ take_refusal (view c) slot frame
  pub done : answer ≡ 0 → c_now ≡ with_slot c slot frame
  pub refused : (answer ≡ 0 → ⊥) → c_now ≡ after_refusal answer slot c

-- `frame_size`: the length of the frame of the round, or 0 where the record or its round is refused, so that `send` writes none
pub record FrameSizeSays (c : Column) (answer : ℕ) : Type 0 where
  pub done : close_refusal (view c) ≡ 0 → answer ≡ frame_size (settings_of c.who) c.round
  pub refused : (close_refusal (view c) ≡ 0 → ⊥) → answer ≡ 0

-- `send`: the refusal that applies and every byte kept, or 0 and the frame of the round in front, the rest kept
pub record SendSays (c : Column) (buffer : List ℕ) (answer : ℕ) (buffer_now : List ℕ) : Type 0 where
  pub answered : answer ≡ send_refusal (view c) (length buffer)
  pub done : answer ≡ 0 → (frame : List ℕ) × FrameOf (view c) frame × (buffer_now ≡ in_front frame buffer)
  pub refused : (answer ≡ 0 → ⊥) → buffer_now ≡ buffer

-- `close`: the refusal that applies, or 0 and the record one round on: it reads as the definitions' record after the round, the frames that
-- came early are in its slots, and what it has found then is written in front of its array, zeros behind; all else is as before
pub record CloseSays (c : Column) (answer : ℕ) (c_now : Column) : Type 0 where
  pub answered : answer ≡ close_refusal (view c)
  pub reads : Leads closing (view c) (view c_now)
  pub done : answer ≡ 0 → c_now ≡ one_on c (found_now c.round c.found (view c_now).found)
  pub refused : (answer ≡ 0 → ⊥) → c_now ≡ c

-- `result`: the refusal that applies and zeros, or 0, the values and confidences that the column holds, and what rounds two and three
-- told, zeros behind them
pub record ResultSays (c : Column) (h : Holdings) : Type 0 where
  pub answered : h.answer ≡ ask_refusal (view c)
  pub done : h.answer ≡ 0 → StoresHeld (settings_of c.who) (view c).found.held h.values h.confidences
  pub two : h.answer ≡ 0 → h.told_two ≡ padded most_columns (view c).found.told_two
  pub three : h.answer ≡ 0 → h.told_three ≡ padded most_columns (view c).found.told_three
  pub refused : (h.answer ≡ 0 → ⊥) → h ≡ no_holdings h.answer
