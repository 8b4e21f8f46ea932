-- The run of a whole group: each good column follows the rules of the exchange, by the column's own definitions, and hears of a bad one
-- what the file says. Any number of columns may be bad. Assumes nothing: these are definitions.
use Rattle.std.specs.Prelude.{◌≡◌, true, cond, List, [], ◌∷◌, ◌++◌, ℕ, zero, suc, ◌≤◌, eqb}
use Rattle.std.proofs.Math.Option.{Option, none, some}
use Rattle.grading.specs.Value.{Value}
use Rattle.record.specs.Frame.{header}
use Rattle.record.specs.Record.{Rec, opened}
use Rattle.column.specs.Call.{Call, taking, closing, Run, FrameOf}
use Rattle.bench_file.specs.Scenario.{Scenario, own_of, is_good, message_of}

-- the run number of a bench's exchange
unfoldable pub bench_run : ℕ
bench_run = 0

-- the frame that carries an operand
unfoldable pub framed : (round from : ℕ) → Option (List ℕ) → Option (List ℕ)
framed m k none = none
framed m k (some x) = some (header m k bench_run ++ x)

-- what a good column hears in a slot, of the frames of a round: nothing in its own, a good column's frame, or the frame of a bad one's
-- message; a missing message is missing
unfoldable pub heard_in : Scenario → (frames : ℕ → List ℕ) → (round to slot : ℕ) → Option (List ℕ)
heard_in f frames m l k =
    cond (eqb k l) none (cond (is_good f k) (some (frames k)) (framed m k (message_of f.messages m k l)))

-- a taking call in front of others, where there is a frame to take
unfoldable pub taking_first : (slot : ℕ) → Option (List ℕ) → List Call → List Call
taking_first k none cs = cs
taking_first k (some bs) cs = taking k bs ∷ cs

-- the calls of a good column from a slot on, for so many slots: what it hears in each, and then the closing
unfoldable pub calls_from : (heard : ℕ → Option (List ℕ)) → (many slot : ℕ) → List Call
calls_from heard zero k = closing ∷ []
calls_from heard (suc n) k = taking_first k (heard k) (calls_from heard n (suc k))

-- the calls of a good column in a round
unfoldable pub round_calls : Scenario → (frames : ℕ → List ℕ) → (round column : ℕ) → List Call
round_calls f frames m l = calls_from (heard_in f frames m l) f.settings.n 1

-- the run: by round and column the records of the good columns and the frames that they send; round four's records are the last
pub record GroupRun (f : Scenario) (records : (round column : ℕ) → Rec) (frames : (round column : ℕ) → List ℕ) : Type 0 where
  pub opens : (k : ℕ) (v : Value) → own_of f.owns k ≡ some v → records 1 k ≡ opened f.settings k bench_run v
  pub sends : (m k : ℕ) → 1 ≤ m → m ≤ 3 → is_good f k ≡ true → FrameOf (records m k) (frames m k)
  pub rounds :
      (m k : ℕ) → 1 ≤ m → m ≤ 3 → is_good f k ≡ true → Run (records m k) (round_calls f (frames m) m k) (records (suc m) k)
