-- The calls on a record, what each leaves behind, lists of them, and the frame of a round. Assumes nothing: these are definitions.
use Rattle.std.specs.Prelude.{◌≡◌, true, cond, List, [], ◌∷◌, ℕ, zero, suc, eqb, length, take}
use Rattle.code.specs.Vector.{has_checks}
use Rattle.record.specs.Frame.{header_size, frame_size, header, round_in, operand_in, checks_in}
use Rattle.record.specs.Record.{Who, Found, Rec, with_refused, with_frame}
use Rattle.record.specs.Refusal.{take_refusal, close_refusal, frame_fault}
use Rattle.rounds.specs.Exchange.{Closed}

-- the calls after an opening: taking a frame that came in a slot, sending into so many lent bytes, closing a round, asking for the result
pub data Call : Type 0 where
  taking : (slot : ℕ) → (bytes : List ℕ) → Call
  sending : (room : ℕ) → Call
  closing : Call
  asking : Call

-- the record after taking: with the frame's operand; refused, as before but for the slot's count
unfoldable pub after_take : Rec → (slot : ℕ) → (bytes : List ℕ) → Rec
after_take r k bs =
    let n = take_refusal r k bs in
    cond (eqb n 0) (with_frame r (round_in bs) k (operand_in bs)) (cond (frame_fault n) (with_refused r k) r)

-- the record after closing: refused, as before
unfoldable pub AfterClose : (refusal : ℕ) → Rec → Rec → Type 0
AfterClose zero r q = Closed r.round r q
AfterClose (suc n) r q = q ≡ r

-- the record that a call leaves behind; sending and asking only read it
unfoldable pub Leads : Call → Rec → Rec → Type 0
Leads (taking k bs) r q = q ≡ after_take r k bs
Leads (sending n) r q = q ≡ r
Leads closing r q = AfterClose (close_refusal r) r q
Leads asking r q = q ≡ r

-- a list of calls, each on the record as the call before left it
pub data Run : Rec → List Call → Rec → Type 0 where
  no_call : (r : Rec) → Run r [] r
  one_call : (r q z : Rec) (c : Call) (cs : List Call) → Leads c r q → Run q cs z → Run r (c ∷ cs) z

-- the records that such a list passes through, each with the calls still to come
pub data Passes : Rec → List Call → (at : Rec) → (rest : List Call) → Type 0 where
  here : (r : Rec) (cs : List Call) → Passes r cs r cs
  later : (r q z : Rec) (c : Call) (cs rest : List Call) → Leads c r q → Passes q cs z rest → Passes r (c ∷ cs) z rest

-- the operand of a round's frame: the own value in round one, the checks of V in two, the checks of Y in three
unfoldable pub Operand : (round : ℕ) → Who → Found → List ℕ → Type 0
Operand zero w f xs = ⊥
Operand (suc zero) w f xs = xs ≡ w.own
Operand (suc (suc zero)) w f xs = has_checks w.settings f.heard (checks_in w.settings xs) ≡ true
Operand (suc (suc (suc zero))) w f xs = has_checks w.settings f.agreed (checks_in w.settings xs) ≡ true
Operand (suc (suc (suc (suc m)))) w f xs = ⊥

-- the frame of a column's round: the table's, with the column's number and the run number
unfoldable pub FrameOf : Rec → (bytes : List ℕ) → Type 0
FrameOf r bs =
    (take header_size bs ≡ header r.round r.who.number r.who.run) × (length bs ≡ frame_size r.who.settings r.round)
    × Operand r.round r.who r.found (operand_in bs)
