-- There is a frame to send in each of the rounds 1, 2 and 3: the own value, or the check values of V or Y, which a vector of bytes has. So
-- a list of calls whose frames are bytes can send wherever it sends. Assumes nothing.
use mathlib.Core.Path.{◌≡◌, refl, sym, ◌∙◌, ap}
use mathlib.Core.Bool.{true}
use mathlib.Core.List.{List, [], ◌∷◌, ◌++◌, append-nil}
use Prim.Native.Nat.{ℕ, zero, suc, ◌*◌, ◌≤◌}
use native.Mathlib.Nat.{suc-mul}
use native.Mathlib.Omega.{arith}
use lib.ListN.{length, length-append}
use Rattle.code.specs.Settings.{Settings, settings_refusal, check_count, value_size}
use Rattle.code.specs.Plane.{byte_list}
use Rattle.code.specs.Vector.{is_vector, has_checks, cut, glued}
use Rattle.code.specs.Entry.{values_in}
use Rattle.code.specs.Promise.{ChecksThere}
use Rattle.code.proofs.Vectors.Planes.{Values, checked_of}
use Rattle.code.proofs.Vectors.Checks.{checks_there}
use Rattle.grading.specs.Value.{Value, Vector}
use Rattle.record.specs.Frame.{operand_size, checks_in}
use Rattle.record.specs.Record.{Rec, opened}
use Rattle.record.specs.Refusal.{send_refusal}
use Rattle.column.specs.Call.{Call, taking, sending, closing, asking, Passes, here, later, Operand}
use Rattle.record.proofs.Refusal.{Opens, first_of_zero, round_inside}
use Rattle.record.proofs.Front.{cut_glued}
use Rattle.column.proofs.Sent.{frame_sent}
use Rattle.column.proofs.Step.{step_of}
use Rattle.gradecast.proofs.Proper.{Proper, proper_open, proper_step}
use Rattle.exchanges.proofs.Building.Following.{CanSend, Sendable}
use Rattle.exchanges.proofs.Building.ByteRecord.{ByteRecord, bytes_vector, byte_frames, first_call, open_bytes, step_bytes}

-- the check values of a vector, as an operand
glued_length : (w : ℕ) (vs : Vector) → Values w vs → length (glued vs) ≡ length vs * w
unfolding glued
glued_length w [] l = omega arith
glued_length w (v ∷ vs) l = omega (arith, length-append v (glued vs), l.0, glued_length w vs l.2, suc-mul (length vs) w)

checks_operand :
    (s : Settings) (vs : Vector) → settings_refusal s ≡ 0 → is_vector s vs ≡ true →
    (xs : List ℕ) × (length xs ≡ check_count s * value_size s) × (has_checks s vs (checks_in s xs) ≡ true)
unfolding ChecksThere checks_in values_in
checks_operand s vs fine e =
    let there = checks_there s vs fine e in
    let cs = there.0 in
    let checked = checked_of s vs cs there.1 in
    let read : cut (check_count s) (value_size s) (glued cs) ≡ cs =
    ap (cut (check_count s) (value_size s)) (sym (append-nil (glued cs))) ∙ ap (λ (k : ℕ). cut k (value_size s) (glued cs ++ [])) (sym checked.many)
    ∙ cut_glued (value_size s) cs [] checked.values in
    (glued cs, glued_length (value_size s) cs checked.values ∙ ap (λ (k : ℕ). k * value_size s) checked.many, ap (has_checks s vs) read ∙ there.1)

module _ (s : Settings) (k run : ℕ) (v : Value) (o : Opens s k v) where
  -- the operand of each round
  operand_there :
      (m : ℕ) (r : Rec) → r.round ≡ m → 1 ≤ m → m ≤ 3 → Proper s k run v r → ByteRecord s r →
      (xs : List ℕ) × (length xs ≡ operand_size r.who.settings m) × Operand m r.who r.found xs
  unfolding Operand operand_size value_size
  operand_there zero r e low high p b = absurd (omega arith)
  operand_there (suc zero) r e low high p b =
      (r.who.own, ap length p.own ∙ o.size ∙ ap (λ (u : Settings). u.w) (sym p.settings), refl)
  operand_there (suc (suc zero)) r e low high p b =
      checks_operand r.who.settings r.found.heard (rw p.settings o.fine)
      (rw p.settings (bytes_vector s r.found.heard (p.heard (omega arith)) (b.heard (omega arith))))
  operand_there (suc (suc (suc zero))) r e low high p b =
      checks_operand r.who.settings r.found.agreed (rw p.settings o.fine)
      (rw p.settings (bytes_vector s r.found.agreed (p.agreed (omega arith)) (b.agreed (omega arith))))
  operand_there (suc (suc (suc (suc m)))) r e low high p b = absurd (omega arith)

  can_send : (x : Call) (r : Rec) → Proper s k run v r → ByteRecord s r → CanSend x r
  unfolding CanSend send_refusal
  can_send (taking j bs) r p b = tt
  can_send (sending room) r p b =
      λ e.
      (let round = round_inside r.round (first_of_zero _ _ (first_of_zero _ _ e).1).0 in
      let x = operand_there r.round r refl round.0 round.1 p b in
      (_, frame_sent r x.0 x.1 x.2))
  can_send closing r p b = tt
  can_send asking r p b = tt

  pub sendable : (xs : List Call) → byte_list v ≡ true → byte_frames xs ≡ true → Sendable (opened s k run v) xs
  unfolding Sendable
  sendable xs own e at x rest w = go w (proper_open s k run v o) (open_bytes s k run v o own) e
    where
      go : {r : Rec} {ys : List Call} → Passes r ys at (x ∷ rest) → Proper s k run v r → ByteRecord s r → byte_frames ys ≡ true → CanSend x at
      go (here r ys) p b f = can_send x at p b
      go (later r q z c ys zs l w) p b f =
          let call = first_call c ys f in
          let step = step_of c r q l in
          go w (proper_step s k run v o c r q p step) (step_bytes s k run v o c r q p b call.0 step) call.1
