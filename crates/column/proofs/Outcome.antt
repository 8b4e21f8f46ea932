-- Each call has one outcome. The answer is the table's, and the record or the lent bytes follow from it: most are written out, a frame is
-- its header and the one operand that the round's vector has, and a round closed goes by a table, of which there is one. And what `send`
-- wrote, `take` takes; a round early it counts after the closing. Assumes nothing.
use mathlib.Core.Path.{◌≡◌, refl, sym, ◌∙◌, ap, ap₂}
use mathlib.Core.Bool.{Bool, true, false}
use mathlib.Core.List.{List, ◌++◌}
use mathlib.Core.Option.{Option, some}
use Prim.Native.Nat.{ℕ, zero, suc, ◌*◌}
use native.Mathlib.Omega.{arith}
use lib.Dec.{eqb}
use lib.ListN.{length, drop, take-append-drop}
use lib.Seq.{take_all}
use borrow.Author.Tests.{eqb-true, eqb-false}
use Rattle.arrays.specs.Array.{in_front}
use Rattle.arrays.proofs.Front.{front_value}
use Rattle.code.specs.Settings.{Settings, settings_refusal, check_count, value_size}
use Rattle.code.specs.Vector.{has_checks, glued}
use Rattle.code.specs.Entry.{values_in}
use Rattle.code.proofs.ValidSettings.{sizes}
use Rattle.code.proofs.Vectors.Cut.{cut_length, glued_cut}
use Rattle.code.proofs.Vectors.Planes.{checks_unique}
use Rattle.record.specs.Frame.{header_size, operand_size, frame_size, round_in, operand_in, checks_in}
use Rattle.record.specs.Record.{Who, Found, Rec, who_as, taken_at, counted, with_frame}
use Rattle.record.specs.Refusal.{record_refusal, send_refusal, close_refusal}
use Rattle.column.specs.Call.{closing, Leads, Operand, FrameOf}
use Rattle.record.specs.View.{settings_of, who_in, view}
use Rattle.record.specs.Stored.{no_holdings, with_slot, found_now, one_on}
use Rattle.column.specs.Entry.{SendSays, CloseSays, ResultSays}
use Rattle.column.specs.Promise.{OneOutcome, sent_frame, SentTaken, SentCounts}
use Rattle.record.specs.declared.Column.{Column}
use Rattle.record.specs.declared.Holdings.{Holdings}
use Rattle.record.proofs.Refusal.{first_of_zero, record_settings, record_number, close_record, close_settings, close_fine}
use Rattle.record.proofs.There.{early_here}
use Rattle.column.proofs.Frame.{frame_round, frame_fits_its_round, frame_fresh, operand_length}
use Rattle.record.proofs.View.{frames_length, view_slot, found_heard, found_agreed}
use Rattle.column.proofs.Asked.{same_holdings}
use Rattle.column.proofs.Step.{Closes, closing_leads, closes_now}
use Rattle.rounds.proofs.Rows.{closed_unique}

-- done or refused
either : {C : Type 0} (a : ℕ) → (a ≡ 0 → C) → ((a ≡ 0 → ⊥) → C) → C
either {C} a f g = go (eqb a 0) refl
  where
    go : (q : Bool) → eqb a 0 ≡ q → C
    go true e = f (eqb-true a 0 e)
    go false e = g (eqb-false a 0 e)

-- an operand has one content: the own value, or the check values of the round's vector, of which there is one list
checks_back : (s : Settings) (xs : List ℕ) → length xs ≡ check_count s * value_size s → glued (checks_in s xs) ≡ xs
unfolding checks_in values_in
checks_back s xs e = glued_cut (check_count s) (value_size s) xs (omega arith) ∙ take_all (check_count s * value_size s) xs (omega arith)

checks_same :
    (s : Settings) (vs : List (List ℕ)) (xs ys : List ℕ) → settings_refusal s ≡ 0 → length xs ≡ check_count s * value_size s →
    length ys ≡ check_count s * value_size s → has_checks s vs (checks_in s xs) ≡ true → has_checks s vs (checks_in s ys) ≡ true → xs ≡ ys
checks_same s vs xs ys fine e f a b = sym (checks_back s xs e) ∙ ap glued (checks_unique s vs (checks_in s xs) (checks_in s ys) fine a b) ∙ checks_back s ys f

operand_unique :
    (m : ℕ) (w : Who) (f : Found) (xs ys : List ℕ) → settings_refusal w.settings ≡ 0 → length xs ≡ operand_size w.settings m →
    length ys ≡ operand_size w.settings m → Operand m w f xs → Operand m w f ys → xs ≡ ys
unfolding Operand operand_size
operand_unique zero w f xs ys fine e g a b = absurd a
operand_unique (suc zero) w f xs ys fine e g a b = a ∙ sym b
operand_unique (suc (suc zero)) w f xs ys fine e g a b = checks_same w.settings f.heard xs ys fine e g a b
operand_unique (suc (suc (suc zero))) w f xs ys fine e g a b = checks_same w.settings f.agreed xs ys fine e g a b
operand_unique (suc (suc (suc (suc m)))) w f xs ys fine e g a b = absurd a

pub frame_unique : (r : Rec) (xs ys : List ℕ) → settings_refusal r.who.settings ≡ 0 → FrameOf r xs → FrameOf r ys → xs ≡ ys
unfolding FrameOf operand_in
frame_unique r xs ys fine a b =
    let s = r.who.settings in
    sym (take-append-drop header_size xs)
    ∙ ap₂ ◌++◌ (a.0 ∙ sym b.0)
    (operand_unique r.round r.who r.found (drop header_size xs) (drop header_size ys) fine (operand_length s r.round xs a.1)
    (operand_length s r.round ys b.1) a.2 b.2)
    ∙ take-append-drop header_size ys

-- a column that sends is not turned down
send_record : (r : Rec) (room : ℕ) → send_refusal r room ≡ 0 → record_refusal r.who ≡ 0
unfolding send_refusal
send_record r room e = (first_of_zero _ _ e).0

-- V and Y of a column are n values
heard_many : (c : Column) → c.round ≡ 2 → length (view c).found.heard ≡ (view c).who.settings.n
unfolding view who_in who_as values_in
heard_many c e = ap length (found_heard (settings_of c.who) c.round c.found (omega arith)) ∙ cut_length _ _ _

agreed_many : (c : Column) → c.round ≡ 3 → length (view c).found.agreed ≡ (view c).who.settings.n
unfolding view who_in who_as values_in
agreed_many c e = ap length (found_agreed (settings_of c.who) c.round c.found (omega arith)) ∙ cut_length _ _ _

closed_reads : (c d e : Column) → close_refusal (view c) ≡ 0 → Leads closing (view c) (view d) → Leads closing (view c) (view e) → view d ≡ view e
unfolding view
closed_reads c d e z x y =
    closed_unique c.round (view c) (view d) (view e) (close_settings (view c) z) (record_number (view c).who (close_record (view c) z)).0 (heard_many c)
    (agreed_many c) (closing_leads (view c) (view d) z x) (closing_leads (view c) (view e) z y)

pub one_outcome : OneOutcome
one_outcome =
    record {
      opening =
          λ n t w k run own a b c d x y.
          (let same = x.answered ∙ sym y.answered in
          (same, either a (λ z. x.done z ∙ sym (y.done (sym same ∙ z))) (λ z. x.refused z ∙ sym (y.refused (λ u. z (same ∙ u))))));
      taking =
          λ c k bs a b d e x y.
          (let same = x.answered ∙ sym y.answered in (
            same,
            either a (λ z. x.done z ∙ sym (y.done (sym same ∙ z)))
                (λ z. x.refused z ∙ sym (rw (sym same) at (y.refused (λ u. z (same ∙ u))))),
          ));
      sizing = λ c a b x y. either (close_refusal (view c)) (λ z. x.done z ∙ sym (y.done z)) (λ z. x.refused z ∙ sym (y.refused z));
      sending = sends;
      closing = closes;
      asking = asks;
    }
  where
    asks : (c : Column) (a b : Holdings) → ResultSays c a → ResultSays c b → a ≡ b
    asks c a b x y =
        let same = x.answered ∙ sym y.answered in
        either a.answer
        (λ z.
        (let other = sym same ∙ z in
        same_holdings a b same ((x.done z).value_bytes ∙ sym (y.done other).value_bytes) ((x.done z).confidence_bytes ∙ sym (y.done other).confidence_bytes)
        (x.two z ∙ sym (y.two other)) (x.three z ∙ sym (y.three other))))
        (λ z. x.refused z ∙ ap no_holdings same ∙ sym (y.refused (λ u. z (same ∙ u))))

    sends : (c : Column) (buffer : List ℕ) (a b : ℕ) (xs ys : List ℕ) → SendSays c buffer a xs → SendSays c buffer b ys → (a ≡ b) × (xs ≡ ys)
    sends c buffer a b xs ys x y =
        let same = x.answered ∙ sym y.answered in (
          same,
          either a
              (λ z.
              (let f = x.done z in
              let g = y.done (sym same ∙ z) in
              let fine = record_settings (view c).who (send_record (view c) (length buffer) (sym x.answered ∙ z)) in
              f.2 ∙ ap (λ (bs : List ℕ). in_front bs buffer) (frame_unique (view c) f.0 g.0 fine f.1 g.1) ∙ sym g.2))
              (λ z. x.refused z ∙ sym (y.refused (λ u. z (same ∙ u)))),
        )

    closes : (c : Column) (a b : ℕ) (d e : Column) → CloseSays c a d → CloseSays c b e → (a ≡ b) × (d ≡ e)
    closes c a b d e x y =
        let same = x.answered ∙ sym y.answered in (
          same,
          either a
              (λ z.
              x.done z
              ∙ ap (λ (r : Rec). one_on c (found_now c.round c.found r.found)) (closed_reads c d e (sym x.answered ∙ z) x.reads y.reads)
              ∙ sym (y.done (sym same ∙ z)))
              (λ z. x.refused z ∙ sym (y.refused (λ u. z (same ∙ u)))),
        )

-- what `send` wrote is a frame of the sender's round
sent_is_frame : (c : Column) (buffer buffer_now : List ℕ) → SendSays c buffer 0 buffer_now → FrameOf (view c) (sent_frame c buffer_now)
unfolding FrameOf view who_in who_as sent_frame
sent_is_frame c buffer buffer_now sent =
    let f = sent.done refl in
    let size : length f.0 ≡ frame_size (settings_of c.who) c.round = f.1.1 in
    rw (f.2, front_value f.0 buffer _ size) f.1

-- it is taken
pub sent_taken : SentTaken
unfolding SentTaken view who_in who_as
sent_taken c d d-now buffer buffer_now answer sent a taken =
    let fresh =
    frame_fresh (view d) (view c) (sent_frame c buffer_now) a.fine (send_record (view c) (length buffer) (sym sent.answered)) a.same_settings a.same_run
    a.due a.low (sent_is_frame c buffer buffer_now sent) a.two a.empty in
    let zero = taken.answered ∙ fresh in
    (zero, taken.done zero)

-- and counts in the next round where the reader is one behind: its closing is not refused, and makes the early frames those of the round
pub sent_counts : SentCounts
unfolding SentTaken SentCounts counted view who_in who_as with_frame
sent_counts c d d-now e buffer buffer_now answer closed sent a next long taken closes =
    (closes.answered ∙ fine, way.round ∙ round ∙ sym next, ap (λ (fs : List (Option (List ℕ))). taken_at fs k) way.frames ∙ there)
  where
    k : ℕ
    k = c.who.number

    bs : List ℕ
    bs = sent_frame c buffer_now

    frame : FrameOf (view c) bs
    frame = sent_is_frame c buffer buffer_now sent

    done : (answer ≡ 0) × (d-now ≡ with_slot d k bs)
    done = sent_taken c d d-now buffer buffer_now answer sent a taken

    reads : view d-now ≡ with_frame (view d) (round_in bs) k (operand_in bs)
    reads = ap view done.1 ∙ view_slot d k bs (sym taken.answered ∙ done.0)

    fine : close_refusal (view d-now) ≡ 0
    fine =
        let three = (frame_round (view c) bs frame).1 in
        rw reads (close_fine (with_frame (view d) (round_in bs) k (operand_in bs)) a.fine a.low (omega arith))

    way : Closes (view d-now) (view e)
    way = closes_now (view d-now) (view e) fine closes.reads

    round : suc (view d-now).round ≡ suc d.round
    round = ap (λ (r : Rec). suc r.round) reads

    there : taken_at (view d-now).early k ≡ some (operand_in bs)
    there =
        let number = record_number (view c).who (send_record (view c) (length buffer) (sym sent.answered)) in
        let few = (sizes (settings_of d.who) (record_settings (view d).who a.fine)).few_columns in
        let room = frames_length (settings_of d.who) (suc d.round) d.early (rw long few) in
        ap (λ (r : Rec). taken_at r.early k) reads
        ∙ early_here (view d) (round_in bs) k (operand_in bs) ((frame_fits_its_round (view c) bs frame).round ∙ next) number.0
        (rw (room, a.same_settings) number.1)
