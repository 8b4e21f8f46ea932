-- `send_by` meets its contract: refused, every byte is kept; else header and operand stand in front, and together they are the frame of
-- the round. Assumes nothing.
use mathlib.Core.Path.{◌≡◌, refl, sym, ◌∙◌, ap}
use mathlib.Core.List.{List, [], ◌∷◌, ◌++◌}
use Prim.Native.Nat.{ℕ, ◌-◌, ◌≤◌}
use native.Mathlib.Omega.{arith}
use lib.ListN.{length, length-drop}
use lib.Seq.{length-take-le}
use borrow.Author.Tests.{lt-ltb, le-ltb}
use borrow.Rule.Slice.PartMut.{put_mid}
use Rattle.std.proofs.lemmas.Result.{err_from_is_err_and}
use Rattle.refusal.specs.Number.{number_of}
use Rattle.refusal.proofs.Positive.{number-positive}
use Rattle.arrays.proofs.Front.{front_twice}
use Rattle.code.specs.Settings.{Settings, settings}
use Rattle.code.specs.Size.{most_columns}
use Rattle.code.proofs.ValidSettings.{sizes}
use Rattle.record.specs.Frame.{header_size, operand_size, frame_size, header}
use Rattle.record.specs.Record.{who_as}
use Rattle.record.specs.Refusal.{first_of, record_refusal, round_refusal, room_refusal}
use Rattle.record.specs.View.{settings_of, who_in, view}
use Rattle.record.proofs.Checked.{settings_are}
use Rattle.record.proofs.Refusal.{line_applies, line_passed, first_of_zero, first_of_here, first_of_next, first_of_last, round_inside, record_settings, record_number, send_lines}
use Rattle.record.proofs.FrameRefusal.{frame_four}
use Rattle.column.specs.Steps.Sending.{speaking}
use Rattle.column.proofs.Sent.{frame_sent}
use Rattle.column.proofs.send_by.Goals as goal
use Rattle.column.proofs.send_by.Goals.{After-frame_size-size, In_ok-settings}

pub returns-in_err-settings : goal.returns-in_err-settings
unfolding view
returns-in_err-settings c =
    let p = err_from_is_err_and c.from_residual.result c.from_residual.ensures.1 in
    let number : number_of c.in_err-settings.field-0.0 ≡ 0 → ⊥ = λ z. omega (arith, number-positive c.in_err-settings.field-0.0) in
    rw (p.1, p.2)
    (record {
      answered = sym (send_lines (view (speaking c.args.who.now c.args.round c.args.found.now)) (length c.args.buffer.now) ∙ first_of_here _ (sym c.in_err-settings.ensures.answer) number);
      done = λ z. absurd (number z);
      refused = λ z. refl;
    })

record Passed (c : In_ok-settings) : Type 0 where
  closes : first_of (record_refusal (who_in c.args.who.now) ∷ round_refusal c.args.round ∷ []) ≡ 0
  round : c.args.round ≤ 3
  number : c.args.who.now.number ≤ most_columns

passed : (c : In_ok-settings) → Passed c
unfolding who_in who_as settings_of settings
passed c =
    let zero = sym c.in_ok-settings.ensures.answer in
    let record_line = first_of_zero _ _ zero in
    let who = who_in c.args.who.now in
    record {
      closes = zero;
      round = (round_inside _ (first_of_zero _ _ record_line.1).0).1;
      number = omega (arith, sizes _ (record_settings who record_line.0), (record_number who record_line.0).1);
    }

size_is : (c : After-frame_size-size) → c.frame_size-size.result ≡ frame_size (settings_of c.args.who.now) c.args.round
unfolding settings_of
size_is c =
    let who = c.args.who.now in
    c.frame_size-size.ensures.0 ∙ ap (λ (s : Settings). frame_size s c.args.round) (settings_are who.n who.t who.w c.in_ok-settings.settings c.in_ok-settings.ensures.same)

-- the header is within it
headed : (c : After-frame_size-size) → header_size ≤ c.frame_size-size.result
headed c = let a = speaking c.args.who.now c.args.round c.args.found.now in omega (arith, size_is c, frame_four (settings_of a.who) a.round)

pub returns-then-buffer-size : goal.returns-then-buffer-size
unfolding view who_in who_as room_refusal
returns-then-buffer-size c =
    let a = c.args in
    let column = speaking a.who.now a.round a.found.now in
    let short = lt-ltb (length a.buffer.now) (frame_size (settings_of column.who) column.round) (omega (arith, size_is (goal.at.returns-then-buffer-size c).After-frame_size-size, c.if-buffer-size.true)) in
    record {
      answered = sym (send_lines (view column) (length a.buffer.now) ∙ first_of_next _ (passed (goal.at.returns-then-buffer-size c).In_ok-settings).closes (first_of_last _ ∙ line_applies 16 _ short));
      done = λ z. absurd (omega arith);
      refused = λ z. refl;
    }

pub put_header-requires : goal.put_header-requires
put_header-requires c =
    let h = passed (goal.at.put_header-requires c).In_ok-settings in (h.round, h.number, omega (arith, headed (goal.at.put_header-requires c).After-frame_size-size))

pub slice_bounds-operand-count : goal.slice_bounds-operand-count
slice_bounds-operand-count c = headed (goal.at.slice_bounds-operand-count c).After-frame_size-size

pub slice_bounds-operand-start : goal.slice_bounds-operand-start
slice_bounds-operand-start c = headed (goal.at.slice_bounds-operand-start c).After-frame_size-size

pub put_operand-requires : goal.put_operand-requires
unfolding frame_size
put_operand-requires c =
    let a = speaking c.args.who.now c.args.round c.args.found.now in
    let m = headed (goal.at.put_operand-requires c).After-frame_size-size in
    let rest : c.frame_size-size.result - header_size ≡ operand_size (settings_of a.who) a.round = omega (arith, size_is (goal.at.put_operand-requires c).After-frame_size-size) in
    record {
      fine = ((passed (goal.at.put_operand-requires c).In_ok-settings).closes, c.in_ok-settings.ensures.same);
      long = length-take-le _ _ (simp length-drop (omega (arith, m))) ∙ rest;
    }

pub returns : goal.returns
unfolding view who_in who_as settings_of frame_size header room_refusal
returns c =
    let a = c.args in
    let column = speaking a.who.now a.round a.found.now in
    let r = view column in
    let size = c.frame_size-size.result in
    let operand = c.put_operand.new.operand in
    let m = headed (goal.at.returns c).After-frame_size-size in
    let long : length operand ≡ size - header_size = c.put_operand.auto.operand ∙ length-take-le _ _ (simp length-drop (omega (arith, m))) in
    let fits = le-ltb (length a.buffer.now) (frame_size (settings_of column.who) column.round) (omega (arith, size_is (goal.at.returns c).After-frame_size-size, c.if-buffer-size.false)) in
    record {
      answered = sym (send_lines r (length a.buffer.now) ∙ first_of_next _ (passed (goal.at.returns c).In_ok-settings).closes (first_of_last _ ∙ line_passed 16 _ fits));
      done =
          λ z. (
            header column.round column.who.number column.who.run ++ operand,
            frame_sent r operand (omega (arith, long, size_is (goal.at.returns c).After-frame_size-size)) c.put_operand.ensures,
            ap (λ (xs : List ℕ). put_mid header_size (size - header_size) xs operand) c.put_header.ensures
                ∙ front_twice _ operand a.buffer.now header_size (size - header_size) refl long,
          );
      refused = λ z. absurd (z refl);
    }
