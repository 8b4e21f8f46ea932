-- What a command that is not turned down says, and where its value or check values stand. An own value is one to open with, since every
-- line of opening was tested; a message of rounds two and three has the size of its round's operand. Assumes nothing.
use mathlib.Core.Path.{◌≡◌, refl, sym, ◌∙◌, ap, ap₂}
use mathlib.Core.Bool.{true}
use mathlib.Core.List.{List}
use mathlib.Core.Option.{some}
use Rattle.std.specs.Prelude.{Some}
use mathlib.Core.Logic.{◌⊎◌, inl, inr}
use Prim.Native.Nat.{ℕ, ◌+◌, ◌≤◌}
use native.Mathlib.Omega.{arith}
use lib.ListN.{length, get_or, take, drop, length-drop}
use lib.Seq.{drop-drop, length-take-le}
use borrow.Author.Tests.{eq-eqb, ne_eqb, le-leb}
use Rattle.code.specs.Settings.{Settings, settings_refusal}
use Rattle.grading.specs.Value.{Value}
use Rattle.record.specs.Frame.{operand_size}
use Rattle.record.specs.Refusal.{line, number_refusal, size_refusal, blank_refusal, open_refusal}
use Rattle.record.proofs.Refusal.{first_of_zero, first_of_next, first_of_last}
use Rattle.bench_file.specs.Scenario.{Scenario, Message, message, with_own, with_message}
use Rattle.bench_file.specs.Command.{command_in, is_known, head_size, body_size, command_size, body_in, form_refusal, round_in, from_in, to_in, message_in, checks_round_refusal, operand_refusal, value_refusal, command_refusal, after_command}
use Rattle.bench_file.specs.Steps.Places.{BytesAt}
use Rattle.bench_file.specs.Steps.CommandAt.{Says}
use Rattle.bench_file.specs.declared.commands.Command.TheVariants.{Own}
use Rattle.bench_file.proofs.OneCommand.Faults.{form_fits, own_inside, MessageInside, message_inside, heading_round, round_inside, known_cases, body_own, operand_own, operand_message, own_size}

-- all lines passed
record Passed (f : Scenario) (bs : List ℕ) : Type 0 where
  form : form_refusal f bs ≡ 0
  operand : operand_refusal f bs ≡ 0
  value : value_refusal f bs ≡ 0

passed : (f : Scenario) (bs : List ℕ) → command_refusal f bs ≡ 0 → Passed f bs
unfolding command_refusal
passed f bs e =
    let first = first_of_zero _ _ e in
    let second = first_of_zero _ _ first.1 in
    record { form = first.0; operand = second.0; value = (first_of_zero _ _ second.1).0 }

-- a value that can be opened with
opens_with :
    (s : Settings) (k : ℕ) (v : Value) → settings_refusal s ≡ 0 → 1 ≤ k → k ≤ s.n → length v ≡ s.w → blank_refusal v ≡ 0 → open_refusal s k v ≡ 0
unfolding open_refusal number_refusal size_refusal line
opens_with s k v fine low high size filled =
    let number : number_refusal s.n k ≡ 0 = rw (le-leb 1 k low, le-leb k s.n high) refl in
    let long : size_refusal s.w v ≡ 0 = rw (eq-eqb (length v) s.w size) refl in
    first_of_next _ fine (first_of_next _ number (first_of_next _ long (first_of_last _ ∙ filled)))

-- an own value
pub record OwnRead (file : List ℕ) (f : Scenario) (at k : ℕ) (v : Value) : Type 0 where
  pub size : at + 2 + f.settings.w ≤ length file
  pub value : v ≡ take f.settings.w (drop (at + 2) file)
  pub opens : open_refusal f.settings k v ≡ 0
  pub after : after_command f (drop at file) ≡ with_own f k v

pub own_read :
    (file : List ℕ) (f : Scenario) (at : ℕ) → settings_refusal f.settings ≡ 0 → at ≤ length file → command_refusal f (drop at file) ≡ 0 →
    command_in (drop at file) ≡ 4 → OwnRead file f at (get_or (drop at file) 1 0) (body_in f.settings (drop at file))
unfolding after_command value_refusal
own_read file f at fine inside e own =
    let bs = drop at file in
    let lines = passed f bs e in
    let column = own_inside f _ (sym (operand_own f bs own) ∙ lines.operand) in
    let w = f.settings.w in
    let fits : command_size f.settings 4 ≤ length bs = rw own at (form_fits f bs lines.form).1 in
    let there : at + 2 + w ≤ length file = omega (arith, fits, own_size f.settings, length-drop at file) in
    let value = body_own f.settings file at w refl own in
    let long : length (body_in f.settings bs) ≡ w =
    ap length value ∙ length-take-le w (drop (at + 2) file) (omega (arith, length-drop (at + 2) file, there)) in
    let filled : blank_refusal (body_in f.settings bs) ≡ 0 = rw (eq-eqb (command_in bs) 4 own) at lines.value in
    record {
      size = there;
      value = value;
      opens = opens_with f.settings _ _ fine column.0 column.1 long filled;
      after = rw (eq-eqb (command_in bs) 4 own) refl;
    }

-- a message
pub record MessageRead (file : List ℕ) (f : Scenario) (at c : ℕ) (m : Message) : Type 0 where
  pub round_low : 1 ≤ m.round
  pub round_high : m.round ≤ 3
  pub columns : MessageInside f m.from m.to
  pub size : at + head_size c + operand_size f.settings m.round ≤ length file
  pub operand : m.operand ≡ take (operand_size f.settings m.round) (drop (at + head_size c) file)
  pub after : after_command f (drop at file) ≡ with_message f m

-- the operand of a message has the size of its round
checks_alike : (s : Settings) (m : ℕ) → 2 ≤ m → operand_size s 2 ≡ operand_size s m
unfolding operand_size
checks_alike s m h = rw (ne_eqb m 1 (λ z. omega arith)) refl

body_round :
    (s : Settings) (bs : List ℕ) → (command_in bs ≡ 2) ⊎ (command_in bs ≡ 3) → checks_round_refusal (command_in bs) (round_in bs) ≡ 0 →
    body_size s (command_in bs) ≡ operand_size s (round_in bs)
unfolding body_size round_in
body_round s bs (inl two) e = rw two refl
body_round s bs (inr three) e =
    let round = round_inside (get_or bs 1 0) (rw three at e) in
    rw three (checks_alike s (get_or bs 1 0) round.0)

message_cases : (c : ℕ) → is_known c ≡ true → (c ≡ 4 → ⊥) → (c ≡ 15 → ⊥) → (c ≡ 2) ⊎ (c ≡ 3)
message_cases c e no_own no_end = go (known_cases c e)
  where
    go : (c ≡ 4) ⊎ ((c ≡ 2) ⊎ ((c ≡ 3) ⊎ (c ≡ 15))) → (c ≡ 2) ⊎ (c ≡ 3)
    go (inl four) = absurd (no_own four)
    go (inr (inl two)) = inl two
    go (inr (inr (inl three))) = inr three
    go (inr (inr (inr end))) = absurd (no_end end)

pub message_read :
    (file : List ℕ) (f : Scenario) (at : ℕ) → at ≤ length file → command_refusal f (drop at file) ≡ 0 → (command_in (drop at file) ≡ 4 → ⊥) →
    (command_in (drop at file) ≡ 15 → ⊥) → MessageRead file f at (command_in (drop at file)) (message_in f.settings (drop at file))
unfolding after_command command_size body_in message_in message
message_read file f at inside e no_own no_end =
    let bs = drop at file in
    let s = f.settings in
    let c = command_in bs in
    let m = message_in s bs in
    let lines = passed f bs e in
    let fits = form_fits f bs lines.form in
    let allowed = first_of_zero _ _ (sym (operand_message f bs no_end no_own refl refl refl refl) ∙ lines.operand) in
    let round = heading_round bs m.round refl fits.0 no_end no_own refl allowed.0 in
    let size = body_round s bs (message_cases c fits.0 no_own no_end) allowed.0 in
    record {
      round_low = round.0;
      round_high = round.1;
      columns = message_inside f _ _ _ (first_of_zero _ _ allowed.1).0;
      size = omega (arith, fits.1, size, length-drop at file);
      operand = ap (λ (k : ℕ). take k (drop (head_size c) bs)) size ∙ ap (take (operand_size s m.round)) (drop-drop (head_size c) at file);
      after = rw (ne_eqb (command_in bs) 4 no_own) refl;
    }

pub same_message : {m k l : ℕ} {x : Message} → m ≡ x.round → k ≡ x.from → l ≡ x.to → message m k l x.operand ≡ x
unfolding message
same_message {m} {k} {l} {x} a b c = rw (a, b, c) refl

-- a command that is not turned down is all there
pub command_fits :
    (file : List ℕ) (f : Scenario) (at : ℕ) → at ≤ length file → command_refusal f (drop at file) ≡ 0 → at + command_size f.settings (command_in (drop at file)) ≤ length file
command_fits file f at inside e = omega (arith, (form_fits f (drop at file) (passed f (drop at file) e).form).1, length-drop at file)

-- what is put for a command: an own value, or a message, at the place behind its head
pub own_put :
    (file : List ℕ) (f : Scenario) (at body k w : ℕ) → f.settings.w ≡ w → settings_refusal f.settings ≡ 0 → at ≤ length file →
    command_refusal f (drop at file) ≡ 0 → Says (drop at file) (Own k) → body ≡ at + head_size 4 →
    BytesAt file w (Some body) (some (body_in f.settings (drop at file))) × (open_refusal f.settings k (body_in f.settings (drop at file)) ≡ 0)
    × (after_command f (drop at file) ≡ with_own f k (body_in f.settings (drop at file)))
unfolding head_size BytesAt
own_put file f at body k w bytes fine inside e says same =
    let r = own_read file f at fine inside e says.0 in
    let v = body_in f.settings (drop at file) in (
      (omega (arith, same, bytes, r.size), r.value ∙ ap₂ (λ (m i : ℕ). take m (drop i file)) bytes (sym same)),
      ap (λ (i : ℕ). open_refusal f.settings i v) (sym says.1) ∙ r.opens,
      r.after ∙ ap (λ (i : ℕ). with_own f i v) says.1,
    )

pub message_put :
    (file : List ℕ) (f : Scenario) (at body m k l : ℕ) → at ≤ length file → command_refusal f (drop at file) ≡ 0 →
    (command_in (drop at file) ≡ 4 → ⊥) → (command_in (drop at file) ≡ 15 → ⊥) →
    (round_in (drop at file) ≡ m) × (from_in (drop at file) ≡ k) × (to_in (drop at file) ≡ l) → body ≡ at + head_size (command_in (drop at file)) →
    let x = (message_in f.settings (drop at file)).operand in
    BytesAt file (operand_size f.settings m) (Some body) (some x) × (after_command f (drop at file) ≡ with_message f (message m k l x))
unfolding message_in message BytesAt
message_put file f at body m k l inside e no_own no_end says same =
    let bs = drop at file in
    let r = message_read file f at inside e no_own no_end in
    let size = ap (operand_size f.settings) says.0 in (
      (
        omega (arith, same, size, r.size),
        r.operand ∙ ap (λ (i : ℕ). take i (drop (at + head_size (command_in bs)) file)) size
            ∙ ap (λ (i : ℕ). take (operand_size f.settings m) (drop i file)) (sym same),
      ),
      r.after ∙ ap (with_message f) (sym (same_message (sym says.0) (sym says.1) (sym says.2))),
    )
