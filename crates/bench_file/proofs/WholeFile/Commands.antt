-- A file command by command. One step of the commands' definition is one command: turned down, the end, or the rest behind it. No refusal
-- has a number above 20. Assumes nothing.
use mathlib.Core.Path.{◌≡◌, refl, ◌∙◌, ap}
use mathlib.Core.Bool.{Bool, true, false, cond, not, ◌&&◌, ◌||◌}
use mathlib.Core.List.{List, [], ◌∷◌}
use Prim.Native.Nat.{ℕ, zero, suc, ◌+◌, ◌-◌, ◌*◌, ◌≤◌, ◌<◌}
use native.Mathlib.Omega.{arith}
use lib.Dec.{eqb, leb, ltb}
use lib.ListN.{length, get_or, drop}
use borrow.Author.Tests.{eq-eqb, ne_eqb, ltb-false, lt-ltb, le-ltb}
use Rattle.code.specs.Settings.{Settings, settings_refusal}
use Rattle.arrays.proofs.Bool.{or_split}
use Rattle.grading.specs.Value.{is_blank}
use Rattle.record.specs.Refusal.{line, first_of, blank_refusal}
use Rattle.record.specs.Record.{is_taken}
use Rattle.record.proofs.Refusal.{first_of_zero}
use Rattle.bench_file.specs.Scenario.{Scenario, only_settings, is_good, message_of}
use Rattle.bench_file.specs.Command.{command_in, is_known, head_size, command_size, body_in, no_message, form_fault, form_refusal, is_column, column_refusal, message_refusal, checks_round_refusal, operand_refusal, value_refusal, command_refusal, after_command}
use Rattle.bench_file.specs.File.{refused, parsed, longest_file, group_in, group_refusal, commands_from, parse_commands, parse_file}
use Rattle.std.specs.Prelude.{Err}
use Rattle.refusal.specs.declared.Refusal.TheVariants.{Form}
use Rattle.bench_file.specs.Steps.Reading.{ParsedAs}
use Rattle.bench_file.proofs.OneCommand.Faults.{line_passed}

-- one command
module _ (many : ℕ) (f : Scenario) (bs : List ℕ) (some : 1 ≤ many) where
  step_once :
      commands_from many f bs
      ≡ cond (not (eqb (command_refusal f bs) 0)) (refused (command_refusal f bs))
      (cond (eqb (command_in bs) 15) (parsed f) (commands_from (many - 1) (after_command f bs) (drop (command_size f.settings (command_in bs)) bs)))
  unfolding commands_from
  step_once =
      let more : many ≡ suc (many - 1) = omega arith in
      ap (λ (k : ℕ). commands_from k f bs) more

  step_refused : (command_refusal f bs ≡ 0 → ⊥) → commands_from many f bs ≡ refused (command_refusal f bs)
  step_refused h = step_once ∙ rw (ne_eqb (command_refusal f bs) 0 h) refl

  pub step_end : command_refusal f bs ≡ 0 → command_in bs ≡ 15 → commands_from many f bs ≡ parsed f
  step_end h e = step_once ∙ rw (eq-eqb (command_refusal f bs) 0 h, eq-eqb (command_in bs) 15 e) refl

  pub step_next :
      command_refusal f bs ≡ 0 → (command_in bs ≡ 15 → ⊥) →
      commands_from many f bs ≡ commands_from (many - 1) (after_command f bs) (drop (command_size f.settings (command_in bs)) bs)
  step_next h e = step_once ∙ rw (eq-eqb (command_refusal f bs) 0 h, ne_eqb (command_in bs) 15 e) refl

-- a command that is turned down, also one of no bytes, however many commands may still come
pub refused_at : (many : ℕ) (f : Scenario) (bs : List ℕ) → length bs ≤ many → (command_refusal f bs ≡ 0 → ⊥) → commands_from many f bs ≡ refused (command_refusal f bs)
unfolding commands_from command_refusal form_refusal form_fault is_known command_in first_of
refused_at zero f [] h e = refl
refused_at zero f (b ∷ bs) h e = absurd (omega (arith, h))
refused_at (suc k) f bs h e = step_refused (suc k) f bs (omega arith) e

-- a command has a byte
pub head_some : (c : ℕ) → 1 ≤ head_size c
unfolding head_size
head_some c = go (eqb c 4) (eqb c 2) (eqb c 3)
  where
    go : (p q r : Bool) → 1 ≤ cond p 2 (cond q 3 (cond r 4 1))
    go true q r = omega arith
    go false true r = omega arith
    go false false true = omega arith
    go false false false = omega arith

-- numbers
cond_le : (q : Bool) (a b m : ℕ) → a ≤ m → b ≤ m → cond q a b ≤ m
cond_le true a b m h l = h
cond_le false a b m h l = l

none_le : (m : ℕ) → first_of [] ≤ m
unfolding first_of
none_le m = omega arith

first_of_le : (a : ℕ) (rest : List ℕ) (m : ℕ) → a ≤ m → first_of rest ≤ m → first_of (a ∷ rest) ≤ m
unfolding first_of
first_of_le a rest m h l = cond_le (eqb a 0) (first_of rest) a m l h

form_le : (f : Scenario) (bs : List ℕ) → form_refusal f bs ≤ 20
unfolding form_refusal form_fault
form_le f bs =
    cond_le (not (is_known (command_in bs))) 19 _ 20 (omega arith)
    (cond_le (eqb (command_in bs) 4 && not (no_message f.messages)) 19 _ 20 (omega arith)
    (cond_le (ltb (length bs) (command_size f.settings (command_in bs))) 19 _ 20 (omega arith)
    (cond_le (eqb (command_in bs) 15 && ltb 1 (length bs)) 19 0 20 (omega arith) (omega arith))))

column_le : (f : Scenario) (k : ℕ) → column_refusal f k ≤ 20
unfolding column_refusal
column_le f k = cond_le (not (is_column f.settings.n k)) 20 _ 20 (omega arith) (cond_le (is_good f k) 20 0 20 (omega arith) (omega arith))

message_le : (f : Scenario) (m k l : ℕ) → message_refusal f m k l ≤ 20
unfolding message_refusal
message_le f m k l =
    cond_le (not (is_column f.settings.n k)) 20 _ 20 (omega arith)
    (cond_le (not (is_column f.settings.n l)) 20 _ 20 (omega arith)
    (cond_le (is_good f k) 20 _ 20 (omega arith)
    (cond_le (not (is_good f l)) 20 _ 20 (omega arith)
    (cond_le (is_taken (message_of f.messages m k l)) 20 0 20 (omega arith) (omega arith)))))

checks_round_le : (c m : ℕ) → checks_round_refusal c m ≤ 20
unfolding checks_round_refusal
checks_round_le c m = cond_le (eqb c 3) _ 0 20 (cond_le (eqb m 2 || eqb m 3) 0 20 20 (omega arith) (omega arith)) (omega arith)

operand_le : (f : Scenario) (bs : List ℕ) → operand_refusal f bs ≤ 20
unfolding operand_refusal
operand_le f bs =
    cond_le (eqb (command_in bs) 15) 0 _ 20 (omega arith)
    (cond_le (eqb (command_in bs) 4) _ _ 20 (column_le f (get_or bs 1 0)) (first_of_le _ _ 20 (checks_round_le (command_in bs) _) (first_of_le _ _ 20 (message_le f _ _ _) (none_le 20))))

value_le : (f : Scenario) (bs : List ℕ) → value_refusal f bs ≤ 20
unfolding value_refusal blank_refusal line
value_le f bs = cond_le (eqb (command_in bs) 4) _ 0 20 (cond_le (is_blank (body_in f.settings bs)) 6 0 20 (omega arith) (omega arith)) (omega arith)

pub command_le : (f : Scenario) (bs : List ℕ) → command_refusal f bs ≤ 20
unfolding command_refusal
command_le f bs = first_of_le _ _ 20 (form_le f bs) (first_of_le _ _ 20 (operand_le f bs) (first_of_le _ _ 20 (value_le f bs) (none_le 20)))

-- the group command
settings_le : (s : Settings) → settings_refusal s ≤ 20
unfolding settings_refusal
settings_le s =
    cond_le (not (leb 1 s.n && leb s.n 32)) 1 _ 20 (omega arith)
    (cond_le (ltb s.n (3 * s.t + 1)) 2 _ 20 (omega arith) (cond_le (leb 1 s.w && leb s.w 8) 0 3 20 (omega arith) (omega arith)))

pub group_le : (bs : List ℕ) → group_refusal bs ≤ 20
unfolding group_refusal
group_le bs = first_of_le _ _ 20 (cond_le (not (eqb (command_in bs) 1) || ltb (length bs) 4) 19 0 20 (omega arith) (omega arith)) (first_of_le _ _ 20 (settings_le (group_in bs)) (none_le 20))

pub group_fits : (bs : List ℕ) → group_refusal bs ≡ 0 → (4 ≤ length bs) × (settings_refusal (group_in bs) ≡ 0)
unfolding group_refusal
group_fits bs e =
    let lines = first_of_zero _ _ e in
    (ltb-false _ _ (or_split (not (eqb (command_in bs) 1)) _ (line_passed _ 19 0 (omega arith) lines.0).0).1, (first_of_zero _ _ lines.1).0)

-- a whole file
parse_long : (bs : List ℕ) → longest_file < length bs → parse_file bs ≡ refused 19
unfolding parse_file
parse_long bs h = rw (lt-ltb longest_file (length bs) h) refl

pub parsed_long : (bs : List ℕ) → longest_file < length bs → ParsedAs (parse_file bs) bs (Err Form)
unfolding ParsedAs
parsed_long bs h = rw (parse_long bs h) (refl, (λ z. omega (arith, z)), omega arith)

pub parse_refused : (bs : List ℕ) → length bs ≤ longest_file → (group_refusal bs ≡ 0 → ⊥) → parse_file bs ≡ refused (group_refusal bs)
unfolding parse_file parse_commands
parse_refused bs h e = rw (le-ltb longest_file (length bs) h, ne_eqb (group_refusal bs) 0 e) refl

pub parse_passed :
    (bs : List ℕ) → length bs ≤ longest_file → group_refusal bs ≡ 0 → parse_file bs ≡ commands_from (length bs) (only_settings (group_in bs)) (drop 4 bs)
unfolding parse_file parse_commands
parse_passed bs h e = rw (le-ltb longest_file (length bs) h, eq-eqb (group_refusal bs) 0 e) refl
