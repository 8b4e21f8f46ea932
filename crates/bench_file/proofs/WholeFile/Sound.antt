-- Whatever a file says, its settings are right and its own values can be opened with: the settings are tested first, and every own value
-- as its command is read. Command by command. Assumes nothing.
use mathlib.Core.Path.{◌≡◌, refl, sym}
use mathlib.Core.Bool.{Bool, true, false, cond, not}
use mathlib.Core.List.{List}
use mathlib.Core.Option.{some}
use Prim.Native.Nat.{ℕ, zero, suc}
use native.Mathlib.Omega.{arith}
use lib.Dec.{eqb, ltb}
use lib.ListN.{length, get_or, drop}
use borrow.Author.Tests.{eqb-true}
use Rattle.code.specs.Settings.{settings_refusal}
use Rattle.grading.specs.Value.{Value}
use Rattle.record.specs.Refusal.{open_refusal}
use Rattle.bench_file.specs.Scenario.{Scenario, only_settings, with_own, with_message, own_of}
use Rattle.bench_file.specs.Command.{command_in, command_size, body_in, message_in, command_refusal, after_command}
use Rattle.bench_file.specs.File.{refused, parsed, longest_file, group_in, group_refusal, commands_from, parse_commands, parse_file}
use Rattle.bench_file.proofs.Located.{none_some, own_opens}
use Rattle.bench_file.proofs.OneCommand.Readings.{own_read}
use Rattle.bench_file.proofs.WholeFile.Commands.{group_fits}

pub record Sound (f : Scenario) : Type 0 where
  pub fine : settings_refusal f.settings ≡ 0
  pub opens : (k : ℕ) (v : Value) → own_of f.owns k ≡ some v → open_refusal f.settings k v ≡ 0

-- a file that is turned down says nothing
refused_parsed : {A : Type 0} {n : ℕ} {f : Scenario} → refused n ≡ parsed f → A
refused_parsed e = absurd (let z : ◌≡◌ {A = ℕ} 0 1 = cc in omega arith)

parsed_same : {f g : Scenario} → parsed f ≡ parsed g → f ≡ g
parsed_same e = cc

-- one command
own_sound : (f : Scenario) (bs : List ℕ) → Sound f → command_refusal f bs ≡ 0 → command_in bs ≡ 4 → Sound (with_own f (get_or bs 1 0) (body_in f.settings bs))
unfolding with_own own_of
own_sound f bs h e own =
    let s = f.settings in
    let r = own_read bs f 0 h.fine (omega arith) e own in
    record { fine = h.fine; opens = λ k v g. own_opens s (get_or bs 1 0) (body_in s bs) f.owns r.opens h.opens k v g }

after_sound : (f : Scenario) (bs : List ℕ) → Sound f → command_refusal f bs ≡ 0 → Sound (after_command f bs)
unfolding after_command with_message
after_sound f bs h e = go (eqb (command_in bs) 4) refl
  where
    go : (q : Bool) → eqb (command_in bs) 4 ≡ q → Sound (cond q (with_own f (get_or bs 1 0) (body_in f.settings bs)) (with_message f (message_in f.settings bs)))
    go true g = own_sound f bs h e (eqb-true _ _ g)
    go false g = record { fine = h.fine; opens = h.opens }

-- all commands
commands_sound : (many : ℕ) (f g : Scenario) (bs : List ℕ) → Sound f → commands_from many f bs ≡ parsed g → Sound g
unfolding commands_from
commands_sound zero f g bs h e = refused_parsed e
commands_sound (suc k) f g bs h e =
    go (λ more. commands_sound k (after_command f bs) g (drop (command_size f.settings (command_in bs)) bs) more) (eqb (command_refusal f bs) 0) (eqb (command_in bs) 15) refl e
  where
    go :
        (Sound (after_command f bs) → commands_from k (after_command f bs) (drop (command_size f.settings (command_in bs)) bs) ≡ parsed g → Sound g) →
        (q r : Bool) → eqb (command_refusal f bs) 0 ≡ q →
        cond (not q) (refused (command_refusal f bs))
        (cond r (parsed f) (commands_from k (after_command f bs) (drop (command_size f.settings (command_in bs)) bs)))
        ≡ parsed g →
        Sound g
    go more false r a b = refused_parsed b
    go more true true a b = rw (sym (parsed_same b)) h
    go more true false a b = more (after_sound f bs h (eqb-true _ _ a)) b

pub file_sound : (bs : List ℕ) (g : Scenario) → parse_file bs ≡ parsed g → Sound g
unfolding parse_file parse_commands only_settings own_of
file_sound bs g e = go (ltb longest_file (length bs)) (eqb (group_refusal bs) 0) refl e
  where
    go :
        (q r : Bool) → eqb (group_refusal bs) 0 ≡ r →
        cond q (refused 19) (cond (not r) (refused (group_refusal bs)) (commands_from (length bs) (only_settings (group_in bs)) (drop 4 bs))) ≡ parsed g → Sound g
    go true r a b = refused_parsed b
    go false false a b = refused_parsed b
    go false true a b =
        commands_sound (length bs) (only_settings (group_in bs)) g (drop 4 bs)
        (record { fine = (group_fits bs (eqb-true _ _ a)).1; opens = λ k v none_there. none_some none_there }) b
