-- `only_settings` meets its contract: allowed settings are those that were handed on, and no place is kept yet. Assumes nothing.
use mathlib.Core.Path.{◌≡◌, refl}
use Prim.Native.Nat.{ℕ, ◌-◌}
use native.Mathlib.Omega.{arith}
use Rattle.std.specs.Prelude.{Result, Ok, Err, IfOk}
use Rattle.std.specs.Result.{result_unwrap_or}
use Rattle.refusal.specs.declared.Refusal.{Refusal}
use Rattle.refusal.specs.Number.{answer_of}
use Rattle.refusal.proofs.Positive.{number-positive}
use Rattle.code.specs.Settings.{settings, settings_refusal}
use Rattle.code.specs.declared.settings.Settings.{Settings}
use Rattle.code.specs.Size.{most_columns}
use Rattle.bench_file.specs.Scenario.{only_settings, own_of, message_of}
use Rattle.bench_file.specs.Command.{no_message}
use Rattle.bench_file.specs.Steps.Places.{BytesAt, group_of, most_messages, message_index}
use Rattle.bench_file.proofs.Located.{none_some, none_at}
use Rattle.bench_file.proofs.places.Places.only_settings.Goals as goal

pub invariant_of-least : goal.invariant_of-least
unfolding settings_refusal settings
invariant_of-least c = record { allowed = refl }

handed_on :
    (n t w : ℕ) (r : Result Settings Refusal) (least : Settings) → answer_of r ≡ settings_refusal (settings n t w) →
    IfOk r (λ s. (s.n ≡ n) × (s.t ≡ t) × (s.w ≡ w)) → settings_refusal (settings n t w) ≡ 0 → settings n t w ≡ group_of (result_unwrap_or r least)
unfolding settings
handed_on n t w (Ok s) least answer same fine = simp (same.0, same.1, same.2)
handed_on n t w (Err e) least answer same fine = absurd (omega (arith, number-positive e, answer, fine))

pub returns : goal.returns
unfolding only_settings BytesAt own_of message_of no_message
returns c file fine =
    record {
      settings = rw c.unwrap_or.ensures (handed_on _ _ _ _ _ c.new.ensures.answer c.new.ensures.same fine);
      owns = λ k l m. rw (none_at most_columns (k - 1)) tt;
      messages = λ m k l range. rw (none_at most_messages (message_index m k l)) tt;
      late = refl;
      opens = λ k v e. none_some e;
    }
