-- `repaired` meets its contract: the part of the frame behind its header goes to repair, and to the front of the last checks, where it
-- stands already if they are the same. Assumes nothing.
use mathlib.Core.Path.{◌≡◌, refl, sym, ◌∙◌, ap}
use mathlib.Core.List.{◌++◌}
use Prim.Native.Nat.{ℕ, ◌+◌, ◌-◌}
use native.Mathlib.Omega.{arith}
use lib.ListN.{length, take, drop, length-drop, length-append}
use lib.Seq.{length-take-le, take_at}
use Rattle.std.specs.Prelude.{Option, Some, None}
use Rattle.record.specs.Frame.{header_size, operand_in}
use Rattle.repair.specs.declared.RepairAnswer.{RepairAnswer}
use Rattle.rounds.specs.Steps.Senders.{coded_settings, coded_vector, checks_size, RepairedAgain}
use Rattle.rounds.proofs.senders.repaired.Goals as goal
use Rattle.rounds.proofs.senders.repaired.Goals.{After-by_checks}

-- the part behind the header has the checks' size
came : (c : After-by_checks) → let bytes = c.args.slot.now.bytes in let size = c.checks_size-size.result in
    take (header_size + size - header_size) (drop header_size bytes) ≡ take (checks_size (coded_settings c.args.own.now)) (operand_in bytes)
unfolding operand_in
came c =
    let size = c.checks_size-size.result in
    let same : header_size + size - header_size ≡ checks_size (coded_settings c.args.own.now) = omega (arith, c.checks_size-size.ensures) in
    ap (λ (k : ℕ). take k (drop header_size c.args.slot.now.bytes)) same

-- what repair found, with the sizes that the contract names
found :
    (c : After-by_checks) (answer : Option RepairAnswer) →
    (
    let own = c.args.own.now in
    let bytes = c.args.slot.now.bytes in
    let size = c.checks_size-size.result in
    RepairedAgain (coded_settings own) (coded_vector own) (take (header_size + size - header_size) (drop header_size bytes))
    (take size c.args.last_checks.now) answer c.args.row.now c.by_checks.new.row →
    RepairedAgain (coded_settings own) (coded_vector own) (take (checks_size (coded_settings own)) (operand_in bytes))
    (take (checks_size (coded_settings own)) c.args.last_checks.now) answer c.args.row.now c.by_checks.new.row)
found c answer r = rw c.checks_size-size.ensures.0 at (rw (came c) at r)

pub returns-in_err-answer : goal.returns-in_err-answer
unfolding RepairedAgain
returns-in_err-answer c =
    let r = found (goal.at.returns-in_err-answer c).After-by_checks None c.in_err-answer.ensures in
    rw c.from_residual.ensures (record { long = refl; kept = sym r.0; found = r })

pub returns : goal.returns
returns c =
    let part = c.copy_from_slice.new.self in
    let old = c.args.last_checks.now in
    let size = c.checks_size-size.result in
    let many : length part ≡ size = c.copy_from_slice.ensures.len ∙ length-take-le size old (omega (arith, c.requires, c.checks_size-size.ensures)) in
    let rest = drop size old in
    record {
      long = omega (arith, length-append part rest, length-drop size old, c.requires, c.checks_size-size.ensures);
      kept = ap (λ (k : ℕ). take k (part ++ rest)) (sym c.checks_size-size.ensures.0) ∙ take_at part rest size many ∙ c.copy_from_slice.ensures.after ∙ came (goal.at.returns c).After-by_checks;
      found = found (goal.at.returns c).After-by_checks (Some c.in_ok-answer.answer) c.in_ok-answer.ensures;
    }
