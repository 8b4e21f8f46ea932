-- `put` meets its contract: the own value or the message that the command says, at the place behind its head. Assumes nothing.
use mathlib.Core.Path.{sym, ◌∙◌, ap}
use Prim.Native.Nat.{ℕ, ◌+◌}
use native.Mathlib.Omega.{arith}
use Rattle.code.specs.Settings.{Settings as Group}
use Rattle.bench_file.specs.Command.{head_size}
use Rattle.bench_file.proofs.Located.{located_fine}
use Rattle.bench_file.proofs.OneCommand.Faults.{says_code, heading_value, heading_checks}
use Rattle.bench_file.proofs.OneCommand.Readings.{own_put, message_put}
use Rattle.bench_file.proofs.commands.Command.put.Goals as goal

pub returns-in-Own : goal.returns-in-Own
returns-in-Own c file f k =
    let a = c.args in
    let h = k.located in
    let says = rw c.in-Own.is at k.says in
    let body = ap (λ (i : ℕ). a.at + i) (rw c.in-Own.is at c.head_size.ensures.value) in
    let put =
    own_put file f a.at (a.at + c.head_size.result) c.in-Own.column _ (ap (λ (s : Group). s.w) h.settings) (located_fine file _ f h) k.inside
    k.fine says body in
    rw put.2 (c.put_own.ensures file f _ h put.0 put.1)

pub returns-in-Value : goal.returns-in-Value
returns-in-Value c file f k =
    let a = c.args in
    let body = ap (λ (i : ℕ). a.at + i) (c.head_size.ensures.value ∙ ap head_size (sym (says_code _ a.self k.says))) in
    let says = rw c.in-Value.is at k.says in
    let put =
    message_put file f a.at (a.at + c.head_size.result) 1 _ _ k.inside k.fine (λ z. absurd (omega (arith, z, says.0))) k.goes_on
    (heading_value _ _ _ says) body in
    rw put.1 (c.put_message.ensures file f _ k.located put.0)

pub returns-in-Checks : goal.returns-in-Checks
returns-in-Checks c file f k =
    let a = c.args in
    let body = ap (λ (i : ℕ). a.at + i) (c.head_size.ensures.value ∙ ap head_size (sym (says_code _ a.self k.says))) in
    let says = rw c.in-Checks.is at k.says in
    let put =
    message_put file f a.at (a.at + c.head_size.result) _ _ _ k.inside k.fine (λ z. absurd (omega (arith, z, says.0))) k.goes_on
    (heading_checks _ _ _ _ says) body in
    rw put.1 (c.put_message-in-Checks.ensures file f _ k.located put.0)
