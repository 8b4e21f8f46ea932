-- `by_checks` meets its contract: what repair leaves in front of blanks, or the last answer again. Assumes nothing.
use mathlib.Core.Path.{◌≡◌}
use native.Mathlib.Omega.{arith}
use lib.ListN.{length}
use borrow.Author.Rules.{rules}
use Rattle.arrays.proofs.Bytes.{bytes_every}
use Rattle.code.specs.Settings.{settings, check_count, value_size}
use Rattle.code.specs.Size.{vector_room, checks_room}
use Rattle.rounds.specs.Steps.Senders.{coded_settings, coded_vector}
use Rattle.rounds.proofs.SenderRow.{repaired_again}
use Rattle.rounds.proofs.senders.by_checks.Goals as goal

pub returns : goal.returns
unfolding coded_settings coded_vector settings check_count value_size
returns c =
    let own = c.args.own.now in
    let s = own.settings in
    let vector : length own.vector ≡ vector_room = search rules in
    let checks : length own.checks ≡ checks_room = search rules in
    repaired_again s.n s.t s.w _ _ own.vector own.checks c.args.checks.now c.args.row.now s.allowed c.vector_size-size.ensures.0 c.checks_size.ensures.0
    (omega (arith, c.vector_size-size.ensures)) (omega (arith, c.checks_size.ensures)) c.requires.0 (bytes_every c.args.checks.now (λ i. (c.type_inv.checks i).fits)) own.checked
    (omega (arith, c.vector_size-size.ensures, c.requires.1.long)) c.requires.1.blank c.args.last_checks.now _ _ c.repair_again.ensures
