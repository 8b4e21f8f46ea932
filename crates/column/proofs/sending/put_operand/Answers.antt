-- `put_operand` meets its contract, round by round: the own value copied, the checks of V, the checks of Y. Assumes nothing.
use mathlib.Core.Bool.{true}
use mathlib.Core.Path.{◌≡◌, sym, ◌∙◌, ap}
use Prim.Native.Nat.{ℕ, ◌≤◌}
use native.Mathlib.Omega.{arith}
use lib.ListN.{length, take}
use lib.Seq.{length-take-le}
use borrow.Author.Rules.{rules}
use borrow.Author.Tests.{eq-eqb, ne_eqb}
use Rattle.code.specs.Settings.{settings, value_size}
use Rattle.code.specs.Vector.{has_checks}
use Rattle.code.specs.Entry.{values_in}
use Rattle.code.specs.Size.{value_room, vector_room}
use Rattle.record.specs.Frame.{operand_size, checks_in}
use Rattle.rounds.specs.Steps.Closing.{checked_in}
use Rattle.record.specs.Record.{who_as}
use Rattle.record.specs.View.{settings_of, who_in}
use Rattle.record.proofs.Checked.{settings_are}
use Rattle.record.proofs.Refusal.{first_of_zero, round_inside}
use Rattle.column.proofs.Sent.{operand_own, operand_checked}
use Rattle.column.proofs.sending.put_operand.Goals as goal
use Rattle.column.proofs.sending.put_operand.Goals.{After-put_checks, After-size, Start}

-- the settings are the column's, and the round is 1, 2 or 3
same : (c : Start) → settings c.args.settings.n c.args.settings.t c.args.settings.w ≡ settings_of c.args.who.now
unfolding settings_of
same c = let who = c.args.who.now in settings_are who.n who.t who.w c.args.settings c.requires.fine.1

rounds : (c : Start) → (1 ≤ c.args.round) × (c.args.round ≤ 3)
rounds c = round_inside c.args.round (first_of_zero _ _ (first_of_zero _ _ c.requires.fine.0).1).0

-- the own value
size_is : (c : After-size) → c.size.result ≡ c.args.who.now.w
size_is c = c.size.ensures.value ∙ c.requires.fine.1.2

own_long : (c : After-size) → length (take c.size.result c.args.who.now.own) ≡ c.size.result
own_long c = let long : length c.args.who.now.own ≡ value_room = search rules in length-take-le _ _ (omega (arith, c.size.ensures.bounds))

pub copy_from_slice-requires : goal.copy_from_slice-requires
unfolding operand_size settings_of settings value_size
copy_from_slice-requires c =
    let before = (goal.at.copy_from_slice-requires c).After-size in
    c.requires.long ∙ rw (eq-eqb _ 1 c.if-round-eq1.true) (sym (own_long before ∙ size_is before))

pub returns-then-round-eq1 : goal.returns-then-round-eq1
unfolding who_in who_as settings_of settings value_size
returns-then-round-eq1 c =
    let own = c.args.who.now.own in
    operand_own c.args.round (who_in c.args.who.now) _ _ c.if-round-eq1.true
    (c.copy_from_slice.ensures.after ∙ ap (λ (k : ℕ). take k own) (size_is (goal.at.returns-then-round-eq1 c).After-size))

pub put_checks-requires : goal.put_checks-requires
unfolding operand_size
put_checks-requires c =
    let long : length c.checked_copy-vector.result ≡ vector_room = search rules in
    (long, rw (same (goal.at.put_checks-requires c).Start) (c.requires.long ∙ rw (ne_eqb _ 1 c.if-round-eq1.false)))

-- what was put in, of the column's settings
checked :
    (c : After-put_checks) →
    (let who = c.args.who.now in
    has_checks (settings_of who) (values_in (settings_of who) who.n (checked_in c.args.round c.args.found.now)) (checks_in (settings_of who) c.put_checks.new.operand)
    ≡ true)
checked c = rw (same (goal.at.After-put_checks c).Start, c.requires.fine.1.0, c.checked_copy-vector.ensures) at c.put_checks.ensures

pub returns : goal.returns
unfolding who_in who_as settings_of settings
returns c =
    let a = c.args in
    let r = rounds (goal.at.returns c).Start in
    operand_checked a.round (who_in a.who.now) a.found.now _ (omega (arith, r, c.if-round-eq1.false)) r.1 (checked (goal.at.returns c).After-put_checks)
