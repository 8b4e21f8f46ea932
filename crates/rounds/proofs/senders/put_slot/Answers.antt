-- `put_slot` meets its contract: its three cases. Assumes nothing.
use mathlib.Core.Path.{◌≡◌, ◌∙◌}
use Prim.Native.Nat.{◌*◌, ◌≤◌}
use native.Mathlib.Omega.{arith}
use lib.ListN.{length}
use Rattle.code.specs.Settings.{settings, value_size}
use Rattle.code.specs.Size.{vector_room}
use Rattle.code.proofs.ValidSettings.{Sizes, sizes, values_fit}
use Rattle.rounds.specs.Steps.Senders.{coded_settings}
use Rattle.rounds.proofs.SenderRow.{vector_fits}
use Rattle.rounds.proofs.SlotRow.{zeros_empty, slot_missing, slot_few, slot_again, slot_repaired}
use Rattle.rounds.proofs.senders.put_slot.Goals as goal
use Rattle.rounds.proofs.senders.put_slot.Goals.{After-repaired, Start}

-- the settings are within bounds, and a vector has room in its array
few : (c : Start) → Sizes (coded_settings c.args.own.now)
unfolding coded_settings
few c = sizes _ c.args.own.now.settings.allowed

small : (c : Start) → c.args.own.now.settings.n * c.args.own.now.settings.w ≤ vector_room
small c = vector_fits c.args.own.now.settings.n c.args.own.now.settings.t c.args.own.now.settings.w c.args.own.now.settings.allowed

row_long : (c : After-repaired) → length c.repaired.new.row ≡ vector_room
row_long c = c.repaired.auto.row ∙ c.requires.empty_row.0.long

pub returns-then-slot-eq0 : goal.returns-then-slot-eq0
returns-then-slot-eq0 c =
    slot_missing _ _ _ _ _ _ _ c.requires.i_lt_n.3 c.requires.empty_row.0 c.if-slot-eq0.true c.requires.empty_row.1 c.requires.empty_row.2

pub copy_row-requires : goal.copy_row-requires
unfolding coded_settings settings
copy_row-requires c =
    let z = few (goal.at.copy_row-requires c).Start in (omega arith, omega arith, c.size.ensures.bounds.1, c.requires.empty_row.1)

pub returns-in_default : goal.returns-in_default
unfolding coded_settings settings value_size
returns-in_default c =
    rw c.told_by.ensures
    (slot_again _ _ _ _ _ _ _ c.requires.i_lt_n.3 c.requires.empty_row.0 _ _ _ c.if-slot-eq0.false c.in_default.ensures c.requires.i_lt_n.2 (rw c.size.ensures.value at c.copy_row.ensures))

pub put_row-requires : goal.put_row-requires
unfolding coded_settings settings
put_row-requires c =
    let z = few (goal.at.put_row-requires c).Start in
    let long = row_long (goal.at.put_row-requires c).After-repaired in
    let n = c.columns.ensures.bounds.1 in
    let w = c.size-2.ensures.bounds.1 in
    (omega arith, n, w, omega (arith, values_fit _ _ n w), c.requires.empty_row.1)

pub told_by-requires-2 : goal.told_by-requires-2
told_by-requires-2 c =
    slot_few _ _ _ c.args.i _ _ _ c.requires.i_lt_n.3 c.requires.empty_row.0 _ _ c.args.table.now c.if-slot-eq0.false _ c.in-Some.ensures

pub returns : goal.returns
unfolding coded_settings settings value_size
returns c =
    let long = row_long (goal.at.returns c).After-repaired in
    rw c.told_by-2.ensures
    (slot_repaired _ _ _ _ _ _ _ c.requires.i_lt_n.3 c.requires.empty_row.0 _ _ _ c.if-slot-eq0.false _ c.in-Some.ensures _
    (zeros_empty _ (small (goal.at.returns c).Start)) (omega (arith, small (goal.at.returns c).Start)) (rw (c.columns.ensures.value, c.size-2.ensures.value) at c.put_row.ensures))
