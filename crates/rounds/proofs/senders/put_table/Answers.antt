-- `put_table` meets its contract: the rows put in stay as they are while the later ones are, and so does what they tell. Assumes nothing.
use mathlib.Core.Path.{◌≡◌, refl, ◌∙◌}
use Prim.Native.Nat.{◌*◌, ◌-◌, ◌≤◌, ◌<◌}
use native.Mathlib.Omega.{arith}
use lib.Seq.{get_or-take, length-take-le}
use lib.ListN.{length, take, length-set}
use borrow.Author.Rules.{rules}
use Rattle.code.specs.Settings.{settings, value_size}
use Rattle.code.specs.Size.{most_columns, vector_room}
use Rattle.code.proofs.ValidSettings.{values_fit}
use Rattle.rounds.specs.Steps.Senders.{coded_settings}
use Rattle.record.specs.Steps.Due.{slot_past}
use Rattle.rounds.proofs.SenderRow.{vector_fits}
use Rattle.rounds.proofs.SlotRow.{zeros_empty}
use Rattle.rounds.proofs.TableRows.{InRange, put_own, last_apart, last_inside, put_passed, put_slot, put_all}
use Rattle.rounds.proofs.senders.put_table.Goals as goal
use Rattle.rounds.proofs.senders.put_table.Goals.{then-i-number, else-i-number, After-columns-n, Start}

-- the array has room for a vector
small : (c : Start) → c.args.own.now.settings.n * c.args.own.now.settings.w ≤ vector_room
small c = let s = c.args.own.now.settings in vector_fits s.n s.t s.w s.allowed

vector_long : (c : Start) → length c.args.own.now.vector ≡ vector_room
vector_long c = search rules

range : (c : Start) → InRange c.args.own.now c.args.number c.args.told.now
range c = record { low = c.requires.in_range.0; high = c.requires.in_range.1; room = c.requires.in_range.2 }

pub put_row-requires : goal.put_row-requires
put_row-requires c =
    let long = vector_long (goal.at.put_row-requires c).Start in
    let n = c.columns-n.ensures.bounds.1 in
    let w = c.size.ensures.bounds.1 in
    (omega arith, n, w, omega (arith, values_fit _ _ n w), c.requires.shaped.0)

pub loop-i-init : goal.loop-i-init
unfolding coded_settings settings value_size
loop-i-init c =
    let a = c.args in
    let long = vector_long (goal.at.loop-i-init c).Start in
    put_own a.own.now a.number a.slots.now a.told.now (range (goal.at.loop-i-init c).Start) a.table.now _ _ _ (omega (arith, small (goal.at.loop-i-init c).Start)) (search rules) c.requires.shaped.1
    (rw (c.columns-n.ensures.value, c.size.ensures.value) at c.put_row.ensures) refl c.untried.ensures.0 c.untried.ensures.1 refl
    (zeros_empty _ (small (goal.at.loop-i-init c).Start))

-- the slots of the columns that there are
many : (c : After-columns-n) → length (take c.columns-n.result c.args.slots.now) ≡ c.args.own.now.settings.n
many c =
    let long : length c.args.slots.now ≡ most_columns = search rules in
    length-take-le _ c.args.slots.now (omega (arith, c.columns-n.ensures.bounds)) ∙ c.columns-n.ensures.value

pub put_slot-requires : goal.put_slot-requires
unfolding coded_settings
put_slot-requires c =
    let a = c.args in
    let l = c.loop-i in
    let put = l.invariant in
    let inside : l.i < a.own.now.settings.n = omega (arith, many (goal.at.put_slot-requires c).After-columns-n) in
    let other = c.if-i-number.true in
    let fits = range (goal.at.put_slot-requires c).Start in record {
      i_lt_n = (inside, last_inside a.own.now a.number a.slots.now a.told.now fits l.i _ _ _ _ put (omega arith), last_apart a.own.now a.number a.slots.now a.told.now fits l.i _ _ _ _ put other, put.memo);
      empty_row = (put.empty, put.shape, put.ahead l.i (omega arith) inside other);
    }

pub bounds-told-i : goal.bounds-told-i
bounds-told-i c =
    omega (arith, many (goal.at.bounds-told-i c).After-columns-n, c.loop-i.invariant.told_long, length-set c.args.told.now (c.args.number - 1) 0, range (goal.at.bounds-told-i c).Start)

pub loop-i-preserved : goal.loop-i-preserved
loop-i-preserved c =
    let a = c.args in
    let l = c.loop-i in
    let inside : l.i < a.own.now.settings.n = omega (arith, many (goal.at.loop-i-preserved c).After-columns-n) in
    let fits = range (goal.at.loop-i-preserved c).Start in
    elim c.if-i-number.branch [
      | then-i-number w ↦
          rw (w.table-is, w.told-is, w.last-is, w.row-is)
          (put_slot a.own.now a.number a.slots.now a.told.now fits l.i _ _ _ _ l.invariant w.if-i-number.true inside _ _ _ _
          (rw (get_or-take c.columns-n.result a.slots.now l.i slot_past (omega arith)) at w.put_slot.ensures))
      | else-i-number w ↦
          rw (w.table-is, w.told-is, w.last-is, w.row-is)
          (put_passed a.own.now a.number a.slots.now a.told.now fits l.i _ _ _ _ l.invariant w.if-i-number.false)
    ]

pub shape_of-told : goal.shape_of-told
shape_of-told c = c.loop-i.invariant.told_long ∙ length-set c.args.told.now (c.args.number - 1) 0

pub returns : goal.returns
returns c =
    let a = c.args in
    let l = c.loop-i in
    let last : l.i ≡ a.own.now.settings.n = omega (arith, many (goal.at.returns c).After-columns-n) in
    put_all a.own.now a.number a.slots.now a.told.now (range (goal.at.returns c).Start) l.table l.told l.last l.row (rw last at l.invariant)
