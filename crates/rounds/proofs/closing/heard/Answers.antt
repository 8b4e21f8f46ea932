-- `heard` meets its contract: the values of V one after the other. Assumes nothing.
use mathlib.Core.Path.{◌≡◌, refl, sym, ◌∙◌, subst}
use Prim.Native.Nat.{◌<◌}
use native.Mathlib.Omega.{arith}
use lib.ListN.{length, take}
use lib.Seq.{get_or-take, length-take-le}
use borrow.Author.Rules.{rules}
use Rattle.code.specs.Settings.{settings, value_size}
use Rattle.code.specs.Size.{most_columns, value_room}
use Rattle.code.proofs.ValidSettings.{values_fit}
use Rattle.grading.specs.Value.{Vector}
use Rattle.counting.specs.Stored.{Stores}
use Rattle.grading.proofs.Value.{entries_next}
use Rattle.counting.proofs.Placed.{placed_none, placed_more, placed_stores}
use Rattle.record.specs.Record.{who_as}
use Rattle.record.specs.Steps.Due.{slot_past}
use Rattle.rounds.specs.Exchange.{heard_at, heard_vector}
use Rattle.record.specs.View.{settings_of, who_in, inbox}
use Rattle.rounds.proofs.AfterRound.{heard_slot}
use Rattle.rounds.proofs.closing.heard.Goals as goal
use Rattle.rounds.proofs.closing.heard.Goals.{After-heard_at-value, After-size-w}

-- the numbers that the settings hand out
same_w : (c : After-size-w) → c.size-w.result ≡ c.args.who.now.w
same_w c = c.size-w.ensures.value ∙ c.requires.2

same_n : (c : After-size-w) → c.columns-n.result ≡ c.args.who.now.n
same_n c = c.columns-n.ensures.value ∙ c.requires.0

-- the slots of the columns that there are
many : (c : After-size-w) → length (take c.columns-n.result c.args.slots.now) ≡ c.columns-n.result
many c = let long : length c.args.slots.now ≡ most_columns = search rules in length-take-le _ c.args.slots.now (omega (arith, c.columns-n.ensures.bounds))

pub loop-k-init : goal.loop-k-init
loop-k-init c = placed_none _ _ _ refl

pub heard_at-value-requires : goal.heard_at-value-requires
heard_at-value-requires c = omega (arith, same_w (goal.at.heard_at-value-requires c).After-size-w, c.size-w.ensures.bounds)

-- the value's bytes
size : (c : After-heard_at-value) → length (take c.size-w.result c.heard_at-value.result) ≡ c.size-w.result
size c = let long : length c.heard_at-value.result ≡ value_room = search rules in length-take-le _ c.heard_at-value.result (omega (arith, c.size-w.ensures.bounds))

pub slice_bounds-put_value-end : goal.slice_bounds-put_value-end
slice_bounds-put_value-end c = sym (size (goal.at.slice_bounds-put_value-end c).After-heard_at-value)

pub put_value-requires : goal.put_value-requires
put_value-requires c =
    let l = size (goal.at.put_value-requires c).After-heard_at-value in
    (omega (arith, many (goal.at.put_value-requires c).After-size-w, c.columns-n.ensures.bounds), omega (arith, c.size-w.ensures.bounds), c.loop-k.invariant.long)

pub loop-k-preserved : goal.loop-k-preserved
loop-k-preserved c =
    let l = c.loop-k in
    let a = c.args in
    let before = (goal.at.loop-k-preserved c).After-size-w in
    let below : l.k < c.columns-n.result = omega (arith, many before) in
    let value =
    (rw (get_or-take c.columns-n.result a.slots.now l.k slot_past below) at c.heard_at-value.ensures)
    ∙ sym (heard_slot a.who.now a.slots.now l.k (omega (arith, same_n before))) in
    placed_more _ _ _ _ _ _ l.invariant (size (goal.at.loop-k-preserved c).After-heard_at-value) (rw (same_w before) value) c.put_value.ensures

pub returns : goal.returns
unfolding heard_vector inbox who_in who_as settings_of settings value_size
returns c =
    let a = c.args in
    let l = c.loop-k in
    let before = (goal.at.returns c).After-size-w in
    let e : l.k ≡ a.who.now.n = omega (arith, many before, same_n before) in
    let s = settings_of a.who.now in
    let fits = values_fit a.who.now.n a.who.now.w (omega (arith, same_n before, c.columns-n.ensures.bounds)) (omega (arith, same_w before, c.size-w.ensures.bounds)) in
    let placed = placed_stores s _ l.vector (rw (e, same_w before) at l.invariant) fits in
    subst (λ (vs : Vector). Stores s vs l.vector) (sym (entries_next a.who.now.n 0 (heard_at (inbox a.who.now 1 a.slots.now)))) placed
