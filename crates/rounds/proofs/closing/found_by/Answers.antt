-- `found_by` meets its contract: V of the slots in round one, Y of the table X in round two, values and confidences of the table Z
-- in round three. Assumes nothing.
use mathlib.Core.Path.{◌≡◌, ◌∙◌, subst}
use mathlib.Core.List.{List}
use Prim.Native.Nat.{ℕ, ◌≤◌}
use native.Mathlib.Omega.{arith}
use lib.ListN.{replicate}
use borrow.Author.Tests.{eq-eqb, ne_eqb}
use Rattle.arrays.specs.Array.{padded}
use Rattle.code.specs.Settings.{settings, value_size}
use Rattle.code.specs.Size.{most_columns}
use Rattle.code.specs.Entry.{values_in}
use Rattle.counting.specs.Steps.Table.{rows_in}
use Rattle.counting.proofs.Planes.{shape_zeros}
use Rattle.record.specs.Refusal.{record_refusal}
use Rattle.record.specs.View.{settings_of, who_in, view, inbox}
use Rattle.rounds.specs.Steps.Closing.{TableTold, checked_in}
use Rattle.record.proofs.Checked.{settings_are}
use Rattle.rounds.specs.Steps.Senders.{coded_settings, coded_vector}
use Rattle.grading.specs.Value.{Vector}
use Rattle.record.proofs.Refusal.{close_record, close_round}
use Rattle.rounds.proofs.AfterRound.{Inside, inside, finds_heard, finds_agreed, finds_held}
use Rattle.rounds.proofs.TableRows.{blank_table}
use Rattle.rounds.proofs.closing.found_by.Goals as goal
use Rattle.rounds.proofs.closing.found_by.Goals.{After-new-own, After-put_table, After-bad-t, Else-column-eq1, Start}

-- the record is not refused, and its round is 1, 2 or 3
fine : (c : Start) → record_refusal (who_in c.args.column.now.who) ≡ 0
unfolding view
fine c = close_record (view c.args.column.now) c.requires.0

able : (c : Start) → Inside c.args.column.now.who
able c = inside _ (fine c)

rounds : (c : Start) → (1 ≤ c.args.column.now.round) × (c.args.column.now.round ≤ 3)
unfolding view
rounds c = close_round (view c.args.column.now) c.requires.0

pub returns-then-column-eq1 : goal.returns-then-column-eq1
returns-then-column-eq1 c =
    finds_heard c.args.column.now (able (goal.at.returns-then-column-eq1 c).Start) c.heard-vector.result c.if-column-eq1.true c.heard-vector.ensures

later : (c : Else-column-eq1) → 2 ≤ c.args.column.now.round
later c = omega (arith, rounds (goal.at.Else-column-eq1 c).Start, c.if-column-eq1.false)

-- the own vector's settings are the column's
own_settings : (c : After-new-own) → coded_settings c.new-own.result ≡ settings_of c.args.column.now.who
unfolding settings_of
own_settings c = c.new-own.ensures.0 ∙ settings_are _ _ _ c.args.settings c.requires.1

own_vector :
    (c : After-new-own) (bytes : List ℕ) → checked_in c.args.column.now.round c.args.column.now.found ≡ bytes →
    coded_vector c.new-own.result ≡ values_in (settings_of c.args.column.now.who) c.args.column.now.who.n bytes
unfolding settings_of
own_vector c bytes e =
    let s = c.args.settings in
    let same = c.requires.1 in
    let read : c.checked_copy.result ≡ bytes = c.checked_copy.ensures ∙ e in
    c.new-own.ensures.1 ∙ (rw (same.0, same.1, same.2, read))

pub put_table-requires : goal.put_table-requires
unfolding settings_of settings value_size
put_table-requires c =
    let i = able (goal.at.put_table-requires c).Start in record {
      inside = (fine (goal.at.put_table-requires c).Start, own_settings (goal.at.put_table-requires c).After-new-own, later (goal.at.put_table-requires c).Else-column-eq1);
      room = (i.few_columns, shape_zeros, blank_table (settings_of c.args.column.now.who) i.few_columns i.few_bytes);
    }

-- the table, and what it told, in front of zeros
rows_are :
    (c : After-put_table) (bytes : List ℕ) → checked_in c.args.column.now.round c.args.column.now.found ≡ bytes →
    (let a = c.args.column.now in
    TableTold (inbox a.who a.round a.slots) (values_in (settings_of a.who) a.who.n bytes) (rows_in a.who.n a.who.w c.put_table.new.table)
    (replicate most_columns 0) c.put_table.new.told)
rows_are c bytes e =
    let a = c.args.column.now in
    subst
    (λ (vs : Vector). TableTold (inbox a.who a.round a.slots) vs (rows_in a.who.n a.who.w c.put_table.new.table) (replicate most_columns 0) c.put_table.new.told)
    (own_vector (goal.at.After-put_table c).After-new-own bytes e) c.put_table.ensures

-- a table is counted, with the numbers that the settings hand out
same_n : (c : After-bad-t) → c.columns.result ≡ c.args.column.now.who.n
same_n c = c.columns.ensures.value ∙ c.requires.1.0

same_t : (c : After-bad-t) → c.bad-t.result ≡ c.args.column.now.who.t
same_t c = c.bad-t.ensures.value ∙ c.requires.1.1

same_w : (c : After-bad-t) → c.size.result ≡ c.args.column.now.who.w
same_w c = c.size.ensures.value ∙ c.requires.1.2

pub returns-then-column-eq2 : goal.returns-then-column-eq2
unfolding checked_in settings_of TableTold padded
returns-then-column-eq2 c =
    let before = (goal.at.returns-then-column-eq2 c).After-bad-t in
    let rows = rows_are (goal.at.returns-then-column-eq2 c).After-put_table c.args.column.now.found.heard (rw (eq-eqb c.args.column.now.round 2 c.if-column-eq2.true)) in
    finds_agreed c.args.column.now (able (goal.at.returns-then-column-eq2 c).Start) c.agreed-agreed.result c.put_table.new.told rows.0 _ c.if-column-eq2.true rows.1
    (rw (same_n before, same_t before, same_w before) at c.agreed-agreed.ensures) rows.2

pub returns : goal.returns
unfolding checked_in settings_of TableTold padded
returns c =
    let before = (goal.at.returns c).After-bad-t in
    let last : c.args.column.now.round ≡ 3 = omega (arith, rounds (goal.at.returns c).Start, later (goal.at.returns c).Else-column-eq1, c.if-column-eq2.false) in
    let rows = rows_are (goal.at.returns c).After-put_table c.args.column.now.found.agreed (rw (ne_eqb c.args.column.now.round 2 c.if-column-eq2.false)) in
    finds_held c.args.column.now (able (goal.at.returns c).Start) c.held-held.result.values c.held-held.result.confidences c.put_table.new.told rows.0 _ last rows.1
    (rw (same_n before, same_t before, same_w before) at c.held-held.ensures) rows.2
