-- `check_message` meets its contract, line by line. Assumes nothing.
use mathlib.Core.Path.{◌≡◌, sym, ◌∙◌}
use mathlib.Core.Bool.{true, cond, not}
use mathlib.Core.List.{List}
use Prim.Native.Nat.{ℕ}
use native.Mathlib.Omega.{arith}
use Rattle.record.specs.Record.{is_taken}
use Rattle.bench_file.specs.Scenario.{Scenario, is_good, message_of}
use Rattle.bench_file.specs.Command.{is_column, message_refusal}
use Rattle.bench_file.specs.Steps.Places.{Located}
use Rattle.bench_file.proofs.OneCommand.Faults.{column_inside, column_as, small_settings}
use Rattle.bench_file.proofs.Located.{bytes_at_taken}
use Rattle.bench_file.proofs.commands.check_message.Goals as goal
use Rattle.bench_file.proofs.commands.check_message.Goals.{Else-not-is_column, Else-not-is_column-2, Else-not-is_good}

-- the columns of a message, past their tests
sender : (c : Else-not-is_column) → is_column c.args.places.now.settings.n c.args.from ≡ true
sender c = sym c.is_column.ensures.value ∙ c.if-not-is_column.false

reader : (c : Else-not-is_column-2) → let a = c.args in is_column a.places.now.settings.n a.to ≡ true
reader c = sym c.is_column-2.ensures.value ∙ c.if-not-is_column-2.false

pub returns-then-not-is_column-clause-answer : goal.returns-then-not-is_column-clause-answer
unfolding message_refusal
returns-then-not-is_column-clause-answer c file f h = simp (column_as f _ _ h.settings (sym c.is_column.ensures.value ∙ c.if-not-is_column.true))

pub returns-then-not-is_column-2-clause-answer : goal.returns-then-not-is_column-2-clause-answer
unfolding message_refusal
returns-then-not-is_column-2-clause-answer c file f h =
    simp (column_as f _ _ h.settings (sender (goal.at.returns-then-not-is_column-2-clause-answer c).Else-not-is_column), column_as f _ _ h.settings (sym c.is_column-2.ensures.value ∙ c.if-not-is_column-2.true))

past_columns :
    (c : Else-not-is_column-2) (file : List ℕ) (f : Scenario) → let a = c.args in
    Located file a.places.now f →
    message_refusal f a.round a.from a.to
    ≡ cond (is_good f a.from) 20 (cond (not (is_good f a.to)) 20 (cond (is_taken (message_of f.messages a.round a.from a.to)) 20 0))
unfolding message_refusal
past_columns c file f h = simp (column_as f _ _ h.settings (sender (goal.at.Else-not-is_column-2 c).Else-not-is_column), column_as f _ _ h.settings (reader c))

pub is_good-requires : goal.is_good-requires
is_good-requires c = let inside = column_inside _ _ (sender (goal.at.is_good-requires c).Else-not-is_column) in omega (arith, inside.0, inside.1, (small_settings c.args.places.now.settings).0)

pub returns-then-is_good-clause-answer : goal.returns-then-is_good-clause-answer
returns-then-is_good-clause-answer c file f h = sym (past_columns (goal.at.returns-then-is_good-clause-answer c).Else-not-is_column-2 file f h ∙ simp (sym (c.is_good.ensures file f h) ∙ c.if-is_good.true))

pub is_good-requires-2 : goal.is_good-requires-2
is_good-requires-2 c = let inside = column_inside _ _ (reader (goal.at.is_good-requires-2 c).Else-not-is_column-2) in omega (arith, inside.0, inside.1, (small_settings c.args.places.now.settings).0)

pub returns-then-not-is_good-clause-answer : goal.returns-then-not-is_good-clause-answer
returns-then-not-is_good-clause-answer c file f h =
    sym (past_columns (goal.at.returns-then-not-is_good-clause-answer c).Else-not-is_column-2 file f h ∙ simp (sym (c.is_good.ensures file f h) ∙ c.if-is_good.false, sym (c.is_good-2.ensures file f h) ∙ c.if-not-is_good.true))

pub message-requires : goal.message-requires
message-requires c =
    let from = column_inside _ _ (sender (goal.at.message-requires c).Else-not-is_column) in
    let to = column_inside _ _ (reader (goal.at.message-requires c).Else-not-is_column-2) in
    omega (arith, from.0, from.1, to.0, to.1, (small_settings c.args.places.now.settings).0)

-- from a bad column to a good one
past_goodness :
    (c : Else-not-is_good) (file : List ℕ) (f : Scenario) → let a = c.args in
    Located file a.places.now f →
    message_refusal f a.round a.from a.to ≡ cond (is_taken (message_of f.messages a.round a.from a.to)) 20 0
past_goodness c file f h =
    past_columns (goal.at.Else-not-is_good c).Else-not-is_column-2 file f h ∙ simp (sym (c.is_good.ensures file f h) ∙ c.if-is_good.false, sym (c.is_good-2.ensures file f h) ∙ c.if-not-is_good.false)

pub returns-then-is_some-clause-answer : goal.returns-then-is_some-clause-answer
returns-then-is_some-clause-answer c file f h = sym (past_goodness (goal.at.returns-then-is_some-clause-answer c).Else-not-is_good file f h ∙ simp (sym (bytes_at_taken _ _ _ _ (c.message.ensures file f h)), sym c.is_some.ensures ∙ c.if-is_some.true))

pub returns-clause-answer : goal.returns-clause-answer
returns-clause-answer c file f h = sym (past_goodness (goal.at.returns-clause-answer c).Else-not-is_good file f h ∙ simp (sym (bytes_at_taken _ _ _ _ (c.message.ensures file f h)), sym c.is_some.ensures ∙ c.if-is_some.false))

pub returns-clause-inside : goal.returns-clause-inside
returns-clause-inside c =
    let from = column_inside _ _ (sender (goal.at.returns-clause-inside c).Else-not-is_column) in
    let to = column_inside _ _ (reader (goal.at.returns-clause-inside c).Else-not-is_column-2) in
    omega (arith, from.0, from.1, to.0, to.1, (small_settings c.args.places.now.settings).0)
