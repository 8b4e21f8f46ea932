-- `find` meets its contract: each turn takes the columns past one row, until all are settled or no row is left. Assumes nothing.
use mathlib.Core.Path.{sym, ◌∙◌}
use native.Mathlib.Omega.{arith}
use lib.ListN.{take}
use borrow.Author.Rules.{rules}
use borrow.Author.Tests.{tests}
use Rattle.std.proofs.lemmas.Iterator.{YieldsList-from_slice}
use Rattle.std.proofs.lemmas.Iterator.Search.{all_from_yields_List}
use Rattle.counting.proofs.Columns.{all_start, all_settled, all_closed, all_last}
use Rattle.counting.proofs.leaders.find.Goals as goal

pub loop-c-init : goal.loop-c-init
loop-c-init c = all_start _ _ _ _ (omega arith)

pub returns-then-all : goal.returns-then-all
returns-then-all c =
    let n = c.args.rows.now.n in
    let standings = c.weigh_row.new.standings in
    let called = all_from_yields_List (λ s. s.settled) _ _ c.all.result c.all.ensures.ran (YieldsList-from_slice (take n standings) (cc)) (λ y b q k. search (rules, tests)) in
    all_closed _ _ _ _ _ _ c.weigh_row.ensures (all_settled n standings (omega arith) (sym called ∙ c.if-all.true))

pub returns : goal.returns
returns c = all_last _ _ _ _ _ _ (omega arith) (omega arith) c.loop-c.invariant
