-- `is_blank` meets its contract: a byte of each plane is a byte of the value. Assumes nothing.
use mathlib.Core.Path.{◌∙◌}
use mathlib.Core.List.{[]}
use native.Mathlib.Omega.{arith}
use lib.Dec.{eqb}
use lib.ListN.{get_or, take}
use borrow.Author.Rules.{rules}
use borrow.Author.Tests.{tests}
use Rattle.std.proofs.lemmas.Iterator.{YieldsList-from_slice}
use Rattle.std.proofs.lemmas.Iterator.Search.{all_from_yields_List}
use Rattle.counting.proofs.Planes.{blank_planes}
use Rattle.counting.proofs.table.Rows.is_blank.Goals as goal

pub returns : goal.returns
returns c =
    let a = c.args in
    let x = a.self.now.table.now in
    let w = a.self.now.w in
    all_from_yields_List (λ plane. eqb (get_or (get_or plane a.i []) a.k 0) 0) _ _ c.all.result c.all.ensures.ran
    (YieldsList-from_slice (take w x) (cc)) (λ y b q k. search (rules, tests))
    ∙ blank_planes w x a.i a.k (omega arith)
