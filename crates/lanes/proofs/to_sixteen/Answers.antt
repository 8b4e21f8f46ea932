-- `to_sixteen` meets its contract: row 8 doubles row 4, and each other is the sum of row 8 and one below it. Assumes nothing.
use mathlib.Core.Path.{refl}
use mathlib.Core.Logic.{inr}
use native.Mathlib.Omega.{arith}
use Rattle.lanes.proofs.Multiples.{multiples_double, multiples_join, plus_below}
use Rattle.lanes.proofs.to_sixteen.Goals as goal
use Rattle.lanes.proofs.to_sixteen.Goals.{After-add_row, After-add_row-3, After-add_row-5}

pub returns : goal.returns
returns c =
    λ f byte m.
    let fifth = (goal.at.returns c).After-add_row-5 in
    let third = (goal.at.After-add_row-5 fifth).After-add_row-3 in
    let first = (goal.at.After-add_row-3 third).After-add_row in
    let nine = multiples_double 4 f _ _ (omega arith) (omega arith) byte m first.double_row.ensures in
    let ten = multiples_join 8 1 f _ _ (omega arith) (plus_below 4 1 (inr (inr refl)) (omega arith)) byte nine (omega arith) first.add_row.ensures in
    let eleven = multiples_join 8 2 f _ _ (omega arith) (plus_below 4 2 (inr (inr refl)) (omega arith)) byte ten (omega arith) third.add_row-2.ensures in
    let twelve = multiples_join 8 3 f _ _ (omega arith) (plus_below 4 3 (inr (inr refl)) (omega arith)) byte eleven (omega arith) third.add_row-3.ensures in
    let thirteen = multiples_join 8 4 f _ _ (omega arith) (plus_below 4 4 (inr (inr refl)) (omega arith)) byte twelve (omega arith) fifth.add_row-4.ensures in
    let fourteen = multiples_join 8 5 f _ _ (omega arith) (plus_below 4 5 (inr (inr refl)) (omega arith)) byte thirteen (omega arith) fifth.add_row-5.ensures in
    let fifteen = multiples_join 8 6 f _ _ (omega arith) (plus_below 4 6 (inr (inr refl)) (omega arith)) byte fourteen (omega arith) c.add_row-6.ensures in
    multiples_join 8 7 f _ _ (omega arith) (plus_below 4 7 (inr (inr refl)) (omega arith)) byte fifteen (omega arith) c.add_row-7.ensures
