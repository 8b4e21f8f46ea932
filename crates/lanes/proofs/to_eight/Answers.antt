-- `to_eight` meets its contract: row 2 doubles row 1 and row 4 row 2, and each other is a sum of two below it. Assumes nothing.
use mathlib.Core.Path.{refl}
use mathlib.Core.Logic.{inl, inr}
use native.Mathlib.Omega.{arith}
use Rattle.lanes.proofs.Multiples.{multiples_double, multiples_join, plus_below}
use Rattle.lanes.proofs.to_eight.Goals as goal
use Rattle.lanes.proofs.to_eight.Goals.{After-add_row, After-add_row-2}

pub returns : goal.returns
returns c =
    λ f byte m.
    let second = (goal.at.returns c).After-add_row-2 in
    let first = (goal.at.After-add_row-2 second).After-add_row in
    let three = multiples_double 1 f _ _ (omega arith) (omega arith) byte m first.double_row.ensures in
    let four = multiples_join 2 1 f _ _ (omega arith) (plus_below 1 1 (inl refl) (omega arith)) byte three (omega arith) first.add_row.ensures in
    let five = multiples_double 2 f _ _ (omega arith) (omega arith) byte four second.double_row-2.ensures in
    let six = multiples_join 4 1 f _ _ (omega arith) (plus_below 2 1 (inr (inl refl)) (omega arith)) byte five (omega arith) second.add_row-2.ensures in
    let seven = multiples_join 4 2 f _ _ (omega arith) (plus_below 2 2 (inr (inl refl)) (omega arith)) byte six (omega arith) c.add_row-3.ensures in
    multiples_join 4 3 f _ _ (omega arith) (plus_below 2 3 (inr (inl refl)) (omega arith)) byte seven (omega arith) c.add_row-4.ensures
