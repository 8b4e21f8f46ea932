-- `weigh` meets its contract: a settled column stays so, and a live one is led by the better value, and settled where no other value
-- can be found often enough. Assumes nothing.
use mathlib.Core.Path.{◌≡◌, sym, ◌∙◌}
use mathlib.Core.Bool.{true}
use native.Mathlib.Omega.{arith}
use Prim.Native.Nat.{◌+◌, ◌-◌, ◌≤◌, ◌<◌}
use lib.Dec.{ltb}
use borrow.Author.Tests.{ltb-true}
use Rattle.grading.specs.Count.{found}
use Rattle.counting.specs.Steps.Table.{value_in, rows_in}
use Rattle.counting.specs.Steps.Tally.{Live}
use Rattle.counting.proofs.Settling.{found_some, found_fits, live_filled, taken, passed, weighed_next}
use Rattle.counting.proofs.leaders.weigh.Goals as goal
use Rattle.counting.proofs.leaders.weigh.Goals.{Start, Else-standing, then-overtakes, else-overtakes}

-- the column is live
goes_on : (c : Else-standing) → (let a = c.args in Live a.rows.now.n a.rows.now.w a.next.row a.rows.now.table.now a.k a.standing.now.leads.row a.standing.now.leads.times)
goes_on c = c.requires.4.going c.if-standing.false

fits : (s : Start) → s.args.next.times ≤ s.args.rows.now.n
fits s =
    let a = s.args in
    omega (arith, s.requires.3, found_fits a.rows.now.n a.rows.now.w a.rows.now.table.now a.k s.requires.2 (value_in a.rows.now.w a.rows.now.table.now a.next.row a.k))

pub overtakes-requires : goal.overtakes-requires
overtakes-requires c =
    let a = c.args in
    let o = goes_on (goal.at.overtakes-requires c).Else-standing in (
      omega arith,
      omega arith,
      omega (arith, o.inside),
      omega (arith, c.requires.3, found_some a.rows.now.n a.rows.now.w a.rows.now.table.now a.k c.requires.2 a.next.row c.requires.1),
      live_filled _ _ _ _ c.requires.2 _ _ _ o,
    )

pub overflow_sub-standing : goal.overflow_sub-standing
overflow_sub-standing c = fits (goal.at.overflow_sub-standing c).Start

-- a settled column has fewer than `least` rows left for other values
fewer : (s : Start) → (let a = s.args in ltb (a.rows.now.n - a.next.times) a.least ≡ true →
    a.rows.now.n < a.least + found a.k (value_in a.rows.now.w a.rows.now.table.now a.next.row a.k) (rows_in a.rows.now.n a.rows.now.w a.rows.now.table.now))
fewer s e = omega (arith, s.requires.3, ltb-true _ _ e)

pub returns : goal.returns
returns c =
    let s = (goal.at.returns c).Start in
    let live = goes_on (goal.at.returns c).Else-standing in
    elim c.if-overtakes.branch [
      | then-overtakes w ↦
          rw w.standing-is
          (weighed_next _ _ _ _ _ c.requires.0 c.requires.2 _ _ _ _
          (taken _ _ _ _ c.requires.2 _ _ _ _ c.requires.1 live c.requires.3 (sym w.if-overtakes.true ∙ c.overtakes.ensures)) (fewer s))
      | else-overtakes w ↦
          rw w.standing-is
          (weighed_next _ _ _ _ _ c.requires.0 c.requires.2 _ _ _ _
          (passed _ _ _ _ c.requires.2 _ _ _ _ c.requires.1 live c.requires.3 (sym w.if-overtakes.false ∙ c.overtakes.ensures)) (fewer s))
    ]
