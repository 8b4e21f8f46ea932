use mathlib.Core.Path.{◌≡◌}
use lib.ListN.{drop}
use Rattle.grading.specs.Value.{bytes_before}
use Rattle.counting.specs.Steps.Table.{value_in}
use Rattle.counting.proofs.table.Rows.is_before.Given as goal

abbrev pub invariant-loop-p : goal.invariant-loop-p
invariant-loop-p l =
    let x = l.self.table.now in
    bytes_before (value_in l.self.w x l.i l.k) (value_in l.self.w x l.j l.k)
    ≡ bytes_before (drop l.p (value_in l.self.w x l.i l.k)) (drop l.p (value_in l.self.w x l.j l.k))
