use lib.ListN.{get_or}
use Rattle.arrays.specs.Array.{Written}
use Rattle.field.specs.Field.{power}
use Rattle.sums.proofs.rows.put_root_powers.Given as goal

abbrev pub invariant-loop-i : goal.invariant-loop-i
invariant-loop-i l = Written 0 l.i (λ k. power 2 (get_or l.exponents k 0)) l.initial.constants l.constants
