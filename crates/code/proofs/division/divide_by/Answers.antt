-- `divide_by` meets its contract: each turn takes in one more column. Assumes nothing.
use mathlib.Core.Path.{sym, ◌∙◌}
use Prim.Native.Nat.{◌+◌, ◌*◌, ◌-◌}
use native.Mathlib.Omega.{arith}
use Rattle.arrays.proofs.Bytes.{bytes_every}
use Rattle.arrays.proofs.Part.{part_lent, part_long}
use Rattle.code.proofs.Vectors.Cut.{value_ends}
use Rattle.code.proofs.Encoding.Feeding.{fed_to}
use Rattle.code.proofs.Encoding.Windows.{comes_next, divided_none, divided_more}
use Rattle.code.proofs.division.divide_by.Goals as goal

pub loop-s-init : goal.loop-s-init
loop-s-init g c = divided_none _ _ _ _ _ (omega (arith, c.requires.n_le_most_columns.1)) (omega (arith, c.requires.n_le_most_columns.0, c.requires.count_le_most_checks.0))

pub loop-s-preserved : goal.loop-s-preserved
loop-s-preserved g c =
    let a = c.args in
    let feedback = c.requires.count_le_most_checks.1 in
    let at = (a.n - 1 - c.loop-s.s) * a.size in
    let few = c.requires.n_le_most_columns in
    let long = part_long at a.size a.vector.now (value_ends _ _ _ _ (omega (arith, c.loop-s-test.true)) few.2) in
    divided_more c.loop-s.s a.n a.size a.count g.row.ROWS a.feedback.now _ a.vector.now c.loop-s.windows _ (omega (arith, c.loop-s-test.true)) few.1
    (omega (arith, c.requires.count_le_most_checks.0, few.0)) (omega (arith, c.loop-s-test.true, few.0, c.requires.rows.0)) c.requires.rows.1 (omega (arith, c.requires.count_le_most_checks.0, feedback.long)) feedback.fits
    feedback.behind (omega (arith, few.2)) (bytes_every a.vector.now (λ i. (c.type_inv.vector i).fits))
    (λ p h. part_lent at (at + a.size - at) a.vector.now p (omega arith) ∙ sym (comes_next a.n a.size c.loop-s.s p a.vector.now (omega (arith, c.loop-s-test.true)) h)) c.loop-s.invariant
    (fed_to long (c.feed_value.ensures.1 a.feedback.now feedback.fits c.put_row_tables.ensures.put)) c.feed_value.ensures.0
