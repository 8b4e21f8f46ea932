-- `put_checks` meets its contract: the columns divided by the generator and stored are the check values. Assumes nothing.
use Rattle.arrays.proofs.Bytes.{bytes_every}
use Rattle.code.proofs.Encoding.Factors.{feedback_of}
use Rattle.code.proofs.Encoding.CheckValues.{checks_put}
use Rattle.code.proofs.put_checks.Goals as goal

pub returns : goal.returns
returns c =
    let s = c.args.settings in
    let n = c.columns-n.ensures.value in
    let count = c.check_count-count.ensures in
    let size = c.size-size.ensures.value in
    checks_put s.n s.t s.w c.args.vector.now c.feedback-feedback.result c.divide-windows.result c.args.output.now _ s.allowed c.requires.0
    (bytes_every c.args.vector.now (λ i. (c.type_inv.vector i).fits))
    (rw count.value at (feedback_of c.check_count-count.result _ _ count.bounds c.generator-generator.ensures c.feedback-feedback.ensures))
    (rw (n, count.value, size) at c.divide-windows.ensures) (rw (n, count.value, size) at c.store.ensures) c.requires.1
    (bytes_every _ (λ i. (c.type_inv.output i).fits))
