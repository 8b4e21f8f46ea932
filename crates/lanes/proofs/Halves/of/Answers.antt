-- `Halves::of` meets its contract: two multiples of the value, and of sixteen times it, and then all sixteen. Assumes nothing.
use Rattle.lanes.proofs.Multiples.{doubled_byte}
use Rattle.lanes.proofs.Halves.of.Goals as goal

pub returns-clause-low : goal.returns-clause-low
returns-clause-low c = c.multiply.ensures _ (λ p. (c.type_inv.value p).fits) c.first_rows-low.ensures

pub returns-clause-high : goal.returns-clause-high
returns-clause-high c = c.multiply-2.ensures _ (λ p. doubled_byte _) c.sixteenth_rows-high.ensures
