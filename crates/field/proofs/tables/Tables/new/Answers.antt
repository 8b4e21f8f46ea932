-- `Tables::new` keeps the tables' promise: antt computes the doubling rule over the powers, and finds each byte among them at the place
-- that the logarithms name. Assumes nothing.
use mathlib.Core.Path.{refl}
use Rattle.field.specs.Field.{doubled, plus, xor_from}
use Rattle.field.specs.Table.{each_doubled}
use Rattle.field.proofs.Table.{logarithms_tested}
use Rattle.field.proofs.tables.Tables.new.Goals as goal

pub invariant_of-result : goal.invariant_of-result
unfolding each_doubled doubled plus xor_from
invariant_of-result c = record { right = (record { many = refl; first = refl; rule = refl }, logarithms_tested _ refl tt) }
