-- `roots` meets its contract: antt works out the twenty powers of 2 and finds the table to hold them. Assumes nothing.
use mathlib.Core.Path.{refl}
use Rattle.field.specs.Field.{doubled, plus, xor_from}
use Rattle.field.proofs.Power.{doublings}
use Rattle.code.proofs.Polynomials.Generator.{roots_tested}
use Rattle.code.proofs.roots.roots.Goals as goal

pub returns : goal.returns
unfolding doublings doubled plus xor_from
returns c = roots_tested _ refl tt
