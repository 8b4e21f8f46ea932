-- `generator` meets its contract, by recursion on the number of roots: no root makes the generator 1; else the one for one root fewer is
-- multiplied by one more factor. Assumes nothing.
use mathlib.Core.Path.{refl}
use Rattle.std.proofs.Common.{◌-◌, arith}
use Rattle.code.proofs.Encoding.Factors.{generator_none, fewer_above, generator_more}
use Rattle.code.proofs.generator.+generator.Goals as goal

pub returns-then-many-eq0 : goal.returns-then-many-eq0
returns-then-many-eq0 t c = generator_none _ _ c.if-many-eq0.true refl

pub times_factor-requires : goal.times_factor-requires
times_factor-requires t c =
    let f = c.generator-coefficients.ensures in
    (c.requires.1, f.long, λ i h. fewer_above (c.args.many - 1) _ (omega arith) f i (omega arith))

pub returns : goal.returns
returns t c =
    generator_more (c.args.many - 1) _ _ _ _ (omega arith) c.requires.1 (c.requires.0.entry (c.args.many - 1) (omega arith))
    c.generator-coefficients.ensures c.times_factor.ensures
