-- `root_exponents` meets its contract: the remainder by 255 of a root's logarithm times the exponent is the exponent of its power.
-- Assumes nothing.
use mathlib.Core.Path.{◌≡◌, ◌∙◌, ap}
use Prim.Native.Nat.{◌+◌, ◌≤◌, ◌<◌}
use native.Mathlib.Omega.{arith}
use lib.ListN.{length}
use lib.Seq.{length-take-le}
use Rattle.field.specs.Field.{power}
use Rattle.code.specs.Polynomial.{first_exponent}
use Rattle.sums.proofs.AtPlace.Powers.{root_power}
use Rattle.sums.proofs.Sums.Terms.{first_at}
use Rattle.sums.proofs.rows.root_exponents.Goals as goal
use Rattle.sums.proofs.rows.root_exponents.Goals.{After-from}

-- the logarithm of a turn
module _ (c : After-from) where
  few : c.args.count ≤ length c.args.logarithms.now
  few = omega (arith, c.requires.1, c.requires.0.long)

  inside : c.loop-i.i < c.args.count
  inside = (first_at c.args.count c.args.logarithms.now few c.loop-i.i c.loop-i-test.true).0

  found : c.from.result ≡ first_exponent + c.loop-i.i
  found =
      c.from.ensures ∙ (first_at c.args.count c.args.logarithms.now few c.loop-i.i c.loop-i-test.true).1
      ∙ c.requires.0.new c.loop-i.i (omega (arith, inside, c.requires.1))

pub returns : goal.returns
returns c =
    let e = c.args.count in
    let all = length-take-le c.args.count c.args.logarithms.now (omega (arith, c.requires.1, c.requires.0.long)) in
    let f = c.loop-i.invariant in
    record {
      exponents = record { long = f.long; small = λ i h. omega (arith, f.new i (omega (arith, all))) };
      same = λ i h. ap (power 2) (f.new i (omega (arith, all))) ∙ root_power i e;
    }
