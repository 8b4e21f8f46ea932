use mathlib.Core.Path.{◌≡◌}
use Prim.Native.Nat.{◌<◌}
use Rattle.field.specs.Field.{power}
use Rattle.sums.proofs.AtPlace.Polynomials.{ValuesPut}
use Rattle.sums.proofs.places.Polynomials.values.Given as goal

abbrev pub invariant-loop-m : goal.invariant-loop-m
invariant-loop-m l =
    (l.raised < 255) × (power 2 l.raised ≡ power (power 2 l.exponent) l.m) × ValuesPut l.m l.exponent l.self.rows.now l.row
