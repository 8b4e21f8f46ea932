-- The exponents of the roots' powers, from one power to the one below. Assumes nothing.
use mathlib.Core.List.{List}
use Prim.Native.Nat.{ℕ, ◌+◌, ◌≤◌}
use native.Mathlib.Omega.{arith}
use Rattle.code.specs.Size.{most_checks}
use Rattle.sums.specs.Rows.{Lowered, RootExponents}
use Rattle.sums.proofs.AtPlace.Powers.{root_power_below}

-- of the first roots they are then those of the powers below
pub exponents_below : (count e : ℕ) (old now : List ℕ) → count ≤ most_checks → Lowered most_checks old now → RootExponents count (e + 1) old → RootExponents count e now
exponents_below count e old now h w r =
    record {
      exponents = record { long = w.long; small = λ i g. w.small i (omega arith) (r.exponents.small i g) };
      same = λ i g. root_power_below i e _ _ (omega arith) (r.same i g) (w.back i (omega arith));
    }
