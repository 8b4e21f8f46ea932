-- `first_logarithm` meets its contract: the logarithm of the first root is its exponent. Assumes nothing.
use mathlib.Core.Path.{◌∙◌, ap}
use Prim.Native.Nat.{ℕ}
use native.Mathlib.Omega.{arith}
use lib.ListN.{get_or}
use Rattle.sums.proofs.AtPlace.Powers.{root_logarithm}
use Rattle.sums.proofs.places.first_logarithm.Goals as goal

pub returns : goal.returns
returns c =
    c.from-2.ensures ∙ ap (λ (a : ℕ). get_or c.args.logarithms.now a 0) c.from.ensures
    ∙ root_logarithm _ _ c.requires c.roots-roots.ensures 0 (omega arith)
