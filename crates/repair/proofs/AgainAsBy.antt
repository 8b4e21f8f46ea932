-- Repair after repair keeps the promise of repair: equal checks have one answer. Assumes nothing.
use mathlib.Core.Path.{subst}
use mathlib.Core.Bool.{true, false}
use mathlib.Core.List.{List}
use Prim.Native.Nat.{ℕ}
use Rattle.code.proofs.Vectors.Planes.{same_equal}
use Rattle.repair.specs.Again.{AnsweredBy, AgainSays}
use Rattle.repair.specs.Promise.{AgainAsBy}

pub again_as_by : AgainAsBy
unfolding AgainAsBy AgainSays
again_as_by n t w vs own ls cs last a true before o z said now = (
  before,
  rw (now.2, now.1) (subst (λ (xs : List ℕ). AnsweredBy n t w vs own xs last before o) (same_equal ls cs now.0) said),
)
again_as_by n t w vs own ls cs last a false before o z said now = (o, now.1)
