-- The difference of two lists of check values, worked out in rows. It is as many values, and a plane of it is a plane of the rows; and
-- there is none for settings that bear no bad column. Assumes nothing.
use mathlib.Core.Path.{◌≡◌, sym, ◌∙◌}
use mathlib.Core.Bool.{false}
use mathlib.Core.List.{List}
use Prim.Native.Nat.{ℕ, zero, suc, ◌*◌, ◌≤◌, ◌<◌}
use native.Mathlib.Omega.{arith}
use lib.ListN.{length}
use Rattle.arrays.specs.Array.{all_zero}
use Rattle.arrays.proofs.Bytes.{Bytes}
use Rattle.arrays.proofs.Zeros.{some_not_zero}
use Rattle.lanes.specs.Lanes.{lane}
use Rattle.code.specs.Vector.{plane, cut}
use Rattle.code.proofs.Vectors.Cut.{cut_length, cut_values}
use Rattle.code.proofs.Vectors.Planes.{Values, plane_bytes}
use Rattle.sums.specs.Rows.{ValuesAdded}
use Rattle.sums.proofs.Sums.CheckRows.{values_lane}
use Rattle.repair.specs.Difference.{plus_values}
use Rattle.repair.proofs.Difference.Values.{plane_plus, plus_values_length, plus_values_values}

-- the bytes of two lists of check values, and their difference in rows
pub record ChecksApart (t w : ℕ) (own checks rows : List ℕ) : Type 0 where
  pub own_bytes : Bytes own
  pub check_bytes : Bytes checks
  pub own_long : length own ≡ 2 * t * w
  pub checks_long : length checks ≡ 2 * t * w
  pub added : ValuesAdded (2 * t) w own checks rows

-- the same as values
abbrev pub apart : (t w : ℕ) → (own checks : List ℕ) → List (List ℕ)
apart t w own checks = plus_values (cut (2 * t) w own) (cut (2 * t) w checks)

module _ {t w : ℕ} {own checks rows : List ℕ} (a : ChecksApart t w own checks rows) where
  own_values : Values w (cut (2 * t) w own)
  own_values = let l = a.own_long in cut_values (2 * t) w own (omega arith) a.own_bytes

  check_values : Values w (cut (2 * t) w checks)
  check_values = let l = a.checks_long in cut_values (2 * t) w checks (omega arith) a.check_bytes

  pub apart_many : length (apart t w own checks) ≡ 2 * t
  apart_many = plus_values_length _ _ (cut_length (2 * t) w own ∙ sym (cut_length (2 * t) w checks)) ∙ cut_length (2 * t) w own

  pub apart_values : Values w (apart t w own checks)
  apart_values = plus_values_values w _ _ own_values check_values

  pub apart_bytes : (p : ℕ) → Bytes (plane p (apart t w own checks))
  apart_bytes p = plane_bytes p w _ apart_values

  pub apart_lane : (p : ℕ) → p < w → lane p (2 * t) rows ≡ plane p (apart t w own checks)
  apart_lane p h = values_lane (2 * t) w own checks rows a.added p h ∙ sym (plane_plus p w _ _ own_values check_values)

-- checks that differ are of settings with bad columns borne
pub some_bad : (t w : ℕ) (own checks rows : List ℕ) → all_zero rows ≡ false → ValuesAdded (2 * t) w own checks rows → 1 ≤ t
some_bad zero w own checks rows z d = let (i, inside, other) = some_not_zero rows z in absurd (other (d.beyond i (omega arith)))
some_bad (suc t) w own checks rows z d = omega arith
