-- `put_found_errors` meets its contract: nothing is left to tell where no plane has found all its roots. Assumes nothing.
use Prim.Native.Nat.{ℕ, ◌*◌}
use Rattle.field.specs.Field.{power}
use Rattle.locator.specs.Errors.{place_exponent}
use Rattle.errors.specs.Fractions.{told}
use Rattle.errors.proofs.Told.{found_none, found_told}
use Rattle.errors.proofs.weighted.put_found_errors.Goals as goal
use Rattle.errors.proofs.weighted.put_found_errors.Goals.{Start}

abbrev error : Start → ℕ → ℕ → ℕ
error s j p = let a = s.args in told a.rows.now a.sums.now a.roots p (power 2 (place_exponent a.n (2 * a.t) j))

pub returns-then-none_found : goal.returns-then-none_found
returns-then-none_found c =
    found_none _ (error (goal.at.returns-then-none_found c).Start) c.args.roots c.args.left _ (λ i. (c.slice_known-1.given i).fits) (c.none_found.ensures c.if-none_found.true) c.requires.fits.2

pub returns : goal.returns
returns c =
    found_told _ (error (goal.at.returns c).Start) c.args.left _ _ c.put_all_errors.ensures
