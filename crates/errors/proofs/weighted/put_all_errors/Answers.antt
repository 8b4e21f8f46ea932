-- `put_all_errors` meets its contract: by the first sums where no plane looks for more than one root, and else by both polynomials and their
-- tables. Assumes nothing.
use mathlib.Core.Path.{refl, ◌∙◌, ap}
use mathlib.Core.List.{List}
use Prim.Native.Nat.{ℕ, ◌*◌, ◌≤◌, ◌<◌}
use native.Mathlib.Omega.{arith}
use lib.ListN.{get_or}
use Rattle.field.specs.Field.{power}
use Rattle.field.proofs.Power.{power_lt}
use Rattle.code.specs.Size.{most_bad}
use Rattle.locator.specs.Errors.{place_exponent}
use Rattle.errors.specs.Fractions.{told, first_told}
use Rattle.errors.proofs.Told.{told_whole}
use Rattle.errors.proofs.Quotients.{fraction_told, first_told_lt, first_told_so}
use Rattle.errors.proofs.weighted.put_all_errors.Goals as goal
use Rattle.errors.proofs.weighted.put_all_errors.Goals.{After-longest-size}

-- what was known when the longest was found
module _ (c : After-longest-size) where
  abbrev size : ℕ
  size = c.longest-size.result

  few : size ≤ most_bad
  few = let least = c.longest-size.ensures.least c.args.t c.requires.fits.small in omega (arith, least, c.requires.n_le_most_columns)

  row_byte : (i : ℕ) → get_or c.args.rows.now i 0 < 256
  row_byte i = (c.shared_slice_known-1.given i).fits

  sum_byte : (i : ℕ) → get_or c.args.sums.now i 0 < 256
  sum_byte i = (c.shared_slice_known-2-1.given i).fits

  abbrev error : (j p : ℕ) → ℕ
  error j p =
      told c.args.rows.now c.args.sums.now c.args.roots p (power 2 (place_exponent c.args.n (2 * c.args.t) j))

pub put_all-requires-clause-room : goal.put_all-requires-clause-room
put_all-requires-clause-room c =
    (omega (arith, c.requires.n_le_most_columns), c.requires.weighted_len)

pub returns-then-size-lt2 : goal.returns-then-size-lt2
returns-then-size-lt2 c =
    let a = c.args in
    let f = (goal.at.returns-then-size-lt2 c).After-longest-size in
    told_whole _ _ (λ j p. first_told a.rows.now a.sums.now p) (error f) _ _ refl
    (λ j p h.
    first_told_so (size f) a.t a.rows.now a.sums.now a.roots c.requires.fits c.longest-size.ensures (row_byte f) (sum_byte f) p h c.if-size-lt2.true
    (power 2 (place_exponent a.n (2 * a.t) j)) (power_lt 2 _))
    (c.put_all.ensures _ (λ j p. first_told_lt a.rows.now a.sums.now p (sum_byte f p)) (λ j errors h e p k. ap (λ (bytes : List ℕ). get_or bytes p 0) e ∙ c.first_errors-errors.ensures.new p k))

pub numerators-numerators-requires : goal.numerators-numerators-requires
numerators-numerators-requires c =
    let long = c.requires.n_le_most_columns in
    let small = few (goal.at.numerators-numerators-requires c).After-longest-size in
    (small, long.3, omega (arith, small, long.4))

pub slopes-slopes-requires : goal.slopes-slopes-requires
slopes-slopes-requires c =
    (omega (arith, few (goal.at.slopes-slopes-requires c).After-longest-size), c.requires.n_le_most_columns.3)

pub put_fractions-requires : goal.put_fractions-requires
put_fractions-requires c = record {
  sizes = (omega (arith, c.if-size-lt2.false), few (goal.at.put_fractions-requires c).After-longest-size, c.numerators-numerators.ensures.long, c.slopes-slopes.ensures.long);
  n_le_most_columns = let bounds = c.requires.n_le_most_columns in (bounds.0, bounds.1, bounds.2, c.requires.weighted_len);
}

pub returns : goal.returns
returns c =
    let a = c.args in
    let f = (goal.at.returns c).After-longest-size in
    told_whole _ _ _ (error f) _ _ refl
    (λ j q h.
    fraction_told (size f) a.t a.rows.now a.sums.now a.roots c.requires.fits c.longest-size.ensures (row_byte f) (sum_byte f) q h _ _
    c.numerators-numerators.ensures c.slopes-slopes.ensures (place_exponent a.n (2 * a.t) j))
    c.put_fractions.ensures
