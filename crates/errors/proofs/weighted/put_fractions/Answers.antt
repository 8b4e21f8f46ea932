-- `put_fractions` meets its contract: each place's errors are told by both polynomials and their tables. Assumes nothing.
use mathlib.Core.Path.{refl}
use Prim.Native.Nat.{◌*◌}
use Rattle.field.proofs.Times.{times_lt}
use Rattle.locator.specs.Errors.{place_exponent}
use Rattle.errors.specs.Fractions.{fraction}
use Rattle.errors.proofs.Told.{told_whole}
use Rattle.errors.proofs.weighted.put_fractions.Goals as goal

pub returns : goal.returns
returns c =
    let a = c.args in
    told_whole _ _ (λ j p. fraction a.numerators.now a.slopes.now a.size p (place_exponent a.n (2 * a.t) j))
    (λ j p. fraction a.numerators.now a.slopes.now a.size p (place_exponent a.n (2 * a.t) j)) _ _ refl (λ j p h. refl)
    (c.put_all.ensures _ (λ j p. times_lt _ _) (λ j errors h e. e.new))
