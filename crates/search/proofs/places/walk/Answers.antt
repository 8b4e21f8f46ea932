-- `walk` meets its contract: as many coefficients as the longest polynomial has give every plane's values, and no polynomial has more than
-- t + 1. Assumes nothing.
use native.Mathlib.Omega.{arith}
use Rattle.code.proofs.ValidSettings.{bounds}
use Rattle.search.proofs.Walk.{same_values}
use Rattle.search.proofs.places.walk.Goals as goal

pub walk_in-requires-clause-fits : goal.walk_in-requires-clause-fits
walk_in-requires-clause-fits c = (c.requires, same_values _ _ _ _ c.requires c.longest-many.ensures)

pub walk_in-requires-else-many-le-SHORT_LOCATOR-clause-le_many : goal.walk_in-requires-else-many-le-SHORT_LOCATOR-clause-le_many
walk_in-requires-else-many-le-SHORT_LOCATOR-clause-le_many c =
    let few = bounds _ _ _ c.args.settings.allowed in
    let most = c.longest-many.ensures.least c.args.settings.t c.requires.small in (omega arith, omega arith, omega arith, omega arith)

pub walk_in-requires-else-many-le-SHORT_LOCATOR-clause-fits : goal.walk_in-requires-else-many-le-SHORT_LOCATOR-clause-fits
walk_in-requires-else-many-le-SHORT_LOCATOR-clause-fits c = (c.requires, same_values _ _ _ _ c.requires c.longest-many.ensures)
