-- `long_powers` meets its contract: the table written twice. Assumes nothing.
use mathlib.Core.Path.{refl}
use Rattle.field.proofs.Exponents.{long_made}
use Rattle.field.proofs.long.long_powers.Goals as goal

pub returns : goal.returns
returns c = long_made _ _ _ _ c.requires refl refl c.copy.ensures c.copy-2.ensures
