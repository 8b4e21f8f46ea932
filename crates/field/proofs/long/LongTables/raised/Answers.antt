-- `LongTables::raised` meets its contract: what stands at the sum of the exponents is the product. Assumes nothing.
use mathlib.Core.Path.{◌∙◌}
use native.Mathlib.Omega.{arith}
use Rattle.field.proofs.Exponents.{byte_raised}
use Rattle.field.proofs.long.LongTables.raised.Goals as goal

pub returns : goal.returns
returns c = c.args.self.now.right.0.entry _ ∙ byte_raised c.args.exponent c.args.b _ (omega arith) c.exponent_of.ensures.0
