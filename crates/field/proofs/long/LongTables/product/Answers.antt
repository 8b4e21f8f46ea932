-- `LongTables::product` meets its contract: what stands at the sum of the exponents is the product. Assumes nothing.
use mathlib.Core.Path.{◌∙◌}
use Rattle.field.proofs.Exponents.{byte_product}
use Rattle.field.proofs.long.LongTables.product.Goals as goal

pub returns : goal.returns
returns c = c.args.self.now.right.0.entry _ ∙ byte_product c.args.a c.args.b _ _ c.exponent_of.ensures.0 c.exponent_of-2.ensures.0
