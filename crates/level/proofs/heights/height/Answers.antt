-- `height` meets its contract: four bytes, the high byte first, as 32 bits with a sign. Assumes nothing.
use Rattle.std.proofs.Common.{◌<◌, ◌∙◌, ℕ, get_or}
use borrow.Author.Rules.{rules}
use mir.Syntax.{w32}
use mir.Facts.{to_z-of_z}
use Rattle.level.proofs.Integers.{height_read}
use Rattle.level.proofs.heights.height.Goals as goal

pub returns : goal.returns
returns c =
    let small : (i : ℕ) → get_or c.args.bytes i 0 < 256 = search rules in
    to_z-of_z {w = w32} (record { sfits = c.from_be_bytes.type_inv }) ∙ c.from_be_bytes.ensures ∙ height_read c.args.bytes small
