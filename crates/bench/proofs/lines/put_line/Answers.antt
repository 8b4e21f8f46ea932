-- `put_line` meets its contract: the number, the holdings, the line feed. Assumes nothing.
use mathlib.Core.Path.{ap}
use mathlib.Core.List.{append_assoc}
use Prim.Native.Nat.{ℕ}
use native.Mathlib.Omega.{arith}
use lib.ListN.{length, length-append}
use Rattle.bench.specs.Listing.{column_line}
use Rattle.bench.proofs.lines.put_line.Goals as goal

pub put_decimal-requires : goal.put_decimal-requires
unfolding column_line
put_decimal-requires c = omega (arith, c.requires, length-append {A = ℕ})

pub put_holdings-requires : goal.put_holdings-requires
unfolding column_line
put_holdings-requires c = omega (arith, c.requires, length-append {A = ℕ}, ap length c.put_decimal.ensures)

pub put_byte-requires : goal.put_byte-requires
unfolding column_line
put_byte-requires c = omega (arith, c.requires, length-append {A = ℕ}, ap length c.put_decimal.ensures, ap length c.put_holdings.ensures)

pub returns : goal.returns
unfolding column_line
returns c = rw (c.put_byte.ensures, c.put_holdings.ensures, c.put_decimal.ensures) (simp append_assoc)
