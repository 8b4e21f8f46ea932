-- `refused` meets its contract: the word, the number, the line feed. Assumes nothing.
use mathlib.Core.Path.{refl, ap}
use Prim.Native.Nat.{ℕ}
use native.Mathlib.Omega.{arith}
use lib.ListN.{length, length-append}
use Rattle.bench.specs.Listing.{refused_line}
use Rattle.bench.proofs.Listing.Decimal.{decimal_short, number_short}
use Rattle.bench.proofs.lines.refused.Goals as goal

pub put_decimal-requires : goal.put_decimal-requires
put_decimal-requires c =
    omega
    (arith, c.number.ensures, number_short c.args.refusal, decimal_short c.number.result, length-append {A = ℕ}, ap length c.new-text.ensures, ap length c.put_bytes.ensures)

pub put_byte-requires : goal.put_byte-requires
put_byte-requires c =
    omega
    (arith, decimal_short c.number.result, length-append {A = ℕ}, ap length c.new-text.ensures, ap length c.put_bytes.ensures, ap length c.put_decimal.ensures)

pub returns : goal.returns
unfolding refused_line
returns c = rw (c.put_byte.ensures, c.put_decimal.ensures, c.number.ensures, c.put_bytes.ensures, c.new-text.ensures) refl
