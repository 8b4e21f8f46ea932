-- `put_decimal` meets its contract: the digits one behind the other, as many as the number has. Assumes nothing.
use mathlib.Core.Path.{sym, ◌∙◌, ap}
use mathlib.Core.List.{◌++◌, append_assoc}
use Prim.Native.Nat.{ℕ}
use native.Mathlib.Omega.{arith}
use lib.ListN.{length, length-append}
use Rattle.bench.specs.Listing.{digit}
use Rattle.bench.proofs.Listing.Decimal.{one_digit, two_digits, three_digits, one_long, two_long, three_long}
use Rattle.bench.proofs.printing.Text.put_decimal.Goals as goal

pub put_digit-requires : goal.put_digit-requires
put_digit-requires c = omega (arith, one_long c.args.number c.if-number-lt10.true)

pub returns-then-number-lt10 : goal.returns-then-number-lt10
returns-then-number-lt10 c = c.put_digit.ensures ∙ ap (◌++◌ c.args.self.now) (sym (one_digit c.args.number c.if-number-lt10.true))

pub put_digit-requires-then-number-lt100 : goal.put_digit-requires-then-number-lt100
put_digit-requires-then-number-lt100 c = omega (arith, two_long c.args.number (omega arith) (omega arith))

pub put_digit-requires-then-number-lt100-2 : goal.put_digit-requires-then-number-lt100-2
unfolding digit
put_digit-requires-then-number-lt100-2 c =
    omega (arith, two_long c.args.number (omega arith) (omega arith), length-append {A = ℕ}, ap length c.put_digit-then-number-lt100.ensures)

pub returns-then-number-lt100 : goal.returns-then-number-lt100
returns-then-number-lt100 c =
    rw (two_digits c.args.number (omega arith) (omega arith), c.put_digit-then-number-lt100-2.ensures, c.put_digit-then-number-lt100.ensures) (simp append_assoc)

pub put_digit-requires-2 : goal.put_digit-requires-2
put_digit-requires-2 c = omega (arith, three_long c.args.number (omega arith))

pub put_digit-requires-3 : goal.put_digit-requires-3
unfolding digit
put_digit-requires-3 c = omega (arith, three_long c.args.number (omega arith), length-append {A = ℕ}, ap length c.put_digit-2.ensures)

pub put_digit-requires-4 : goal.put_digit-requires-4
unfolding digit
put_digit-requires-4 c =
    omega (arith, three_long c.args.number (omega arith), length-append {A = ℕ}, ap length c.put_digit-2.ensures, ap length c.put_digit-3.ensures)

pub returns : goal.returns
returns c =
    rw (three_digits c.args.number (omega arith), c.put_digit-4.ensures, c.put_digit-3.ensures, c.put_digit-2.ensures)
    (simp append_assoc)
