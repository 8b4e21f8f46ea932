-- The field of 256 elements: bytes under exclusive or, products modulo x^8 + x^7 + x^2 + x + 1 (0x187).
-- A byte is a number below 256, bit i the coefficient of x^i. Assumes nothing: these are definitions.
use Rattle.std.specs.Prelude.{cond, ℕ, zero, suc, ◌+◌, ◌*◌, ◌-◌, ◌/◌, ◌%◌, ltb, eqb}

-- exclusive or of the lowest bits, as many as the first number says
unfoldable pub xor_from : (bits a b : ℕ) → ℕ
xor_from zero a b = 0
xor_from (suc k) a b = (a + b) % 2 + 2 * xor_from k (a / 2) (b / 2)

-- addition by exclusive or
unfoldable pub plus : (a b : ℕ) → ℕ
plus a b = xor_from 8 a b

-- twice a byte: the shift, and where x^8 falls out, x^7 + x^2 + x + 1 (135) for it
unfoldable pub doubled : ℕ → ℕ
doubled a = cond (ltb a 128) (2 * a) (plus (2 * a - 256) 135)

-- shift and add over the lowest bits of b
unfoldable pub times_from : (bits a b : ℕ) → ℕ
times_from zero a b = 0
times_from (suc k) a b = plus (cond (eqb (b % 2) 1) a 0) (times_from k (doubled a) (b / 2))

-- the product of two bytes
unfoldable pub times : (a b : ℕ) → ℕ
times a b = times_from 8 a b

-- a multiplied by itself k times
unfoldable pub power : (a k : ℕ) → ℕ
power a zero = 1
power a (suc k) = times a (power a k)

-- the byte whose product with a is 1; of 0, which has none, it is 0
unfoldable pub inverse : ℕ → ℕ
inverse a = power a 254
