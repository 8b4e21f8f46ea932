-- A number in decimal by how many digits it has, and its length. Read off the definition. Assumes nothing.
use mathlib.Core.Path.{◌≡◌, refl, ap}
use mathlib.Core.Bool.{Bool, true, false, cond}
use mathlib.Core.List.{◌++◌}
use Prim.Native.Nat.{ℕ, ◌/◌, ◌%◌, ◌≤◌, ◌<◌}
use native.Mathlib.Omega.{arith}
use lib.Dec.{ltb}
use lib.ListN.{length}
use borrow.Author.Tests.{lt-ltb, le-ltb}
use Rattle.refusal.specs.Number.{number_of}
use Rattle.refusal.specs.declared.Refusal.{Refusal}
use Rattle.bench.specs.Listing.{digit, decimal}

pub one_digit : (n : ℕ) → n < 10 → decimal n ≡ digit n
unfolding decimal
one_digit n h = rw (lt-ltb n 10 h) refl

pub two_digits : (n : ℕ) → 10 ≤ n → n < 100 → decimal n ≡ digit (n / 10) ++ digit (n % 10)
unfolding decimal
two_digits n l h = rw (le-ltb n 10 l, lt-ltb n 100 h) refl

pub three_digits : (n : ℕ) → 100 ≤ n → decimal n ≡ digit (n / 100) ++ (digit (n / 10 % 10) ++ digit (n % 10))
unfolding decimal
three_digits n l = rw (le-ltb n 10 (omega arith), le-ltb n 100 l) refl

pub one_long : (n : ℕ) → n < 10 → length (decimal n) ≡ 1
unfolding digit
one_long n h = ap length (one_digit n h)

pub two_long : (n : ℕ) → 10 ≤ n → n < 100 → length (decimal n) ≡ 2
unfolding digit
two_long n l h = ap length (two_digits n l h)

pub three_long : (n : ℕ) → 100 ≤ n → length (decimal n) ≡ 3
unfolding digit
three_long n l = ap length (three_digits n l)

pub decimal_short : (n : ℕ) → length (decimal n) ≤ 3
unfolding decimal digit
decimal_short n = go (ltb n 10) (ltb n 100)
  where
    go :
        (a b : Bool) →
        length (cond a (digit n) (cond b (digit (n / 10) ++ digit (n % 10)) (digit (n / 100) ++ (digit (n / 10 % 10) ++ digit (n % 10))))) ≤ 3
    go true b = omega arith
    go false true = omega arith
    go false false = omega arith

pub one_short : (n : ℕ) → n < 10 → length (decimal n) ≤ 1
one_short n h = omega (arith, one_long n h)

pub two_short : (n : ℕ) → n < 100 → length (decimal n) ≤ 2
unfolding decimal digit
two_short n h = rw (lt-ltb n 100 h) (go (ltb n 10))
  where
    go : (a : Bool) → length (cond a (digit n) (digit (n / 10) ++ digit (n % 10))) ≤ 2
    go true = omega arith
    go false = omega arith

pub number_short : (e : Refusal) → number_of e < 1000
number_short e = grind arith
