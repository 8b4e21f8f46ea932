-- The errors at all the places of a plane: where a place stands, what an error adds to its byte, how many there are, and when they are
-- those of a codeword near. Assumes nothing: these are definitions.
use Rattle.std.specs.Prelude.{cond, List, [], ◌∷◌, ℕ, suc, ◌+◌, ◌*◌, ◌-◌, ◌≤◌, ltb, eqb, take, drop, replicate}
use Rattle.field.specs.Field.{plus, times, power, inverse}
use Rattle.code.specs.Polynomial.{first_exponent}
use Rattle.code.specs.Settings.{Settings, check_count}
use Rattle.code.specs.Repair.{Near}

-- place j of n columns and so many checks is 2 to this power: first the columns, then the checks
unfoldable pub place_exponent : (n checks j : ℕ) → ℕ
place_exponent n checks j = cond (ltb j n) (254 - j) (n + checks - suc j)

-- a weighted error is the byte's error times a power of its place, with the exponent of the first root
unfoldable pub error_byte : Settings → (j weighted : ℕ) → ℕ
error_byte s j y = times y (inverse (power 2 (first_exponent * place_exponent s.n (check_count s) j)))

-- bytes with the errors at the places from place j on added
unfoldable pub mended : Settings → (j : ℕ) → (bytes weighted : List ℕ) → List ℕ
mended s j [] ys = []
mended s j (b ∷ bs) [] = b ∷ bs
mended s j (b ∷ bs) (y ∷ ys) = plus b (error_byte s j y) ∷ mended s (suc j) bs ys

-- how many weighted errors are not 0
unfoldable pub wrong_places : (weighted : List ℕ) → ℕ
wrong_places [] = 0
wrong_places (y ∷ ys) = cond (eqb y 0) 0 1 + wrong_places ys

-- the weighted errors of a plane of zeros and the checks cs, at its places in order, columns 1 to n and then checks 1 to 2t: at
-- most t are not 0, and with them the plane is a codeword
pub record NearErrors (s : Settings) (cs weighted : List ℕ) : Type 0 where
  pub few : wrong_places weighted ≤ s.t
  pub near : Near s (replicate s.n 0) cs (mended s 0 (replicate s.n 0) (take s.n weighted)) (mended s s.n cs (drop s.n weighted))
