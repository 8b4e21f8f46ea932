-- One byte plane: its syndromes, its codewords, its checks as a remainder. Assumes nothing: these are definitions.
use Rattle.std.specs.Prelude.{Bool, true, ◌&&◌, cond, List, [], ◌∷◌, ◌++◌, reverse, ℕ, zero, suc, ◌+◌, ◌-◌, ltb, eqb, length, replicate}
use Rattle.field.specs.Field.{plus, times, power}
use Rattle.code.specs.Settings.{Settings, check_count}
use Rattle.code.specs.Polynomial.{root}

-- bytes times falling powers of x, the first by the power given
unfoldable pub summed : (x highest : ℕ) → List ℕ → ℕ
summed x k [] = 0
summed x k (b ∷ bs) = plus (times b (power x k)) (summed x (k - 1) bs)

-- the word at the root i: column k's byte belongs to x^(255 − k), check c's to x^(2t − c)
unfoldable pub syndrome : Settings → (i : ℕ) → (bytes checks : List ℕ) → ℕ
syndrome s i bs cs = plus (summed (root i) 254 bs) (summed (root i) (check_count s - 1) cs)

unfoldable pub all_zero_from : (left i : ℕ) → Settings → (bytes checks : List ℕ) → Bool
all_zero_from zero i s bs cs = true
all_zero_from (suc n) i s bs cs = eqb (syndrome s i bs cs) 0 && all_zero_from n (suc i) s bs cs

unfoldable pub byte_list : List ℕ → Bool
byte_list [] = true
byte_list (b ∷ bs) = ltb b 256 && byte_list bs

-- a codeword: n bytes and 2t checks that are 0 at the first 2t roots
unfoldable pub is_codeword : Settings → (bytes checks : List ℕ) → Bool
is_codeword s bs cs =
    ((eqb (length bs) s.n && eqb (length cs) (check_count s)) && (byte_list bs && byte_list cs)) && all_zero_from (check_count s) 0 s bs cs

-- the columns' bytes as a polynomial: column k's is the coefficient of x^(255 − k), and the places below are not in use
unfoldable pub data_polynomial : (bytes : List ℕ) → List ℕ
data_polynomial bs = replicate (255 - length bs) 0 ++ reverse bs

-- the checks as a polynomial: highest power first, check c the coefficient of x^(2t − c)
unfoldable pub check_polynomial : (checks : List ℕ) → List ℕ
check_polynomial cs = reverse cs

-- in how many places two lists differ
unfoldable pub differ : List ℕ → List ℕ → ℕ
differ [] ys = 0
differ (x ∷ xs) [] = 0
differ (x ∷ xs) (y ∷ ys) = cond (eqb x y) 0 1 + differ xs ys
