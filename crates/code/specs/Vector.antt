-- Vectors of values, and the check values that make every byte plane a codeword. Assumes nothing: these are definitions.
use Rattle.std.specs.Prelude.{Bool, true, false, ◌&&◌, cond, List, [], ◌∷◌, ◌++◌, ℕ, zero, suc, ◌+◌, eqb, length, get_or, take, drop}
use Rattle.code.specs.Settings.{Settings, check_count, value_size}
use Rattle.code.specs.Plane.{is_codeword, byte_list}

-- byte plane p: byte p of every value
unfoldable pub plane : (p : ℕ) → List (List ℕ) → List ℕ
plane p [] = []
plane p (v ∷ vs) = get_or v p 0 ∷ plane p vs

unfoldable pub each_long : (size : ℕ) → List (List ℕ) → Bool
each_long w [] = true
each_long w (v ∷ vs) = (eqb (length v) w && byte_list v) && each_long w vs

-- n values
unfoldable pub is_vector : Settings → List (List ℕ) → Bool
is_vector s vs = eqb (length vs) s.n && each_long (value_size s) vs

-- 2t check values, of a byte for each plane
unfoldable pub are_checks : Settings → List (List ℕ) → Bool
are_checks s cs = eqb (length cs) (check_count s) && each_long (value_size s) cs

unfoldable pub planes_from : (left p : ℕ) → Settings → (vs cs : List (List ℕ)) → Bool
planes_from zero p s vs cs = true
planes_from (suc k) p s vs cs = is_codeword s (plane p vs) (plane p cs) && planes_from k (suc p) s vs cs

-- the check values of a vector: every plane, coded by itself, is a codeword
unfoldable pub has_checks : Settings → (vs cs : List (List ℕ)) → Bool
has_checks s vs cs = are_checks s cs && planes_from (value_size s) 0 s vs cs

-- two values are equal when all their bytes are
unfoldable pub same : List ℕ → List ℕ → Bool
same [] [] = true
same [] (y ∷ ys) = false
same (x ∷ xs) [] = false
same (x ∷ xs) (y ∷ ys) = eqb x y && same xs ys

-- in how many values two vectors differ
unfoldable pub differ_values : (a b : List (List ℕ)) → ℕ
differ_values [] ys = 0
differ_values (x ∷ xs) [] = 0
differ_values (x ∷ xs) (y ∷ ys) = cond (same x y) 0 1 + differ_values xs ys

-- bytes one after the other as values, and values as bytes one after the other
unfoldable pub cut : (values size : ℕ) → List ℕ → List (List ℕ)
cut zero w bs = []
cut (suc n) w bs = take w bs ∷ cut n w (drop w bs)

unfoldable pub glued : List (List ℕ) → List ℕ
glued [] = []
glued (v ∷ vs) = v ++ glued vs
