-- What the code calls answer and leave in the lent output. Assumes nothing: these are definitions.
use Rattle.std.specs.Prelude.{◌≡◌, true, ◌||◌, not, cond, List, ℕ, zero, suc, ◌*◌, ltb, eqb, length}
use Rattle.arrays.specs.Array.{in_front}
use Rattle.code.specs.Settings.{Settings, settings, settings_refusal, check_count, value_size}
use Rattle.code.specs.Vector.{has_checks, cut, glued}

-- lent bytes as so many values
unfoldable pub values_in : Settings → (many : ℕ) → List ℕ → List (List ℕ)
values_in s k bs = cut k (value_size s) bs

-- check values: 1 to 3; 18 where the vector is not n values long or the output has no room for 2t
unfoldable pub checks_refusal : Settings → (vector room : ℕ) → ℕ
checks_refusal s v k =
    cond (not (eqb (settings_refusal s) 0)) (settings_refusal s)
    (cond (not (eqb v (s.n * value_size s)) || ltb k (check_count s * value_size s)) 18 0)

-- the vector's check values in front of the output, the rest of it kept
unfoldable pub ChecksPut : Settings → (vector : List ℕ) → (out out_now : List ℕ) → Type 0
ChecksPut s vs o z = (cs : List (List ℕ)) × (has_checks s (values_in s s.n vs) cs ≡ true) × (z ≡ in_front (glued cs) o)

unfoldable pub ChecksAs : (number : ℕ) → Settings → (vector : List ℕ) → (answer : ℕ) → (out out_now : List ℕ) → Type 0
ChecksAs zero s vs r o z = (r ≡ 0) × ChecksPut s vs o z
ChecksAs (suc n) s vs r o z = (r ≡ suc n) × (z ≡ o)

-- the contract of `check_values`: the refusal that applies and every byte kept, or 0 and the check values in front
unfoldable pub ChecksSays : (n t w : ℕ) → (vector : List ℕ) → (answer : ℕ) → (out out_now : List ℕ) → Type 0
ChecksSays n t w vs r o z = ChecksAs (checks_refusal (settings n t w) (length vs) (length o)) (settings n t w) vs r o z
