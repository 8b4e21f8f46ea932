-- A quick test for check values, so that examples can be computed. The powers of a root are powers of 2, whose exponents count
-- modulo 255, and a power of 2 is so many doublings of 1; with these in place of powers the test is the same test, and a few
-- hundred doublings decide it. Assumes nothing.
use mathlib.Core.Path.{◌≡◌, refl, sym, ◌∙◌, ap, ap₂}
use mathlib.Core.Bool.{Bool, true, ◌&&◌}
use mathlib.Core.List.{List, [], ◌∷◌}
use Prim.Native.Nat.{ℕ, zero, suc, ◌+◌, ◌*◌, ◌-◌, ◌%◌}
use lib.Dec.{eqb}
use lib.ListN.{length}
use Rattle.field.specs.Field.{plus, times, power}
use Rattle.field.proofs.Power.{doublings, power_doublings, power_mul, power_mod}
use Rattle.code.specs.Settings.{Settings, check_count, value_size}
use Rattle.code.specs.Polynomial.{first_exponent, root}
use Rattle.code.specs.Plane.{summed, syndrome, all_zero_from, byte_list, is_codeword}
use Rattle.code.specs.Vector.{plane, are_checks, planes_from, has_checks}

root_power : (i k : ℕ) → power (root i) k ≡ doublings ((first_exponent + i) * k % 255) 1
unfolding root
root_power i k = power_mul (first_exponent + i) k ∙ sym (power_mod ((first_exponent + i) * k)) ∙ power_doublings ((first_exponent + i) * k % 255)

-- bytes times falling powers of the root i
unfoldable pub quick_summed : (i highest : ℕ) → List ℕ → ℕ
quick_summed i k [] = 0
quick_summed i k (b ∷ bs) = plus (times b (doublings ((first_exponent + i) * k % 255) 1)) (quick_summed i (k - 1) bs)

pub summed_quick : (i k : ℕ) (bs : List ℕ) → summed (root i) k bs ≡ quick_summed i k bs
unfolding summed quick_summed
summed_quick i k [] = refl
summed_quick i k (b ∷ bs) = ap₂ plus (ap (times b) (root_power i k)) (summed_quick i (k - 1) bs)

unfoldable pub quick_zero_from : (left i : ℕ) → Settings → (bytes checks : List ℕ) → Bool
quick_zero_from zero i s bs cs = true
quick_zero_from (suc n) i s bs cs = eqb (plus (quick_summed i 254 bs) (quick_summed i (check_count s - 1) cs)) 0 && quick_zero_from n (suc i) s bs cs

all_zero_quick : (n i : ℕ) (s : Settings) (bs cs : List ℕ) → all_zero_from n i s bs cs ≡ quick_zero_from n i s bs cs
unfolding all_zero_from quick_zero_from syndrome
all_zero_quick zero i s bs cs = refl
all_zero_quick (suc n) i s bs cs =
    ap₂ ◌&&◌ (ap (λ (x : ℕ). eqb x 0) (ap₂ plus (summed_quick i 254 bs) (summed_quick i (check_count s - 1) cs))) (all_zero_quick n (suc i) s bs cs)

-- a codeword, and the check values of a vector
unfoldable pub quick_word : Settings → (bytes checks : List ℕ) → Bool
quick_word s bs cs =
    ((eqb (length bs) s.n && eqb (length cs) (check_count s)) && (byte_list bs && byte_list cs)) && quick_zero_from (check_count s) 0 s bs cs

word_quick : (s : Settings) (bs cs : List ℕ) → is_codeword s bs cs ≡ quick_word s bs cs
unfolding is_codeword quick_word
word_quick s bs cs =
    ap (λ (t : Bool). ((eqb (length bs) s.n && eqb (length cs) (check_count s)) && (byte_list bs && byte_list cs)) && t) (all_zero_quick (check_count s) 0 s bs cs)

unfoldable pub quick_planes_from : (left p : ℕ) → Settings → (vs cs : List (List ℕ)) → Bool
quick_planes_from zero p s vs cs = true
quick_planes_from (suc k) p s vs cs = quick_word s (plane p vs) (plane p cs) && quick_planes_from k (suc p) s vs cs

planes_quick : (n p : ℕ) (s : Settings) (vs cs : List (List ℕ)) → planes_from n p s vs cs ≡ quick_planes_from n p s vs cs
unfolding planes_from quick_planes_from
planes_quick zero p s vs cs = refl
planes_quick (suc n) p s vs cs = ap₂ ◌&&◌ (word_quick s (plane p vs) (plane p cs)) (planes_quick n (suc p) s vs cs)

unfoldable pub quick_checks : Settings → (vs cs : List (List ℕ)) → Bool
quick_checks s vs cs = are_checks s cs && quick_planes_from (value_size s) 0 s vs cs

pub checks_quick : (s : Settings) (vs cs : List (List ℕ)) → has_checks s vs cs ≡ quick_checks s vs cs
unfolding has_checks quick_checks
checks_quick s vs cs = ap (◌&&◌ (are_checks s cs)) (planes_quick (value_size s) 0 s vs cs)
