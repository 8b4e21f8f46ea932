-- A plane's codewords do not depend on how many bytes a value has: its syndromes are sums over the bytes of this plane alone. So a codeword
-- near, none near, and the places tried are the same for values of any two sizes, and a plane worked out for values of one byte stands
-- beside others. Assumes nothing.
use mathlib.Core.Path.{◌≡◌, refl, ◌∙◌, ap}
use mathlib.Core.Bool.{◌&&◌}
use mathlib.Core.List.{List}
use mathlib.Core.Logic.{inl, inr}
use Prim.Native.Nat.{ℕ, zero, suc, ◌*◌}
use lib.Dec.{eqb}
use lib.ListN.{length}
use Rattle.code.specs.Settings.{settings, check_count}
use Rattle.code.specs.Plane.{syndrome, all_zero_from, byte_list, is_codeword}
use Rattle.code.specs.Repair.{Near, Tried}

-- the syndromes of a plane
zeros_sized : (k i n t v w : ℕ) (bs cs : List ℕ) → all_zero_from k i (settings n t v) bs cs ≡ all_zero_from k i (settings n t w) bs cs
unfolding all_zero_from syndrome check_count settings
zeros_sized zero i n t v w bs cs = refl
zeros_sized (suc k) i n t v w bs cs = ap (◌&&◌ (eqb (syndrome (settings n t v) i bs cs) 0)) (zeros_sized k (suc i) n t v w bs cs)

codeword_sized : (n t v w : ℕ) (bs cs : List ℕ) → is_codeword (settings n t v) bs cs ≡ is_codeword (settings n t w) bs cs
unfolding is_codeword check_count settings
codeword_sized n t v w bs cs =
    ap (◌&&◌ ((eqb (length bs) n && eqb (length cs) (2 * t)) && (byte_list bs && byte_list cs))) (zeros_sized (2 * t) 0 n t v w bs cs)

-- a codeword near, and the places tried
pub near_sized : (n t v w : ℕ) (bs cs us ds : List ℕ) → Near (settings n t v) bs cs us ds → Near (settings n t w) bs cs us ds
unfolding settings
near_sized n t v w bs cs us ds near = record { codeword = codeword_sized n t w v us ds ∙ near.codeword; within = near.within }

pub tried_sized : (n t v w : ℕ) (bs cs : List ℕ) (k : ℕ) → Tried (settings n t v) bs cs k → Tried (settings n t w) bs cs k
unfolding Tried check_count settings
tried_sized n t v w bs cs k (inl (us, ds, near, last)) = inl (us, ds, near_sized n t v w bs cs us ds near, last)
tried_sized n t v w bs cs k (inr (none, all)) = inr (λ us ds near. none us ds (near_sized n t w v bs cs us ds near), all)
