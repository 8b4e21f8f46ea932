-- Arrays that hold bytes in front of zeros. Such an array reads as its bytes do, at every place, since both are 0 behind them.
-- A loop that puts one byte after the other into zeros makes one. Assumes nothing.
use mathlib.Core.Path.{◌≡◌, refl, sym, ◌∙◌, ap}
use mathlib.Core.List.{List, [], ◌∷◌, ◌++◌}
use Prim.Native.Nat.{ℕ, zero, suc, ◌<◌}
use native.Mathlib.Omega.{arith}
use lib.ListN.{length, get_or, drop, set, replicate, length-append, length-replicate}
use lib.Seq.{drop-cons, get_or-drop, set_at, append_snoc}
use Rattle.arrays.specs.Array.{in_front, padded}
use Rattle.arrays.proofs.Zeros.{zeros_at}

before_zeros : (bs zs : List ℕ) (i : ℕ) → ((j : ℕ) → get_or zs j 0 ≡ 0) → get_or (bs ++ zs) i 0 ≡ get_or bs i 0
before_zeros [] zs i z = z i
before_zeros (b ∷ bs) zs zero z = refl
before_zeros (b ∷ bs) zs (suc i) z = before_zeros bs zs i z

module _ (room : ℕ) (bs : List ℕ) where
  pub padded_at : (i : ℕ) → get_or (padded room bs) i 0 ≡ get_or bs i 0
  unfolding padded in_front
  padded_at i = before_zeros bs _ i (λ j. get_or-drop (length bs) (replicate room 0) j 0 ∙ zeros_at room _)

  pub padded_more : (k v : ℕ) → length bs ≡ k → k < room → set (padded room bs) k v ≡ padded room (bs ++ (v ∷ []))
  unfolding padded in_front
  padded_more k v e h =
      let long : suc k ≡ length (bs ++ (v ∷ [])) = omega (arith, length-append bs (v ∷ [])) in
      ap (λ (i : ℕ). set (bs ++ drop i (replicate room 0)) k v) e
      ∙ ap (λ (zs : List ℕ). set (bs ++ zs) k v) (drop-cons (replicate room 0) k 0 (simp length-replicate h))
      ∙ set_at bs _ _ v k e ∙ sym (append_snoc bs v _)
      ∙ ap (λ (i : ℕ). (bs ++ (v ∷ [])) ++ drop i (replicate room 0)) long
