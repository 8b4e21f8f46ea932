-- What is left of heights in ascending order: the first left is the one after those dropped, the last left the one before them.
-- Assumes nothing.
use mathlib.Core.Path.{◌≡◌, sym, ◌∙◌, ap}
use mathlib.Core.List.{List}
use Prim.Native.Nat.{ℕ, ◌+◌, ◌*◌, ◌-◌, ◌≤◌, ◌<◌}
use native.Mathlib.Omega.{arith}
use lib.IntN.{ℤ, pos, ◌+ℤ◌}
use lib.ListN.{length, get_or, take, drop, length-drop}
use lib.Seq.{get_or-take, get_or-drop, length-take-le}
use Rattle.level.specs.Level.{without_ends, halved, middle}

pub many_left : (d : ℕ) (hs : List ℤ) → length (without_ends d hs) ≡ length hs - 2 * d
unfolding without_ends
many_left d hs = length-take-le _ _ (omega (arith, length-drop d hs))

module _ (d many : ℕ) (array : List ℤ) (fits : many ≤ length array) (enough : 2 * d + 1 ≤ many) where
  heights : List ℤ
  heights = take many array

  many_heights : length heights ≡ many
  unfolding heights
  many_heights = length-take-le many array fits

  so_many_left : length (without_ends d heights) ≡ many - 2 * d
  so_many_left = many_left d heights ∙ ap (λ (k : ℕ). k - 2 * d) many_heights

  left_at : (j i : ℕ) → j < many - 2 * d → d + j ≡ i → get_or (without_ends d heights) j (pos 0) ≡ get_or array i (pos 0)
  unfolding without_ends heights
  left_at j i h e =
      get_or-take (length heights - 2 * d) (drop d heights) j (pos 0) (omega (arith, many_heights)) ∙ get_or-drop d heights j (pos 0)
      ∙ get_or-take many array (d + j) (pos 0) (omega arith) ∙ ap (λ (k : ℕ). get_or array k (pos 0)) e

  pub middle_is :
      (low high : ℕ) → low ≡ d → high + d + 1 ≡ many →
      halved (get_or array low (pos 0) +ℤ get_or array high (pos 0)) ≡ middle (without_ends d (take many array))
  unfolding middle heights
  middle_is low high e f =
      sym
      (ap halved
      (ap (λ (x : ℤ). x +ℤ get_or (without_ends d heights) (length (without_ends d heights) - 1) (pos 0)) (left_at 0 low (omega arith) (omega arith))
      ∙ ap (λ (x : ℤ). get_or array low (pos 0) +ℤ x) (left_at (length (without_ends d heights) - 1) high (omega (arith, so_many_left)) (omega (arith, so_many_left)))))
