-- A part of a slice that was lent and has come back: its bytes stand at the part's place, and the others are as they were.
-- Assumes nothing.
use mathlib.Core.Path.{◌≡◌, sym, ◌∙◌, ap}
use mathlib.Core.List.{List, ◌++◌}
use Prim.Native.Nat.{ℕ, ◌+◌, ◌-◌, ◌≤◌, ◌<◌}
use native.Mathlib.Omega.{arith}
use lib.ListN.{length, get_or, take, drop, length-drop, get_or-append}
use lib.Seq.{length-take-le, get_or-take, get_or-drop, get_or-append-add}
use borrow.Rule.Slice.PartMut.{put_mid, post_of}

-- the part as it is lent
pub part_lent : (a k : ℕ) (xs : List ℕ) (j : ℕ) → j < k → get_or (take k (drop a xs)) j 0 ≡ get_or xs (a + j) 0
part_lent a k xs j h = get_or-take k (drop a xs) j 0 h ∙ get_or-drop a xs j 0

pub part_long : (at w : ℕ) (bs : List ℕ) → at + w ≤ length bs → length (take (at + w - at) (drop at bs)) ≡ w
part_long at w bs h = length-take-le (at + w - at) (drop at bs) (omega (arith, length-drop at bs)) ∙ omega arith

module _ (a k : ℕ) (xs ys : List ℕ) (fits : a + k ≤ length xs) (same : length ys ≡ k) where
  front : length (take a xs) ≡ a
  front = length-take-le a xs (omega arith)

  past : (i : ℕ) → get_or (put_mid a k xs ys) (a + i) 0 ≡ get_or (ys ++ post_of a k xs) i 0
  past i = ap (λ (n : ℕ). get_or (put_mid a k xs ys) (n + i) 0) (sym front) ∙ get_or-append-add (take a xs) (ys ++ post_of a k xs) i 0

  pub part_inside : (j : ℕ) → j < k → get_or (put_mid a k xs ys) (a + j) 0 ≡ get_or ys j 0
  part_inside j h = past j ∙ get_or-append ys (post_of a k xs) 0 j (omega arith)

  pub part_after : (i : ℕ) → a + k ≤ i → get_or (put_mid a k xs ys) i 0 ≡ get_or xs i 0
  part_after i h =
      ap (λ (n : ℕ). get_or (put_mid a k xs ys) n 0) (let e : i ≡ a + (length ys + (i - a - k)) = omega arith in e) ∙ past (length ys + (i - a - k))
      ∙ get_or-append-add ys (post_of a k xs) (i - a - k) 0 ∙ get_or-drop k _ (i - a - k) 0 ∙ get_or-drop a xs (k + (i - a - k)) 0
      ∙ ap (λ (n : ℕ). get_or xs n 0) (let e : a + (k + (i - a - k)) ≡ i = omega arith in e)
