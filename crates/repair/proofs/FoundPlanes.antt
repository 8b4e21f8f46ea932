-- What the search of all planes found, plane by plane. Where some roots are left, their plane has no codeword near; where none are, each
-- plane's errors are those of one; and the places tried are those up to the last that differs from it, or all. Assumes nothing.
use mathlib.Core.Path.{◌≡◌, sym, ◌∙◌}
use mathlib.Core.Bool.{true, false}
use mathlib.Core.List.{List}
use mathlib.Core.Logic.{inl, inr}
use Prim.Native.Nat.{ℕ, ◌+◌, ◌<◌}
use native.Mathlib.Omega.{arith}
use native.Mathlib.Decide.{dec_lt}
use lib.ListN.{length, get_or, replicate, length-replicate}
use Rattle.arrays.specs.Array.{all_zero}
use Rattle.arrays.proofs.Bytes.{Bytes, bytes_zeros}
use Rattle.arrays.proofs.Zeros.{zero_at, some_not_zero}
use Rattle.lanes.specs.Lanes.{lane}
use Rattle.lanes.proofs.Lane.{lane_length, lane_bytes}
use Rattle.code.specs.Settings.{Settings, check_count}
use Rattle.code.specs.Repair.{Near, Tried}
use Rattle.locator.specs.Errors.{NearErrors}
use Rattle.locator.proofs.Errors.Mended.{mended_last}
use Rattle.search.specs.Planes.{PlaneFound, Decoded}

-- one plane, of zeros and the checks cs
module _ (s : Settings) (cs ys : List ℕ) (left k : ℕ) where
  plane_near : left ≡ 0 → PlaneFound s cs ys left k → NearErrors s cs ys
  unfolding PlaneFound
  plane_near e (inl (done, near, last)) = near
  plane_near e (inr (more, none, all)) = absurd (more e)

  plane_none : (left ≡ 0 → ⊥) → PlaneFound s cs ys left k → (us ds : List ℕ) → Near s (replicate s.n 0) cs us ds → ⊥
  unfolding PlaneFound
  plane_none e (inl (done, near, last)) = absurd (e done)
  plane_none e (inr (more, none, all)) = none

  plane_tried :
      length cs ≡ check_count s → Bytes cs → length ys ≡ s.n + check_count s → Bytes ys → PlaneFound s cs ys left k → Tried s (replicate s.n 0) cs k
  unfolding PlaneFound Tried
  plane_tried e b f c (inl (done, near, last)) =
      inl (_, _, near.near, last ∙ sym (mended_last s s.n (replicate s.n 0) cs ys (length-replicate s.n 0) (omega arith) (bytes_zeros s.n) b c))
  plane_tried e b f c (inr (more, none, all)) = inr (none, all)

-- all planes
module _ (w : ℕ) (s : Settings) (rows left tried weighted : List ℕ) (turns : ℕ) (d : Decoded w s rows left tried weighted turns) where
  pub all_near : all_zero left ≡ true → (p : ℕ) → p < w → NearErrors s (lane p (check_count s) rows) (lane p (s.n + check_count s) weighted)
  all_near e p h = plane_near s _ _ _ _ (zero_at left e p) (d.each p h)

  pub none_somewhere :
      all_zero left ≡ false → (p : ℕ) × (p < w) × ((us ds : List ℕ) → Near s (replicate s.n 0) (lane p (check_count s) rows) us ds → ⊥)
  none_somewhere e = let (p, inside, more) = some_not_zero left e in go p more (dec_lt p w)
    where
      go :
          (p : ℕ) → (get_or left p 0 ≡ 0 → ⊥) → Dec (p < w) →
          (q : ℕ) × (q < w) × ((us ds : List ℕ) → Near s (replicate s.n 0) (lane q (check_count s) rows) us ds → ⊥)
      go p more (yes h) = (p, h, plane_none s _ _ _ _ more (d.each p h))
      go p more (no h) = absurd (more (d.rest p (omega arith)).0)

  pub tried_each : (p : ℕ) → p < w → Bytes (lane p (check_count s) rows) → Tried s (replicate s.n 0) (lane p (check_count s) rows) (get_or tried p 0)
  tried_each p h b =
      plane_tried s _ _ _ _ (lane_length p (check_count s) rows) b (lane_length p (s.n + check_count s) weighted)
      (lane_bytes p (s.n + check_count s) weighted d.bytes) (d.each p h)
