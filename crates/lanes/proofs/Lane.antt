-- A plane of the first rows: byte j of it stands in row j, and one row more is one byte more at its end. Assumes nothing.
use mathlib.Core.Path.{◌≡◌, refl, sym, ◌∙◌, ap}
use mathlib.Core.List.{List, [], ◌∷◌, ◌++◌}
use Prim.Native.Nat.{ℕ, zero, suc, ◌+◌, ◌*◌, ◌-◌, ◌≤◌, ◌<◌}
use native.Mathlib.Omega.{arith}
use lib.ListN.{length, get_or, take, drop, replicate, length-replicate, get_or-replicate}
use lib.Seq.{get_or-take, get_or-drop, ext_get_or}
use Rattle.lanes.specs.Lanes.{row_width, in_row, lane}
use Rattle.arrays.proofs.Bytes.{Bytes}
use Rattle.arrays.proofs.Part.{part_long}

row_behind : (bs : List ℕ) (j p : ℕ) → get_or (drop row_width bs) (in_row j p) 0 ≡ get_or bs (in_row (suc j) p) 0
row_behind bs j p = get_or-drop row_width bs (in_row j p) 0 ∙ ap (λ (i : ℕ). get_or bs i 0) (let e : row_width + (in_row j p) ≡ in_row (suc j) p = omega arith in e)

pub lane_length : (p k : ℕ) (bs : List ℕ) → length (lane p k bs) ≡ k
unfolding lane
lane_length p zero bs = refl
lane_length p (suc k) bs = ap suc (lane_length p k (drop row_width bs))

pub lane_at : (p k : ℕ) (bs : List ℕ) (j : ℕ) → j < k → get_or (lane p k bs) j 0 ≡ get_or bs (in_row j p) 0
unfolding lane
lane_at p zero bs j h = absurd (omega arith)
lane_at p (suc k) bs zero h = ap (λ (i : ℕ). get_or bs i 0) (let e : p ≡ in_row 0 p = omega arith in e)
lane_at p (suc k) bs (suc j) h = lane_at p k (drop row_width bs) j (omega arith) ∙ row_behind bs j p

pub lane_more : (p k : ℕ) (bs : List ℕ) → lane p (suc k) bs ≡ lane p k bs ++ (get_or bs (in_row k p) 0 ∷ [])
unfolding lane
lane_more p zero bs = ap (λ (i : ℕ). get_or bs i 0 ∷ []) (let e : p ≡ in_row 0 p = omega arith in e)
lane_more p (suc k) bs =
    ap (◌∷◌ (get_or bs p 0)) (lane_more p k (drop row_width bs) ∙ ap (λ (b : ℕ). lane p k (drop row_width bs) ++ (b ∷ [])) (row_behind bs k p))

-- the bytes decide the plane
pub lane_is : (p k : ℕ) (bs us : List ℕ) → length us ≡ k → ((j : ℕ) → j < k → get_or bs (in_row j p) 0 ≡ get_or us j 0) → lane p k bs ≡ us
lane_is p k bs us l e =
    ext_get_or 0 (lane p k bs) us (lane_length p k bs ∙ sym l)
    (λ j h. let g : j < k = omega (arith, lane_length p k bs) in lane_at p k bs j g ∙ e j g)

pub lane_zeros : (p k : ℕ) (bs : List ℕ) → ((j : ℕ) → j < k → get_or bs (in_row j p) 0 ≡ 0) → lane p k bs ≡ replicate k 0
lane_zeros p k bs e =
    lane_is p k bs (replicate k 0) (length-replicate k 0) (λ j h. e j h ∙ sym (get_or-replicate k j 0 0 h))

pub lane_bytes : (p rows : ℕ) (bs : List ℕ) → ((i : ℕ) → get_or bs i 0 < 256) → Bytes (lane p rows bs)
unfolding lane
lane_bytes p zero bs h = tt
lane_bytes p (suc k) bs h = (h p, lane_bytes p k (drop row_width bs) (λ i. rw (get_or-drop row_width bs i 0) (h (row_width + i))))

-- row j, lent as a part of the rows
module _ (rows : List ℕ) (j : ℕ) where
  pub row_length : row_width * j + row_width ≤ length rows → length (take (row_width * j + row_width - row_width * j) (drop (row_width * j) rows)) ≡ row_width
  row_length h = part_long (row_width * j) row_width rows h

  pub row_at : (p : ℕ) → p < row_width → get_or (take (row_width * j + row_width - row_width * j) (drop (row_width * j) rows)) p 0 ≡ get_or rows (in_row j p) 0
  row_at p h = get_or-take (row_width * j + row_width - row_width * j) (drop (row_width * j) rows) p 0 (omega arith) ∙ get_or-drop (row_width * j) rows p 0
