-- A plane of the rows, one more byte at a time: a byte written in a row changes that plane alone. Assumes nothing.
use mathlib.Core.Path.{◌≡◌, refl, ◌∙◌, subst}
use mathlib.Core.List.{List}
use Prim.Native.Nat.{ℕ, ◌+◌, ◌<◌}
use native.Mathlib.Omega.{arith}
use lib.ListN.{length, get_or, set, length-set}
use lib.Seq.{get_or-set_same, get_or-set_other}
use borrow.Author.Count.{below_more}
use Rattle.lanes.specs.Lanes.{in_row}
use Rattle.locator.specs.Plane.{LaneWritten}

-- one more byte of a plane
pub lane_written_none : (p : ℕ) (f : ℕ → ℕ) (rows : List ℕ) → LaneWritten p 0 f rows rows
lane_written_none p f rows = record { long = refl; new = λ j h. absurd (omega arith); rest = λ i h. refl }

pub lane_written_more :
    (p many v : ℕ) (f : ℕ → ℕ) (rows now : List ℕ) → LaneWritten p many f rows now → in_row many p < length rows → v ≡ f many →
    LaneWritten p (many + 1) f rows (set now (in_row many p) v)
lane_written_more p many v f rows now w h e =
    record {
      long = length-set now (in_row many p) v ∙ w.long;
      new = below_more _ many passed here;
      rest = λ i l. get_or-set_other now (in_row many p) i v 0 (l many (omega arith)) ∙ w.rest i (λ j k. l j (omega arith));
    }
  where
    passed : (j : ℕ) → j < many → get_or (set now (in_row many p) v) (in_row j p) 0 ≡ f j
    passed j l = get_or-set_other now (in_row many p) (in_row j p) v 0 (omega arith) ∙ w.new j l

    here : get_or (set now (in_row many p) v) (in_row many p) 0 ≡ f many
    here = get_or-set_same now (in_row many p) v 0 (let g = w.long in omega arith) ∙ e

pub lane_written_to :
    {p many k : ℕ} {f : ℕ → ℕ} {rows now : List ℕ} → many ≡ k → LaneWritten p many f rows now → LaneWritten p k f rows now
lane_written_to {p} {many} {k} {f} {rows} {now} e w = subst (λ (n : ℕ). LaneWritten p n f rows now) e w
