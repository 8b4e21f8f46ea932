-- The errors that a whole walk ends with: at each place tried that is a root the error stands there, and 0 at every other. What the error of
-- a plane at a place is, is open here. Assumes nothing.
use mathlib.Core.Path.{◌≡◌, refl, ◌∙◌, ap}
use mathlib.Core.Bool.{Bool, true, false, cond}
use mathlib.Core.List.{List}
use Prim.Native.Nat.{ℕ, ◌≤◌, ◌<◌}
use native.Mathlib.Omega.{arith}
use native.Mathlib.Decide.{dec_lt}
use lib.Dec.{eqb}
use lib.ListN.{get_or, get_or-eq_default}
use Rattle.lanes.specs.Lanes.{row_width, in_row}
use Rattle.code.specs.Size.{value_room}
use Rattle.code.specs.Settings.{Settings}
use Rattle.locator.specs.Search.{at_place, tries, turns}
use Rattle.locator.proofs.Errors.Last.{tries_none, turns_end}
use Rattle.errors.specs.Roots.{polynomial}
use Rattle.errors.specs.Errors.{error_told, Unsought, ErrorsFound}
use Rattle.search.specs.Planes.{Ended}
use Rattle.search.specs.Steps.{Walked}

-- a plane that looks for no root has no mark
pub unsought :
    (places : ℕ) (s : Settings) (rows roots left tried marks : List ℕ) → Walked places s rows roots left tried marks → Unsought roots marks
unsought places s rows roots left tried marks w j p h z = go (dec_lt j places)
  where
    go : Dec (j < places) → get_or marks (in_row j p) 0 ≡ 0
    go (yes l) =
        w.mark_at j p l h
        ∙ ap (λ (b : Bool). cond b (cond (eqb (at_place s (polynomial rows roots p) j) 0) 1 0) 0) (tries_none (get_or roots p 0) (at_place s (polynomial rows roots p)) j (omega arith))
    go (no l) = w.ahead j p (omega arith) (omega arith)

-- of a whole walk: what stands at a place is its error, where it was tried and is a root
module _ (planes places turns_taken : ℕ) (s : Settings) (error : ℕ → ℕ → ℕ) (rows roots left tried marks weighted : List ℕ)
    (none : (p : ℕ) → planes ≤ p → get_or roots p 0 ≡ 0) (w : Walked places s rows roots left tried marks) (e : Ended places tried marks turns_taken)
    (d : ErrorsFound turns_taken error left marks weighted) where
  abbrev v : ℕ → ℕ → ℕ
  v p = at_place s (polynomial rows roots p)

  pub numbers_others : (p : ℕ) → planes ≤ p → (get_or left p 0 ≡ 0) × (get_or tried p 0 ≡ 0)
  unfolding turns
  numbers_others p h = go (dec_lt p value_room)
    where
      go : Dec (p < value_room) → (get_or left p 0 ≡ 0) × (get_or tried p 0 ≡ 0)
      go (yes l) = (
        omega (arith, w.left_at p l, none p h),
        w.tried_at p l ∙ turns_end (get_or roots p 0) (v p) 0 places (omega arith) (omega (arith, none p h)),
      )
      go (no l) = (
        get_or-eq_default left 0 (omega (arith, w.left_long)),
        get_or-eq_default tried 0 (omega (arith, w.tried_long)),
      )

  by_mark : (j p : ℕ) → p < value_room → get_or left p 0 ≡ 0 → get_or weighted (in_row j p) 0 ≡ error_told (get_or marks (in_row j p) 0) (error j p)
  unfolding error_told
  by_mark j p h z = go (dec_lt j turns_taken)
    where
      go : Dec (j < turns_taken) → get_or weighted (in_row j p) 0 ≡ error_told (get_or marks (in_row j p) 0) (error j p)
      go (yes l) = d.each j p l h z
      go (no l) =
          let unmarked : get_or marks (in_row j p) 0 ≡ 0 = e.ahead j p (omega arith) (omega arith) in
          d.ahead (in_row j p) (omega arith) ∙ rw unmarked refl

  pub weighted_at :
      (j p : ℕ) → j < places → p < value_room → get_or left p 0 ≡ 0 →
      get_or weighted (in_row j p) 0 ≡ cond (tries (get_or roots p 0) (v p) j) (cond (eqb (v p j) 0) (error j p) 0) 0
  unfolding error_told
  weighted_at j p l h z =
      by_mark j p h z ∙ ap (λ (m : ℕ). error_told m (error j p)) (w.mark_at j p l h) ∙ go (tries (get_or roots p 0) (v p) j) (eqb (v p j) 0)
    where
      go : (a b : Bool) → error_told (cond a (cond b 1 0) 0) (error j p) ≡ cond a (cond b (error j p) 0) 0
      go true true = refl
      go true false = refl
      go false b = refl

  pub weighted_others : (j p : ℕ) → planes ≤ p → p < row_width → get_or weighted (in_row j p) 0 ≡ 0
  unfolding error_told
  weighted_others j p h k = go (dec_lt p value_room)
    where
      go : Dec (p < value_room) → get_or weighted (in_row j p) 0 ≡ 0
      go (yes l) = by_mark j p l (numbers_others p h).0 ∙ rw (unsought places s rows roots left tried marks w j p l (none p h)) refl
      go (no l) = d.behind j p (omega arith) k ∙ w.behind j p (omega arith) k

  pub weighted_ended : Ended places tried weighted turns_taken
  weighted_ended =
      record { within = e.within; most = e.most; ahead = λ j p h k. d.ahead (in_row j p) (omega arith) ∙ e.ahead j p h k }
