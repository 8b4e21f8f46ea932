-- The errors in place of the marks, place by place: a place is written in all planes, and no other byte changes. Where the marks of a place
-- are zeros there is nothing to write. What the error of a plane at a place is, is open here. Assumes nothing.
use mathlib.Core.Path.{◌≡◌, refl, sym, ◌∙◌, ap, subst}
use mathlib.Core.Bool.{Bool, true, false, cond}
use mathlib.Core.List.{List}
use Prim.Native.Nat.{ℕ, suc, ◌+◌, ◌*◌, ◌-◌, ◌≤◌, ◌<◌}
use native.Mathlib.Omega.{arith}
use native.Mathlib.Decide.{dec_lt, ℕ_discrete}
use native.Mathlib.Numerals.{add-one}
use lib.Dec.{eqb}
use lib.ListN.{length, get_or, set, take, drop}
use Rattle.arrays.specs.Array.{all_zero}
use Rattle.arrays.proofs.Written.{written_more, written_as}
use Rattle.arrays.proofs.Part.{part_lent}
use Rattle.arrays.proofs.Zeros.{zero_at}
use Rattle.lanes.specs.Lanes.{row_width, in_row}
use Rattle.code.specs.Size.{value_room}
use Rattle.errors.specs.Errors.{error_told, ErrorsPut, ErrorsTold, NoneFound, Unsought, ErrorsFound}

error_told_lt : (m e : ℕ) → e < 256 → error_told m e < 256
unfolding error_told
error_told_lt m e h = go (eqb m 0)
  where
    go : (b : Bool) → cond b 0 e < 256
    go true = omega arith
    go false = h

-- no mark, no error
pub unmarked :
    (planes k at : ℕ) (error : ℕ → ℕ) (marks : List ℕ) → k ≡ planes → all_zero (take k (drop at marks)) ≡ true →
    ErrorsPut planes at error marks marks
unfolding error_told
unmarked planes k at error marks e z = record { long = refl; new = unchanged; before = λ i h. refl; after = λ i h. refl }
  where
    unchanged : (p : ℕ) → p < planes → get_or marks (at + p) 0 ≡ error_told (get_or marks (at + p) 0) (error p)
    unchanged p h =
        let none : get_or marks (at + p) 0 ≡ 0 = sym (part_lent at k marks p (omega arith)) ∙ zero_at (take k (drop at marks)) z p in rw none refl

-- plane by plane: the next mark is still as it was
pub put_more :
    (p at e : ℕ) (error : ℕ → ℕ) (marks so_far : List ℕ) → ErrorsPut p at error marks so_far → at + p < length marks →
    e ≡ error_told (get_or so_far (at + p) 0) (error p) → ErrorsPut (p + 1) at error marks (set so_far (at + p) e)
put_more p at e error marks so_far w h q =
    written_more at p e _ marks so_far w h (q ∙ ap (λ (m : ℕ). error_told m (error p)) (w.after (at + p) (omega arith)))

-- the same errors by another name
pub put_as :
    (planes at : ℕ) (error other : ℕ → ℕ) (marks weighted : List ℕ) → ((p : ℕ) → p < planes → error p ≡ other p) →
    ErrorsPut planes at error marks weighted → ErrorsPut planes at other marks weighted
put_as planes at error other marks weighted e w = written_as (λ p h. ap (error_told (get_or marks (at + p) 0)) (e p h)) w

pub told_none : (error : ℕ → ℕ → ℕ) (marks : List ℕ) → ((i : ℕ) → get_or marks i 0 < 256) → ErrorsTold 0 error marks marks
told_none error marks b =
    record { long = refl; bytes = b; each = λ j p h k. absurd (omega arith); ahead = λ i h. refl; behind = λ j p h k. refl }

-- one place more
module _ (j : ℕ) (error : ℕ → ℕ → ℕ) (marks so_far now : List ℕ) (small : (p : ℕ) → error j p < 256) (d : ErrorsTold j error marks so_far)
    (u : ErrorsPut value_room (row_width * j) (error j) so_far now) where
  here : (p : ℕ) → p < value_room → get_or now (in_row j p) 0 ≡ error_told (get_or marks (in_row j p) 0) (error j p)
  here p h = u.new p h ∙ ap (λ (m : ℕ). error_told m (error j p)) (d.ahead (in_row j p) (omega arith))

  byte : (i : ℕ) → Dec (i < row_width * j) → Dec (i < row_width * j + value_room) → get_or now i 0 < 256
  byte i (yes a) b = subst (λ (k : ℕ). k < 256) (sym (u.before i a)) (d.bytes i)
  byte i (no a) (no b) = subst (λ (k : ℕ). k < 256) (sym (u.after i (omega arith))) (d.bytes i)
  byte i (no a) (yes b) =
      let p = i - row_width * j in
      let e : row_width * j + p ≡ i = omega arith in
      subst (λ (k : ℕ). get_or now k 0 < 256) e (subst (λ (k : ℕ). k < 256) (sym (u.new p (omega arith))) (error_told_lt _ _ (small p)))

  pub told_more : ErrorsTold (j + 1) error marks now
  told_more =
      rw (add-one j)
      (record {
        long = u.long ∙ d.long;
        bytes = λ i. byte i (dec_lt i (row_width * j)) (dec_lt i (row_width * j + value_room));
        each = λ i p h k. each i p h k (ℕ_discrete i j);
        ahead = λ i h. u.after i (omega arith) ∙ d.ahead i (omega arith);
        behind = λ i p h k. other i p h k (dec_lt i j);
      })
    where
      each : (i p : ℕ) → i < suc j → p < value_room → Dec (i ≡ j) → get_or now (in_row i p) 0 ≡ error_told (get_or marks (in_row i p) 0) (error i p)
      each i p h k (yes e) = rw e (here p k)
      each i p h k (no e) = u.before _ (omega arith) ∙ d.each i p (omega arith) k

      other : (i p : ℕ) → value_room ≤ p → p < row_width → Dec (i < j) → get_or now (in_row i p) 0 ≡ get_or marks (in_row i p) 0
      other i p h k (yes a) = u.before _ (omega arith) ∙ d.behind i p h k
      other i p h k (no a) = u.after _ (omega arith) ∙ d.behind i p h k

-- at all of them, and the errors by another name
pub told_whole :
    (j done : ℕ) (error other : ℕ → ℕ → ℕ) (marks weighted : List ℕ) → j ≡ done → ((i p : ℕ) → p < value_room → error i p ≡ other i p) →
    ErrorsTold j error marks weighted → ErrorsTold done other marks weighted
told_whole j done error other marks weighted e same d =
    record {
      long = d.long;
      bytes = d.bytes;
      each = λ i p h k. d.each i p (omega arith) k ∙ ap (error_told (get_or marks (in_row i p) 0)) (same i p k);
      ahead = λ i h. d.ahead i (omega arith);
      behind = d.behind;
    }

-- of the planes that have found all their roots
pub found_none :
    (done : ℕ) (error : ℕ → ℕ → ℕ) (roots left marks : List ℕ) → ((i : ℕ) → get_or marks i 0 < 256) → NoneFound value_room roots left →
    Unsought roots marks → ErrorsFound done error left marks marks
unfolding error_told
found_none done error roots left marks b none u =
    record { long = refl; bytes = b; each = each; ahead = λ i h. refl; behind = λ j p h k. refl }
  where
    each :
        (j p : ℕ) → j < done → p < value_room → get_or left p 0 ≡ 0 → get_or marks (in_row j p) 0 ≡ error_told (get_or marks (in_row j p) 0) (error j p)
    each j p h k z = let unmarked : get_or marks (in_row j p) 0 ≡ 0 = u j p k (none p k z) in rw unmarked refl

pub found_told :
    (done : ℕ) (error : ℕ → ℕ → ℕ) (left marks weighted : List ℕ) → ErrorsTold done error marks weighted → ErrorsFound done error left marks weighted
found_told done error left marks weighted d =
    record { long = d.long; bytes = d.bytes; each = λ j p h k z. d.each j p h k; ahead = d.ahead; behind = d.behind }
