-- The walk, place by place. A plane with roots left tries the next place, and where it is a root has one fewer; a plane with none left
-- tries no more, so that what is found when no plane has any left is what is found at the last place. Assumes nothing.
use mathlib.Core.Path.{◌≡◌, refl, sym, ◌∙◌, ap, ap₂}
use mathlib.Core.Bool.{Bool, true, false, cond}
use mathlib.Core.List.{List}
use Prim.Native.Nat.{ℕ, suc, ◌+◌, ◌*◌, ◌-◌, ◌≤◌, ◌<◌}
use native.Mathlib.Omega.{arith}
use native.Mathlib.Decide.{dec_lt, ℕ_discrete}
use native.Mathlib.Numerals.{add-one}
use lib.Dec.{eqb, ltb}
use lib.ListN.{length, get_or}
use borrow.Author.Tests.{eqb-true, eqb-false, lt-ltb, le-ltb}
use Rattle.arrays.specs.Array.{all_zero}
use Rattle.arrays.proofs.Zeros.{zero_at, some_not_zero}
use Rattle.lanes.specs.Lanes.{row_width, in_row, lane}
use Rattle.code.specs.Size.{value_room, place_rows}
use Rattle.code.specs.Settings.{Settings}
use Rattle.code.proofs.Polynomials.Arithmetic.{eval_ext}
use Rattle.locator.specs.Search.{at_place, roots_below, tries, turns}
use Rattle.locator.proofs.Errors.Last.{roots_below_mono, tries_left, tries_none, turns_tried, turns_few, turns_all, turns_end}
use Rattle.errors.specs.Roots.{Longest, Fits, polynomial}
use Rattle.errors.proofs.Longest.{all_numbers, same_coefficients}
use Rattle.search.specs.Steps.{SameValues, PlaceCounted, root_found, RootsFound, mark, Walked}

-- the values by as many coefficients as the longest polynomial has are those by a plane's own
pub same_values : (most t : ℕ) (rows roots : List ℕ) → Fits t rows roots → Longest roots most → SameValues (most + 1) rows roots
unfolding SameValues
same_values most t rows roots f m p x h byte =
    eval_ext (lane p (most + 1) rows) (polynomial rows roots p) x byte (same_coefficients most t rows roots f m p h)

-- roots are left where not all stand before
none_left : (many k : ℕ) → eqb (many - k) 0 ≡ true → ltb k many ≡ false
none_left many k e = le-ltb k many (let q : many - k ≡ 0 = eqb-true (many - k) 0 e in omega arith)

some_left : (many k : ℕ) → eqb (many - k) 0 ≡ false → ltb k many ≡ true
some_left many k e = lt-ltb k many (let q : many - k ≡ 0 → ⊥ = eqb-false (many - k) 0 e in omega arith)

module _ (many : ℕ) (v : ℕ → ℕ) (j : ℕ) where
  abbrev left : ℕ
  left = many - roots_below v j

  turn_more : turns many v (suc j) ≡ turns many v j + cond (eqb left 0) 0 1
  unfolding turns tries
  turn_more = go (eqb left 0) refl
    where
      go : (b : Bool) → eqb left 0 ≡ b → turns many v j + cond (ltb (roots_below v j) many) 1 0 ≡ turns many v j + cond b 0 1
      go true e = rw (none_left many (roots_below v j) e) refl
      go false e = rw (some_left many (roots_below v j) e) refl

  root_tried : root_found left (v j) ≡ cond (tries many v j) (cond (eqb (v j) 0) 1 0) 0
  unfolding root_found tries
  root_tried = go (eqb left 0) refl
    where
      go : (b : Bool) → eqb left 0 ≡ b → ◌≡◌ {A = ℕ} (cond b 0 (cond (eqb (v j) 0) 1 0)) (cond (ltb (roots_below v j) many) (cond (eqb (v j) 0) 1 0) 0)
      go true q = rw (none_left many (roots_below v j) q) refl
      go false q = rw (some_left many (roots_below v j) q) refl

  left_more : left - root_found left (v j) ≡ many - roots_below v (suc j)
  unfolding root_found roots_below
  left_more = go (eqb left 0) refl
    where
      go : (b : Bool) → eqb left 0 ≡ b → left - cond b 0 (cond (eqb (v j) 0) 1 0) ≡ many - (roots_below v j + cond (eqb (v j) 0) 1 0)
      go true q = let z : left ≡ 0 = eqb-true left 0 q in omega arith
      go false q = omega arith

-- before the first place
pub walked_none :
    (t : ℕ) (s : Settings) (rows roots tried marks : List ℕ) → Fits t rows roots → length tried ≡ value_room → all_zero tried ≡ true →
    length marks ≡ place_rows → all_zero marks ≡ true → Walked 0 s rows roots roots tried marks
unfolding roots_below turns
walked_none t s rows roots tried marks f e z l y =
    record {
      left_long = f.many;
      tried_long = e;
      long = l;
      left_at = λ p h. omega arith;
      tried_at = λ p h. zero_at tried z p;
      mark_at = λ j p h k. absurd (omega arith);
      ahead = λ j p h k. zero_at marks y (in_row j p);
      behind = λ j p h k. zero_at marks y (in_row j p);
    }

-- one place more
module _ (j : ℕ) (s : Settings) (rows roots values left left_now tried tried_now marks marks_now : List ℕ)
    (here : (p : ℕ) → p < value_room → get_or values p 0 ≡ at_place s (polynomial rows roots p) j)
    (w : Walked j s rows roots left tried marks) (counted : PlaceCounted left tried tried_now)
    (u : RootsFound value_room (row_width * j) values left left_now marks marks_now) where
  abbrev v : ℕ → ℕ → ℕ
  v p = at_place s (polynomial rows roots p)

  at_start : (p : ℕ) (bs : List ℕ) → get_or bs p 0 ≡ get_or bs (0 + p) 0
  at_start p bs = ap (λ (i : ℕ). get_or bs i 0) (let e : p ≡ 0 + p = omega arith in e)

  left_next : (p : ℕ) → p < value_room → get_or left_now p 0 ≡ get_or roots p 0 - roots_below (v p) (suc j)
  left_next p h =
      at_start p left_now ∙ u.fewer.new p h
      ∙ ap₂ (λ (a b : ℕ). a - root_found a b) (w.left_at p h) (here p h) ∙ left_more (get_or roots p 0) (v p) j

  tried_next : (p : ℕ) → p < value_room → get_or tried_now p 0 ≡ turns (get_or roots p 0) (v p) (suc j)
  tried_next p h =
      at_start p tried_now ∙ counted.new p h
      ∙ ap₂ (λ (a b : ℕ). a + cond (eqb b 0) 0 1) (w.tried_at p h) (w.left_at p h) ∙ sym (turn_more (get_or roots p 0) (v p) j)

  mark_next : (p : ℕ) → p < value_room → get_or marks_now (in_row j p) 0 ≡ mark s rows roots j p
  mark_next p h = u.marked.new p h ∙ ap₂ root_found (w.left_at p h) (here p h) ∙ root_tried (get_or roots p 0) (v p) j

  pub walked_more : Walked (j + 1) s rows roots left_now tried_now marks_now
  walked_more =
      rw (add-one j)
      (record {
        left_long = u.fewer.long ∙ w.left_long;
        tried_long = counted.long ∙ w.tried_long;
        long = u.marked.long ∙ w.long;
        left_at = left_next;
        tried_at = tried_next;
        mark_at = λ i p h k. marked i p h k (ℕ_discrete i j);
        ahead = λ i p h k. u.marked.after _ (omega arith) ∙ w.ahead i p (omega arith) k;
        behind = λ i p h k. other i p h k (dec_lt i j);
      })
    where
      marked : (i p : ℕ) → i < suc j → p < value_room → Dec (i ≡ j) → get_or marks_now (in_row i p) 0 ≡ mark s rows roots i p
      marked i p h k (yes e) = rw e (mark_next p k)
      marked i p h k (no e) = u.marked.before _ (omega arith) ∙ w.mark_at i p (omega arith) k

      other : (i p : ℕ) → value_room ≤ p → p < row_width → Dec (i < j) → get_or marks_now (in_row i p) 0 ≡ 0
      other i p h k (yes a) = u.marked.before _ (omega arith) ∙ w.behind i p h k
      other i p h k (no a) = u.marked.after _ (omega arith) ∙ w.behind i p h k

-- no root is left in any plane: nothing more is found up to the last place
pub walked_early :
    (j places : ℕ) (s : Settings) (rows roots left tried marks : List ℕ) → j ≤ places → all_zero left ≡ true →
    Walked j s rows roots left tried marks → Walked places s rows roots left tried marks
walked_early j places s rows roots left tried marks l z w =
    record {
      left_long = w.left_long;
      tried_long = w.tried_long;
      long = w.long;
      left_at = λ p h. omega (arith, found p h, zero_at left z p, roots_below_mono (v p) j places l);
      tried_at = λ p h. w.tried_at p h ∙ sym (turns_end (get_or roots p 0) (v p) j places l (found p h));
      mark_at = λ i p h k. marked i p k (dec_lt i j);
      ahead = λ i p h k. w.ahead i p (omega arith) k;
      behind = w.behind;
    }
  where
    v : ℕ → ℕ → ℕ
    v p = at_place s (polynomial rows roots p)

    found : (p : ℕ) → p < value_room → get_or roots p 0 ≤ roots_below (v p) j
    found p h = omega (arith, w.left_at p h, zero_at left z p)

    marked : (i p : ℕ) → p < value_room → Dec (i < j) → get_or marks (in_row i p) 0 ≡ mark s rows roots i p
    marked i p h (yes a) = w.mark_at i p a h
    marked i p h (no a) =
        w.ahead i p (omega arith) (omega arith)
        ∙ sym (ap (λ (b : Bool). cond b (cond (eqb (v p i) 0) 1 0) 0)
        (tries_none (get_or roots p 0) (v p) i (omega (arith, found p h, roots_below_mono (v p) j i (omega arith)))))

-- the walk goes on while a plane has a root left, which has tried every place so far
pub ended_none : (s : Settings) (rows roots left tried marks : List ℕ) → Walked 0 s rows roots left tried marks → Longest tried 0
unfolding turns
ended_none s rows roots left tried marks w =
    record { above = all_numbers tried 0 w.tried_long (λ p h. omega (arith, w.tried_at p h)); least = λ k h. omega arith }

pub ended_more :
    (j : ℕ) (s : Settings) (rows roots left left_now tried tried_now marks marks_now : List ℕ) → all_zero left ≡ false →
    Walked j s rows roots left tried marks → Walked (j + 1) s rows roots left_now tried_now marks_now → Longest tried_now (j + 1)
ended_more j s rows roots left left_now tried tried_now marks marks_now some w now =
    let (p, inside, lacks) = some_not_zero left some in
    record {
      above =
          all_numbers tried_now (j + 1) now.tried_long
          (λ q h. omega (arith, now.tried_at q h, turns_few (get_or roots q 0) (v q) (j + 1)));
      least = λ k h. last p (omega (arith, w.left_long)) lacks k h;
    }
  where
    v : ℕ → ℕ → ℕ
    v p = at_place s (polynomial rows roots p)

    last : (p : ℕ) → p < value_room → (get_or left p 0 ≡ 0 → ⊥) → (k : ℕ) → ((q : ℕ) → get_or tried_now q 0 ≤ k) → j + 1 ≤ k
    last p l lacks k h =
        let left_over : roots_below (v p) j < get_or roots p 0 = omega (arith, w.left_at p l, lacks) in
        omega (arith, h p, now.tried_at p l, ap (turns (get_or roots p 0) (v p)) (add-one j), turns_tried (get_or roots p 0) (v p) j (tries_left (get_or roots p 0) (v p) j left_over), turns_all (get_or roots p 0) (v p) j left_over)
