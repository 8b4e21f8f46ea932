-- From the walk to codewords. A plane whose locator is short looks for its roots: where all of them stand among the places the errors told
-- there are those of the codeword near, and the walk ends at the last of them; where one is left, or the locator is too long, no codeword
-- is near. Assumes nothing.
use mathlib.Core.Path.{◌≡◌, refl, sym, ◌∙◌, ap, ap₂}
use mathlib.Core.Bool.{Bool, true, false, cond}
use mathlib.Core.List.{List, [], ◌∷◌}
use mathlib.Core.Logic.{inl, inr}
use Prim.Native.Nat.{ℕ, ◌+◌, ◌-◌, ◌≤◌, ◌<◌}
use native.Mathlib.Omega.{arith}
use native.Mathlib.Decide.{ℕ_discrete, dec_le, dec_lt}
use lib.Dec.{eqb}
use lib.ListN.{length, get_or, replicate, get_or-eq_default}
use borrow.Author.Tests.{eq-eqb, ne_eqb}
use Rattle.field.specs.Field.{times, power, inverse}
use Rattle.lanes.specs.Lanes.{in_row, lane}
use Rattle.lanes.proofs.Lane.{lane_length, lane_at, lane_is, lane_bytes}
use Rattle.code.specs.Size.{value_room}
use Rattle.code.specs.Settings.{Settings, settings, settings_refusal, check_count}
use Rattle.code.specs.Polynomial.{eval}
use Rattle.code.specs.Plane.{syndrome}
use Rattle.code.specs.Repair.{Near}
use Rattle.code.proofs.Codewords.Linear.{syndrome_lt}
use Rattle.sums.specs.Rows.{CheckSums}
use Rattle.sums.proofs.Sums.CheckSums.{check_sums_syndrome}
use Rattle.locator.specs.Locator.{State, massey, against, quotient, value}
use Rattle.locator.specs.Errors.{place_exponent}
use Rattle.locator.specs.Search.{sought, roots_sought, at_place, roots_below, tries, turns}
use Rattle.locator.proofs.Polynomials.Against.{against_same}
use Rattle.locator.proofs.Polynomials.Steps.{value_root, value_no_root}
use Rattle.locator.proofs.Locator.Shape.{massey_length}
use Rattle.locator.proofs.Errors.Explained.{Located}
use Rattle.locator.proofs.Errors.Last.{tries_root, turns_all, tried_last}
use Rattle.locator.proofs.Decoding.Counted.{few_roots_below, located_none, counted_explained, counted_wrong}
use Rattle.locator.proofs.Decoder.{sound, complete_size, complete_counted}
use Rattle.errors.specs.Roots.{polynomial}
use Rattle.errors.specs.Fractions.{told}
use Rattle.errors.specs.Errors.{ErrorsFound}
use Rattle.search.specs.Planes.{PlaneFound, Ended, Decoded}
use Rattle.search.specs.Steps.{plane_sums, AllSought, Walked}
use Rattle.search.proofs.NoRoots.{one_nowhere, no_roots_below, one_at}
use Rattle.search.proofs.Seeking.{short_sought, long_sought}
use Rattle.search.proofs.Marked.{weighted_at, weighted_others, numbers_others, weighted_ended}

-- the error told looks at no more sums than the polynomial has coefficients
quotient_length : (c : ℕ) (ps : List ℕ) → length (quotient c ps) ≤ length ps
unfolding quotient
quotient_length c [] = omega arith
quotient_length c (p ∷ []) = omega arith
quotient_length c (p ∷ q ∷ ps) = omega (arith, quotient_length c (q ∷ ps))

abbrev by_quotient : (S : ℕ → ℕ) → (ps : List ℕ) → (x : ℕ) → ℕ
by_quotient S ps x = times (against (quotient x ps) S 0) (inverse (eval (quotient x ps) x))

-- at a root it is the error
value_somewhere :
    (s : Settings) (S T : ℕ → ℕ) (n : ℕ) → ((i : ℕ) → i < n → S i ≡ T i) → (ps : List ℕ) (j : ℕ) → length ps ≤ n → at_place s ps j ≡ 0 →
    by_quotient S ps (power 2 (place_exponent s.n (check_count s) j)) ≡ value T ps (power 2 (place_exponent s.n (check_count s) j))
unfolding at_place
value_somewhere s S T n e ps j h z =
    let x = power 2 (place_exponent s.n (check_count s) j) in
    ap (λ (a : ℕ). times a (inverse (eval (quotient x ps) x))) (against_same S T n e (quotient x ps) 0 (omega (arith, quotient_length x ps)))
    ∙ sym (value_root T ps x z)

-- no error is but at a root
value_nowhere :
    (s : Settings) (S : ℕ → ℕ) (ps : List ℕ) (j : ℕ) → (at_place s ps j ≡ 0 → ⊥) → value S ps (power 2 (place_exponent s.n (check_count s) j)) ≡ 0
unfolding at_place
value_nowhere s S ps j n = value_no_root S ps (power 2 (place_exponent s.n (check_count s) j)) n

cond_none : (b : Bool) → cond {A = ℕ} b 0 0 ≡ 0
cond_none true = refl
cond_none false = refl

room : (s : Settings) → 1 ≤ s.t → s.t + 1 ≤ check_count s
unfolding check_count
room s h = omega arith

-- the walk is through the places of the settings, whatever the width of a value
module _ (s : Settings) where
  abbrev widest : Settings
  widest = settings s.n s.t value_room

  pub walked_as :
      (places : ℕ) (rows roots left tried marks : List ℕ) → Walked places widest rows roots left tried marks → Walked places s rows roots left tried marks
  unfolding settings check_count at_place
  walked_as places rows roots left tried marks w =
      record {
        left_long = w.left_long;
        tried_long = w.tried_long;
        long = w.long;
        left_at = w.left_at;
        tried_at = w.tried_at;
        mark_at = w.mark_at;
        ahead = w.ahead;
        behind = w.behind;
      }

module _ (planes turns_taken : ℕ) (s : Settings) (difference sums roots rows left tried marks weighted : List ℕ) (allowed : settings_refusal s ≡ 0)
    (bytes : (i : ℕ) → get_or difference i 0 < 256) (small : planes ≤ value_room) (some : 1 ≤ s.t)
    (summed : CheckSums (check_count s) (check_count s) difference sums) (q : AllSought planes (check_count s) s.t sums roots rows)
    (w : Walked (s.n + check_count s) s rows roots left tried marks) (ended : Ended (s.n + check_count s) tried marks turns_taken)
    (d : ErrorsFound turns_taken (λ j p. told rows sums roots p (power 2 (place_exponent s.n (check_count s) j))) left marks weighted) where
  module _ (p : ℕ) (h : p < planes) where
    abbrev S : ℕ → ℕ
    S = plane_sums p (check_count s) sums

    abbrev state : State
    state = massey S (check_count s)

    abbrev places : ℕ
    places = s.n + check_count s

    abbrev checks : List ℕ
    checks = lane p (check_count s) difference

    abbrev errors : List ℕ
    errors = lane p places weighted

    abbrev x : ℕ → ℕ
    x j = power 2 (place_exponent s.n (check_count s) j)

    abbrev v : ℕ → ℕ
    v = at_place s state.locator

    same : (i : ℕ) → i < check_count s → S i ≡ syndrome s i (replicate s.n 0) checks
    same i l = lane_at p (check_count s) sums i l ∙ check_sums_syndrome s s.n (check_count s) difference sums refl summed i p l (omega arith)

    byte : (i : ℕ) → S i < 256
    byte i = go (dec_lt i (check_count s))
      where
        go : Dec (i < check_count s) → S i < 256
        go (yes l) = rw (same i l) (syndrome_lt s i _ checks)
        go (no l) =
            let e : get_or (lane p (check_count s) sums) i 0 ≡ 0 = get_or-eq_default (lane p (check_count s) sums) 0 (omega (arith, lane_length p (check_count s) sums)) in
            omega (arith, e)

    -- what the walk left, by what the plane looks for
    module _ (many : ℕ) (ps : List ℕ) (e : roots_sought s.t state ≡ many) (f : length ps ≡ many + 1)
        (g : (i : ℕ) → get_or (sought s.t state) i 0 ≡ get_or ps i 0) where
      many_is : get_or roots p 0 ≡ many
      many_is = q.size p h ∙ e

      polynomial_is : polynomial rows roots p ≡ ps
      polynomial_is = lane_is p (get_or roots p 0 + 1) rows ps (omega (arith, f, many_is)) (λ j l. q.coefficient p j h ∙ g j)

      left_is : get_or left p 0 ≡ many - roots_below (at_place s ps) places
      left_is =
          w.left_at p (omega arith) ∙ ap₂ (λ (k : ℕ) (us : List ℕ). k - roots_below (at_place s us) places) many_is polynomial_is

      tried_is : get_or tried p 0 ≡ turns many (at_place s ps) places
      tried_is =
          w.tried_at p (omega arith) ∙ ap₂ (λ (k : ℕ) (us : List ℕ). turns k (at_place s us) places) many_is polynomial_is

      error_is :
          (j : ℕ) → j < places → get_or left p 0 ≡ 0 →
          get_or errors j 0
          ≡ cond (tries many (at_place s ps) j) (cond (eqb (at_place s ps j) 0) (by_quotient (λ i. get_or sums (in_row i p) 0) ps (x j)) 0) 0
      error_is j l z =
          lane_at p places weighted j l
          ∙ weighted_at planes places turns_taken s _ rows roots left tried marks weighted q.others w ended d j p l (omega arith) z
          ∙ ap₂
          (λ (k : ℕ) (us : List ℕ).
          cond (tries k (at_place s us) j) (cond (eqb (at_place s us j) 0) (by_quotient (λ i. get_or sums (in_row i p) 0) us (x j)) 0) 0)
          many_is polynomial_is

      -- roots are left
      none_near :
          roots_below (at_place s ps) places < many → ((us ds : List ℕ) → Near s (replicate s.n 0) checks us ds → ⊥) →
          PlaneFound s checks errors (get_or left p 0) (get_or tried p 0)
      unfolding PlaneFound
      none_near l none = inr (omega (arith, left_is), none, tried_is ∙ turns_all many (at_place s ps) places l)

    -- the locator is too long
    long : s.t < state.size → PlaneFound s checks errors (get_or left p 0) (get_or tried p 0)
    long l =
        none_near 1 (1 ∷ 0 ∷ []) (long_sought s.t state l).1 refl (λ i. ap (λ (us : List ℕ). get_or us i 0) (long_sought s.t state l).0 ∙ one_at i)
        (omega (arith, no_roots_below (at_place s (1 ∷ 0 ∷ [])) (one_nowhere s) places))
        (λ us ds near.
        let g = complete_size s checks S allowed (lane_length p _ difference) (lane_bytes p _ difference bytes) same us ds near in omega arith)

    module _ (l : state.size ≤ s.t) where
      many_short : roots_sought s.t state ≡ state.size
      many_short = (short_sought s.t state l).1

      long_short : length state.locator ≡ state.size + 1
      long_short = omega (arith, massey_length S (check_count s))

      at_short : (i : ℕ) → get_or (sought s.t state) i 0 ≡ get_or state.locator i 0
      at_short i = ap (λ (us : List ℕ). get_or us i 0) (short_sought s.t state l).0

      -- a root of the locator is left
      fewer : roots_below v places < state.size → PlaneFound s checks errors (get_or left p 0) (get_or tried p 0)
      fewer k =
          none_near state.size state.locator many_short long_short at_short k
          (λ us ds near.
          let g = complete_counted s checks S allowed (lane_length p _ difference) (lane_bytes p _ difference bytes) same us ds near in
          omega (arith, g))

      -- none is left
      module _ (all : roots_below v places ≡ state.size) where
        located : Located s S errors
        located =
            record {
              many = lane_length p places weighted;
              each = λ j k.
                  error_is state.size state.locator many_short long_short at_short j k
                  (omega (arith, left_is state.size state.locator many_short long_short at_short, all)) ∙ go j k (ℕ_discrete (v j) 0);
            }
          where
            go :
                (j : ℕ) → j < places → Dec (v j ≡ 0) →
                cond (tries state.size v j) (cond (eqb (v j) 0) (by_quotient (λ i. get_or sums (in_row i p) 0) state.locator (x j)) 0) 0
                ≡ value S state.locator (x j)
            go j k (yes e) =
                rw (tries_root state.size v j places k (omega (arith, all)) e, eq-eqb (v j) 0 e)
                (value_somewhere s (λ i. get_or sums (in_row i p) 0) S (check_count s) (λ i g. sym (lane_at p (check_count s) sums i g)) state.locator j
                (omega (arith, room s some, massey_length S (check_count s))) e)
            go j k (no e) = rw (ne_eqb (v j) 0 e) (cond_none (tries state.size v j) ∙ sym (value_nowhere s S state.locator j e))

        found : PlaneFound s checks errors (get_or left p 0) (get_or tried p 0)
        unfolding PlaneFound
        found =
            inl (
              omega (arith, left_is state.size state.locator many_short long_short at_short, all),
              sound s checks S allowed (lane_length p _ difference) (lane_bytes p _ difference bytes) same errors (lane_length p places weighted)
                  (lane_bytes p places weighted d.bytes) (counted_explained s S allowed byte all errors located l),
              tried_is state.size state.locator many_short long_short at_short
                  ∙ tried_last state.size v places errors (lane_length p places weighted) all
                  (counted_wrong s S allowed byte all errors located) (located_none s S allowed errors located),
            )

      short : Dec (roots_below v places < state.size) → PlaneFound s checks errors (get_or left p 0) (get_or tried p 0)
      short (yes k) = fewer k
      short (no k) = found (let g = few_roots_below s S allowed in omega (arith, g))

    each_plane : Dec (state.size ≤ s.t) → PlaneFound s checks errors (get_or left p 0) (get_or tried p 0)
    each_plane (yes l) = short l (dec_lt _ _)
    each_plane (no l) = long (omega arith)

  pub decoded : Decoded planes s difference left tried weighted turns_taken
  decoded =
      let places = s.n + check_count s in
      record {
        long = d.long ∙ w.long;
        bytes = d.bytes;
        left_long = w.left_long;
        tried_long = w.tried_long;
        each = λ p h. each_plane p h (dec_le _ _);
        others = weighted_others planes places turns_taken s _ rows roots left tried marks weighted q.others w ended d;
        rest = numbers_others planes places turns_taken s _ rows roots left tried marks weighted q.others w ended d;
        ended = weighted_ended planes places turns_taken s _ rows roots left tried marks weighted q.others w ended d;
      }
