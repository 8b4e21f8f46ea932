-- Which frames are there: none at first; one that is put in stands in its slot; what else is there was there before, and stays. A sender's
-- frame of a round is among those of this round or of the one that follows. Lists by induction, rounds by cases. Assumes nothing.
use mathlib.Core.Path.{◌≡◌, refl, sym, ◌∙◌, ap}
use mathlib.Core.Bool.{Bool, true, false, cond, not}
use mathlib.Core.List.{List, [], ◌∷◌}
use mathlib.Core.Logic.{◌⊎◌, inl, inr}
use mathlib.Core.Option.{Option, none, some}
use Prim.Native.Nat.{ℕ, zero, suc, ◌-◌, ◌≤◌}
use native.Mathlib.Omega.{arith}
use lib.Dec.{eqb}
use lib.ListN.{length, get_or, set, replicate}
use lib.Seq.{get_or-set_same}
use borrow.Author.Tests.{eqb-true, eq-eqb, ne_eqb, not-true}
use Rattle.code.specs.Settings.{Settings}
use Rattle.record.specs.Record.{Rec, no_frames, taken_at, is_taken, frames_of, frame_at, InTime, with_operand, with_frame}
use Rattle.record.proofs.InTime.{in_time_next}

-- none is there at first
empty_place : (n k : ℕ) → ◌≡◌ {A = Option (List ℕ)} (get_or (replicate n none) k none) none
empty_place zero k = refl
empty_place (suc n) zero = refl
empty_place (suc n) (suc k) = empty_place n k

pub nothing_in : (k : ℕ) → taken_at [] k ≡ none
unfolding taken_at
nothing_in zero = refl
nothing_in (suc k) = refl

pub none_taken : (s : Settings) (k : ℕ) → taken_at (no_frames s) k ≡ none
unfolding taken_at no_frames
none_taken s zero = refl
none_taken s (suc k) = empty_place s.n k

put_here : (fs : List (Option (List ℕ))) (k : ℕ) (x : List ℕ) → 1 ≤ k → k ≤ length fs → taken_at (set fs (k - 1) (some x)) k ≡ some x
unfolding taken_at
put_here fs zero x l h = absurd (omega arith)
put_here fs (suc k) x l h = let e : suc k - 1 ≡ k = omega arith in rw e (get_or-set_same fs k (some x) none (omega arith))

set_cases :
    (fs : List (Option (List ℕ))) (i j : ℕ) (x y : List ℕ) → get_or (set fs j (some y)) i none ≡ some x →
    ((i ≡ j) × (x ≡ y)) ⊎ (get_or fs i none ≡ some x)
set_cases [] i j x y e = inr e
set_cases (f ∷ fs) zero zero x y e = inl (refl, cc)
set_cases (f ∷ fs) zero (suc j) x y e = inr e
set_cases (f ∷ fs) (suc i) zero x y e = inr e
set_cases (f ∷ fs) (suc i) (suc j) x y e = go (set_cases fs i j x y e)
  where
    go : ((i ≡ j) × (x ≡ y)) ⊎ (get_or fs i none ≡ some x) → ((suc i ≡ suc j) × (x ≡ y)) ⊎ (get_or fs i none ≡ some x)
    go (inl p) = inl (ap suc p.0, p.1)
    go (inr p) = inr p

put_cases :
    (fs : List (Option (List ℕ))) (k j : ℕ) (x y : List ℕ) → 1 ≤ j → taken_at (set fs (j - 1) (some y)) k ≡ some x →
    ((k ≡ j) × (x ≡ y)) ⊎ (taken_at fs k ≡ some x)
unfolding taken_at
put_cases fs zero j x y h e = inr e
put_cases fs (suc k) j x y h e = go (set_cases fs k (j - 1) x y e)
  where
    go : ((k ≡ j - 1) × (x ≡ y)) ⊎ (get_or fs k none ≡ some x) → ((suc k ≡ j) × (x ≡ y)) ⊎ (get_or fs k none ≡ some x)
    go (inl p) = inl (omega (arith, p.0), p.1)
    go (inr p) = inr p

set_taken : (fs : List (Option (List ℕ))) (i j : ℕ) (x : List ℕ) → is_taken (get_or fs i none) ≡ true → is_taken (get_or (set fs j (some x)) i none) ≡ true
unfolding is_taken
set_taken [] i j x h = h
set_taken (f ∷ fs) zero zero x h = refl
set_taken (f ∷ fs) zero (suc j) x h = h
set_taken (f ∷ fs) (suc i) zero x h = h
set_taken (f ∷ fs) (suc i) (suc j) x h = set_taken fs i j x h

put_stays : (fs : List (Option (List ℕ))) (k j : ℕ) (x : List ℕ) → is_taken (taken_at fs k) ≡ true → is_taken (taken_at (set fs (j - 1) (some x)) k) ≡ true
unfolding taken_at
put_stays fs zero j x h = h
put_stays fs (suc k) j x h = set_taken fs k (j - 1) x h

-- a sender's frame of a round: of this one, of the one that follows, and of no other
pub frames_now : (r : Rec) (p : ℕ) → p ≡ r.round → frames_of r p ≡ r.frames
unfolding frames_of
frames_now r p e = rw (eq-eqb p r.round e) refl

frames_next : (r : Rec) (p : ℕ) → p ≡ suc r.round → frames_of r p ≡ r.early
unfolding frames_of
frames_next r p e = rw (ne_eqb p r.round (λ f. absurd (omega arith)), eq-eqb p (suc r.round) e) refl

pub frame_now : (r : Rec) (k : ℕ) → frame_at r r.round k ≡ taken_at r.frames k
unfolding frame_at
frame_now r k = ap (λ (fs : List (Option (List ℕ))). taken_at fs k) (frames_now r r.round refl)

pub frames_many : {n : ℕ} (r : Rec) (p : ℕ) → InTime r.round p → length r.frames ≡ n → length r.early ≡ n → length (frames_of r p) ≡ n
frames_many r p (inl e) long early = ap length (frames_now r p e) ∙ long
frames_many r p (inr e) long early = ap length (frames_next r p e) ∙ early

-- a frame put in that comes in time stands there
pub early_here :
    (r : Rec) (p k : ℕ) (x : List ℕ) → p ≡ suc r.round → 1 ≤ k → k ≤ length r.early → taken_at (with_frame r p k x).early k ≡ some x
unfolding with_frame with_operand
early_here r p k x e low high = rw (ne_eqb p r.round (λ f. absurd (omega arith))) (put_here r.early k x low high)

pub frame_here :
    (r : Rec) (p k : ℕ) (x : List ℕ) → InTime r.round p → 1 ≤ k → k ≤ length (frames_of r p) → frame_at (with_frame r p k x) p k ≡ some x
unfolding frame_at with_frame with_operand
frame_here r p k x (inl e) low high =
    ap (λ (fs : List (Option (List ℕ))). taken_at fs k) (frames_now (with_frame r p k x) p e)
    ∙ rw (eq-eqb p r.round e) (put_here r.frames k x low (rw (frames_now r p e) at high))
frame_here r p k x (inr e) low high =
    ap (λ (fs : List (Option (List ℕ))). taken_at fs k) (frames_next (with_frame r p k x) p e)
    ∙ early_here r p k x e low (rw (frames_next r p e) at high)

-- what else stands stood before
with_cases :
    (b : Bool) (fs : List (Option (List ℕ))) (k j : ℕ) (x y : List ℕ) → 1 ≤ j → taken_at (with_operand b fs j y) k ≡ some x →
    ((b ≡ true) × (k ≡ j) × (x ≡ y)) ⊎ (taken_at fs k ≡ some x)
unfolding with_operand
with_cases false fs k j x y h e = inr e
with_cases true fs k j x y h e = go (put_cases fs k j x y h e)
  where
    go : ((k ≡ j) × (x ≡ y)) ⊎ (taken_at fs k ≡ some x) → ((true ≡ true) × (k ≡ j) × (x ≡ y)) ⊎ (taken_at fs k ≡ some x)
    go (inl q) = inl (refl, q.0, q.1)
    go (inr q) = inr q

-- what holds of every operand that is there, and of one more, if it is one of theirs, holds of all of them
pub each_with :
    (P : List ℕ → Type 0) (b : Bool) (fs : List (Option (List ℕ))) (j : ℕ) (y : List ℕ) → 1 ≤ j → (b ≡ true → P y) →
    ((i : ℕ) (x : List ℕ) → taken_at fs i ≡ some x → P x) → (i : ℕ) (x : List ℕ) → taken_at (with_operand b fs j y) i ≡ some x → P x
each_with P b fs j y low here all i x e = go (with_cases b fs i j x y low e)
  where
    go : ((b ≡ true) × (i ≡ j) × (x ≡ y)) ⊎ (taken_at fs i ≡ some x) → P x
    go (inl q) = rw q.2 (here q.0)
    go (inr q) = all i x q

pub frame_cases :
    (r : Rec) (p q k j : ℕ) (x y : List ℕ) → InTime r.round p → 1 ≤ j → frame_at (with_frame r p j y) q k ≡ some x →
    ((q ≡ p) × (k ≡ j) × (x ≡ y)) ⊎ (frame_at r q k ≡ some x)
unfolding frame_at frames_of with_frame
frame_cases r p q k j x y due h e = go (eqb q r.round) (eqb q (suc r.round)) refl refl e
  where
    go : (a b : Bool) → eqb q r.round ≡ a → eqb q (suc r.round) ≡ b →
        taken_at (cond a (with_operand (eqb p r.round) r.frames j y) (cond b (with_operand (not (eqb p r.round)) r.early j y) [])) k ≡ some x →
        ((q ≡ p) × (k ≡ j) × (x ≡ y)) ⊎ (taken_at (cond a r.frames (cond b r.early [])) k ≡ some x)
    go true b f g e = now (with_cases (eqb p r.round) r.frames k j x y h e)
      where
        now : ((eqb p r.round ≡ true) × (k ≡ j) × (x ≡ y)) ⊎ (taken_at r.frames k ≡ some x) → ((q ≡ p) × (k ≡ j) × (x ≡ y)) ⊎ (taken_at r.frames k ≡ some x)
        now (inl t) = inl (eqb-true _ _ f ∙ sym (eqb-true _ _ t.0), t.1, t.2)
        now (inr t) = inr t
    go false true f g e = next (with_cases (not (eqb p r.round)) r.early k j x y h e)
      where
        next : ((not (eqb p r.round) ≡ true) × (k ≡ j) × (x ≡ y)) ⊎ (taken_at r.early k ≡ some x) → ((q ≡ p) × (k ≡ j) × (x ≡ y)) ⊎ (taken_at r.early k ≡ some x)
        next (inl t) = inl (eqb-true _ _ g ∙ sym (in_time_next due (not-true _ t.0)), t.1, t.2)
        next (inr t) = inr t
    go false false f g e = inr e

-- and a frame that is there stays
with_stays : (b : Bool) (fs : List (Option (List ℕ))) (k j : ℕ) (x : List ℕ) → is_taken (taken_at fs k) ≡ true → is_taken (taken_at (with_operand b fs j x) k) ≡ true
unfolding with_operand
with_stays true fs k j x h = put_stays fs k j x h
with_stays false fs k j x h = h

pub frame_stays : (r : Rec) (p q k j : ℕ) (x : List ℕ) → is_taken (frame_at r q k) ≡ true → is_taken (frame_at (with_frame r p j x) q k) ≡ true
unfolding frame_at frames_of with_frame
frame_stays r p q k j x h = go (eqb q r.round) (eqb q (suc r.round)) h
  where
    go : (a b : Bool) → is_taken (taken_at (cond a r.frames (cond b r.early [])) k) ≡ true →
        is_taken (taken_at (cond a (with_operand (eqb p r.round) r.frames j x) (cond b (with_operand (not (eqb p r.round)) r.early j x) [])) k) ≡ true
    go true b h = with_stays (eqb p r.round) r.frames k j x h
    go false true h = with_stays (not (eqb p r.round)) r.early k j x h
    go false false h = h
