-- What the program's record says, part by part: a slot filled is a frame put in, empty slots are no frames, and the parts that a
-- round has made are read as they stand. Lists by induction, the rest read off the definitions. Assumes nothing.
use mathlib.Core.Path.{◌≡◌, refl, sym, ◌∙◌, ap}
use mathlib.Core.Bool.{Bool, true, false, cond, not}
use mathlib.Core.List.{List, [], ◌∷◌, map}
use mathlib.Core.Logic.{inl, inr}
use mathlib.Core.Option.{Option, none, some}
use Prim.Native.Nat.{ℕ, zero, suc, ◌+◌, ◌-◌, ◌≤◌, ◌<◌}
use native.Mathlib.Numerals.{add-one}
use native.Mathlib.Omega.{arith}
use lib.Dec.{eqb}
use lib.ListN.{length, get_or, set, take, replicate, length-map, get_or-map}
use lib.Seq.{get_or-take, take-set-lt, length-take-le}
use borrow.Author.Tests.{eqb-true, eqb-false, eq-eqb, ne_eqb, lt-ltb, not-true}
use Rattle.arrays.specs.Array.{padded}
use Rattle.arrays.proofs.Front.{front_value}
use Rattle.code.specs.Settings.{Settings, settings, value_size}
use Rattle.code.specs.Size.{most_columns, value_room}
use Rattle.code.specs.Entry.{values_in}
use Rattle.code.proofs.ValidSettings.{sizes}
use Rattle.grading.specs.Value.{Value}
use Rattle.grading.specs.Held.{held_in}
use Rattle.grading.proofs.Value.{take_replicate}
use Rattle.record.specs.Frame.{header_size, longest_frame, operand_size, frame_size, round_in, operand_in}
use Rattle.record.specs.Record.{who_as, found_as, nothing_found, opened, no_frames, taken_at, is_taken, frames_of, frame_at, InTime, with_operand, with_frame, next_round, none_refused, with_refused, raised, count_at, one_more}
use Rattle.record.specs.Refusal.{take_refusal}
use Rattle.record.specs.View.{settings_of, who_in, frame_in, frames_in, found_in, view}
use Rattle.record.specs.Stored.{no_slot, frame_slot, identity, opened_column, slots_with, with_slot, with_counts, one_on}
use Rattle.record.specs.Steps.Due.{there_by}
use Rattle.record.specs.declared.Slot.{Slot}
use Rattle.record.specs.declared.Findings.{Findings}
use Rattle.record.specs.declared.Column.{Column}
use Rattle.record.proofs.Refusal.{Opens}
use Rattle.record.proofs.InTime.{in_time_next}
use Rattle.record.proofs.FrameRefusal.{taken_of}
use Rattle.record.proofs.Front.{front_operand}

-- one slot
pub frame_of_empty : (size : ℕ) (x : Slot) → x.taken ≡ 0 → frame_in size x ≡ none
unfolding frame_in
frame_of_empty size x e = rw (eq-eqb x.taken 0 e) refl

pub frame_of_taken : (size : ℕ) (x : Slot) → (x.taken ≡ 0 → ⊥) → frame_in size x ≡ some (take size (operand_in x.bytes))
unfolding frame_in
frame_of_taken size x e = rw (ne_eqb x.taken 0 e) refl

pub is_taken_frame : (size : ℕ) (x : Slot) → is_taken (frame_in size x) ≡ not (eqb x.taken 0)
unfolding is_taken frame_in
is_taken_frame size x = go (eqb x.taken 0)
  where
    go : (b : Bool) → is_taken (cond b none (some (take size (operand_in x.bytes)))) ≡ not b
    go true = refl
    go false = refl

-- the slots of a round
map_set : {A B : Type 0} (f : A → B) (l : List A) (i : ℕ) (a : A) → map f (set l i a) ≡ set (map f l) i (f a)
map_set f [] i a = refl
map_set f (x ∷ l) zero a = refl
map_set f (x ∷ l) (suc i) a = ap (◌∷◌ (f x)) (map_set f l i a)

pub frames_set :
    (s : Settings) (m k : ℕ) (xs : List Slot) (x : Slot) → k < s.n → frames_in s m (set xs k x) ≡ set (frames_in s m xs) k (frame_in (operand_size s m) x)
unfolding frames_in
frames_set s m k xs x h = rw (take-set-lt s.n xs k x h) (map_set (frame_in (operand_size s m)) (take s.n xs) k x)

pub frames_length : (s : Settings) (m : ℕ) (xs : List Slot) → s.n ≤ length xs → length (frames_in s m xs) ≡ s.n
unfolding frames_in
frames_length s m xs h = length-map (take s.n xs) (frame_in (operand_size s m)) ∙ length-take-le s.n xs h

pub frames_at :
    (s : Settings) (m k : ℕ) (xs : List Slot) (d : Slot) → d.taken ≡ 0 → 1 ≤ k → k ≤ s.n →
    taken_at (frames_in s m xs) k ≡ frame_in (operand_size s m) (get_or xs (k - 1) d)
unfolding taken_at frames_in
frames_at s m zero xs d e l h = absurd (omega arith)
frames_at s m (suc k) xs d e l h =
    let f = frame_in (operand_size s m) in
    let q : suc k - 1 ≡ k = omega arith in
    ap (get_or (map f (take s.n xs)) k) (sym (frame_of_empty (operand_size s m) d e)) ∙ get_or-map f (take s.n xs) k d
    ∙ ap f (get_or-take s.n xs k d (omega arith)) ∙ ap (λ (i : ℕ). f (get_or xs i d)) (sym q)

-- whether a frame that comes in time is there, by two bytes of the record
pub slot_there :
    (c : Column) (p k : ℕ) (d : Slot) → d.taken ≡ 0 → 1 ≤ k → k ≤ c.who.n → InTime c.round p →
    is_taken (frame_at (view c) p k)
    ≡ there_by c.round (not (eqb (get_or c.slots (k - 1) d).taken 0)) (not (eqb (get_or c.early (k - 1) d).taken 0)) p
unfolding view settings_of settings frame_at frames_of there_by
slot_there c p k d e l h due = go (eqb p c.round) (eqb p (suc c.round)) refl refl
  where
    s : Settings
    s = settings_of c.who

    at : (m : ℕ) (xs : List Slot) → is_taken (taken_at (frames_in s m xs) k) ≡ not (eqb (get_or xs (k - 1) d).taken 0)
    at m xs = ap is_taken (frames_at s m k xs d e l h) ∙ is_taken_frame _ (get_or xs (k - 1) d)

    go : (a b : Bool) → eqb p c.round ≡ a → eqb p (suc c.round) ≡ b →
        is_taken (taken_at (cond a (frames_in s c.round c.slots) (cond b (frames_in s (suc c.round) c.early) [])) k)
        ≡ cond a (not (eqb (get_or c.slots (k - 1) d).taken 0)) (not (eqb (get_or c.early (k - 1) d).taken 0))
    go true b f g = at c.round c.slots
    go false true f g = at (suc c.round) c.early
    go false false f g = absurd (out due)
      where
        out : InTime c.round p → ⊥
        out (inl q) = eqb-false _ _ f q
        out (inr q) = eqb-false _ _ g q

frames_empty : (size n many : ℕ) (x : Slot) → x.taken ≡ 0 → n ≤ many → map (frame_in size) (take n (replicate many x)) ≡ replicate n none
frames_empty size zero many x e h = refl
frames_empty size (suc n) zero x e h = absurd (omega arith)
frames_empty size (suc n) (suc many) x e h =
    rw (frame_of_empty size x e) (ap (λ (fs : List (Option (List ℕ))). none ∷ fs) (frames_empty size n many x e (omega arith)))

pub frames_none : (s : Settings) (m many : ℕ) (x : Slot) → x.taken ≡ 0 → s.n ≤ many → frames_in s m (replicate many x) ≡ no_frames s
unfolding frames_in no_frames
frames_none s m many x e h = frames_empty (operand_size s m) s.n many x e h

pub no_slots : (s : Settings) (m : ℕ) → s.n ≤ most_columns → frames_in s m (replicate most_columns no_slot) ≡ no_frames s
unfolding no_slot
no_slots s m h = frames_none s m most_columns no_slot refl h

-- a record as opening makes it
pub view_opened : (n t w k run : ℕ) (v : Value) → Opens (settings n t w) k v → view (opened_column (identity n t w k run v)) ≡ opened (settings n t w) k run v
unfolding view who_in found_in settings_of settings value_size opened_column identity opened nothing_found none_refused padded
view_opened n t w k run v o =
    let s = settings n t w in
    let few = (sizes s o.fine).few_columns in
    rw (no_slots s 1 few, no_slots s 2 few, take_replicate {A = ℕ} n most_columns 0 few, front_value v (replicate value_room 0) w o.size) refl

-- V, Y, values and confidences, and what rounds two and three told
module _ (s : Settings) (m : ℕ) (f : Findings) where
  pub found_heard : 2 ≤ m → (found_in s m f).heard ≡ values_in s s.n f.heard
  unfolding found_in found_as
  found_heard h = rw (lt-ltb 1 m h) refl

  pub found_agreed : 3 ≤ m → (found_in s m f).agreed ≡ values_in s s.n f.agreed
  unfolding found_in found_as
  found_agreed h = rw (lt-ltb 2 m h) refl

  pub found_held : 4 ≤ m → (found_in s m f).held ≡ held_in s f.values f.confidences
  unfolding found_in found_as
  found_held h = rw (lt-ltb 3 m h) refl

  pub found_two : 3 ≤ m → (found_in s m f).told_two ≡ take s.n f.told_two
  unfolding found_in found_as
  found_two h = rw (lt-ltb 2 m h) refl

  pub found_three : 4 ≤ m → (found_in s m f).told_three ≡ take s.n f.told_three
  unfolding found_in found_as
  found_three h = rw (lt-ltb 3 m h) refl

-- a slot with a frame
slot_read : (size : ℕ) (bs : List ℕ) → length bs ≡ header_size + size → frame_in size (frame_slot bs) ≡ some (operand_in bs)
unfolding frame_slot padded
slot_read size bs e = frame_of_taken size (frame_slot bs) (λ z. omega arith) ∙ ap some (front_operand bs (replicate longest_frame 0) size e)

-- slots of a round with one more frame, if it is one of theirs
slots_read :
    (s : Settings) (m k : ℕ) (b : Bool) (xs : List Slot) (bs : List ℕ) → 1 ≤ k → k ≤ s.n → (b ≡ true → length bs ≡ frame_size s m) →
    frames_in s m (slots_with b xs k bs) ≡ with_operand b (frames_in s m xs) k (operand_in bs)
unfolding slots_with with_operand frame_size
slots_read s m k true xs bs low high fits =
    frames_set s m (k - 1) xs (frame_slot bs) (omega arith) ∙ ap (set (frames_in s m xs) (k - 1)) (slot_read (operand_size s m) bs (fits refl))
slots_read s m k false xs bs low high fits = refl

pub view_slot : (c : Column) (k : ℕ) (bs : List ℕ) → take_refusal (view c) k bs ≡ 0 → view (with_slot c k bs) ≡ with_frame (view c) (round_in bs) k (operand_in bs)
unfolding view with_frame who_in who_as settings_of settings with_slot
view_slot c k bs e =
    let taken = taken_of (view c) k bs e in
    let s = settings_of c.who in
    rw (
      slots_read s c.round k (eqb (round_in bs) c.round) c.slots bs taken.low taken.high
          (λ f. taken.fits.size ∙ ap (frame_size s) (eqb-true _ _ f)),
      slots_read s (suc c.round) k (not (eqb (round_in bs) c.round)) c.early bs taken.low taken.high
          (λ f. taken.fits.size ∙ ap (frame_size s) (in_time_next taken.due (not-true _ f))),
    )

-- one more frame refused
pub count_there : (cs : List ℕ) (k : ℕ) → 1 ≤ k → count_at cs k ≡ get_or cs (k - 1) 0
unfolding count_at
count_there cs zero low = absurd (omega arith)
count_there cs (suc k) low = ap (λ (i : ℕ). get_or cs i 0) (let e : k ≡ suc k - 1 = omega arith in e)

counts_read : (n k : ℕ) (cs : List ℕ) → 1 ≤ k → k ≤ n → take n (one_more cs k) ≡ one_more (take n cs) k
unfolding one_more
counts_read n k cs low high =
    let count = count_there cs k low ∙ sym (get_or-take n cs (k - 1) 0 (omega arith)) ∙ sym (count_there (take n cs) k low) in
    take-set-lt n cs (k - 1) _ (omega arith) ∙ ap (λ (a : ℕ). set (take n cs) (k - 1) (raised a)) count

pub view_refused : (c : Column) (k : ℕ) → 1 ≤ k → k ≤ c.who.n → view (with_counts c (one_more c.refused k)) ≡ with_refused (view c) k
unfolding view settings_of settings with_counts with_refused
view_refused c k low high = rw (counts_read c.who.n k c.refused low high) refl

-- one round on: frames that came early count, none has come early yet, and the counts are as before
pub view_one_on :
    (c : Column) (f : Findings) → c.who.n ≤ most_columns → view (one_on c f) ≡ next_round (view c) (found_in (settings_of c.who) (c.round + 1) f)
unfolding view one_on next_round who_in who_as settings_of settings
view_one_on c f few =
    let s = settings_of c.who in
    let frames = ap (λ (m : ℕ). frames_in s m c.early) (add-one c.round) in
    let early = no_slots s (suc (c.round + 1)) few in
    let round = add-one c.round in
    cc
