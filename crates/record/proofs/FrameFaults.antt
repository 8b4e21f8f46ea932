-- Which refusals are the frame's fault, and counted: a frame's own lines are, whichever applies, and no other line of any call is. So a frame
-- that is refused for its own fault came in a neighbour's slot. Assumes nothing.
use mathlib.Core.Path.{◌≡◌, refl, sym, ◌∙◌, ap}
use mathlib.Core.Bool.{Bool, true, false, cond, ◌&&◌, not}
use mathlib.Core.List.{List, [], ◌∷◌}
use Prim.Native.Nat.{ℕ, ◌+◌, ◌*◌, ◌≤◌}
use lib.Dec.{eqb, ltb, leb}
use borrow.Author.Tests.{eqb-true, eqb-false}
use Rattle.arrays.proofs.Bool.{true_not_false}
use Rattle.code.specs.Settings.{Settings, settings_refusal}
use Rattle.code.specs.Size.{most_columns}
use Rattle.code.proofs.ValidSettings.{sizes}
use Rattle.record.specs.Record.{Who, Rec, one_more}
use Rattle.record.specs.Refusal.{line, first_of, number_refusal, blank_refusal, round_refusal, slot_refusal, short_refusal, command_refusal, length_refusal, sender_refusal, run_refusal, other_round_refusal, repeated_refusal, room_refusal, unfinished_refusal, record_refusal, frame_refusal, take_refusal, send_refusal, close_refusal, ask_refusal, frame_fault}
use Rattle.record.specs.Stored.{with_counts, after_refusal}
use Rattle.record.specs.declared.Column.{Column}
use Rattle.record.proofs.Refusal.{first_of_zero, first_of_here, slot_inside, slot_other, record_settings}
use Rattle.record.proofs.FrameRefusal.{take_lines}

-- what a refusal leaves of the column's record
pub refusal_keeps : (a k : ℕ) (c : Column) → frame_fault a ≡ false → after_refusal a k c ≡ c
unfolding after_refusal
refusal_keeps a k c h = rw h refl

pub refusal_counts : (a k : ℕ) (c : Column) → frame_fault a ≡ true → after_refusal a k c ≡ with_counts c (one_more c.refused k)
unfolding after_refusal
refusal_counts a k c h = rw h refl

-- what holds of 0 and of each line holds of the first that applies
module _ (P : ℕ → Type 0) (none : P 0) where
  line_holds : (m : ℕ) (t : Bool) → P m → P (line m t)
  unfolding line
  line_holds m true h = h
  line_holds m false h = none

  first_holds : (a : ℕ) (rest : List ℕ) → P a → P (first_of rest) → P (first_of (a ∷ rest))
  unfolding first_of
  first_holds a rest h l = go (eqb a 0)
    where
      go : (q : Bool) → P (cond q (first_of rest) a)
      go true = l
      go false = h

  none_holds : P (first_of [])
  unfolding first_of
  none_holds = none

-- lines that are not a frame's own
abbrev Other : ℕ → Type 0
Other a = frame_fault a ≡ false

other_zero : Other 0
unfolding frame_fault
other_zero = refl

other_line : (m : ℕ) (t : Bool) → Other m → Other (line m t)
other_line = line_holds Other other_zero

other_more : (a : ℕ) (rest : List ℕ) → Other a → Other (first_of rest) → Other (first_of (a ∷ rest))
other_more = first_holds Other other_zero

other_none : Other (first_of [])
other_none = none_holds Other other_zero

settings_other : (s : Settings) → frame_fault (settings_refusal s) ≡ false
unfolding settings_refusal frame_fault
settings_other s = go (not (leb 1 s.n && leb s.n 32)) (ltb s.n (3 * s.t + 1)) (leb 1 s.w && leb s.w 8)
  where
    go : (a b c : Bool) → frame_fault (cond a 1 (cond b 2 (cond c 0 3))) ≡ false
    go true b c = refl
    go false true c = refl
    go false false true = refl
    go false false false = refl

record_other : (w : Who) → frame_fault (record_refusal w) ≡ false
unfolding record_refusal number_refusal blank_refusal frame_fault
record_other w = other_more _ _ (settings_other w.settings) (other_more _ _ (other_line 4 _ refl) (other_more _ _ (other_line 6 _ refl) other_none))

round_other : (m : ℕ) → frame_fault (round_refusal m) ≡ false
unfolding round_refusal frame_fault
round_other m = other_line 7 _ refl

-- of taking, before the frame's own
pub before_frame : (w : Who) (m k : ℕ) → frame_fault (first_of (record_refusal w ∷ round_refusal m ∷ slot_refusal w.settings.n w.number k ∷ [])) ≡ false
unfolding slot_refusal frame_fault
before_frame w m k = other_more _ _ (record_other w) (other_more _ _ (round_other m) (other_more _ _ (other_line 8 _ refl) other_none))

-- of the calls that hand in no frame
pub send_other : (r : Rec) (room : ℕ) → frame_fault (send_refusal r room) ≡ false
unfolding send_refusal room_refusal frame_fault
send_other r room = other_more _ _ (record_other r.who) (other_more _ _ (round_other r.round) (other_more _ _ (other_line 16 _ refl) other_none))

pub close_other : (r : Rec) → frame_fault (close_refusal r) ≡ false
unfolding close_refusal
close_other r = other_more _ _ (record_other r.who) (other_more _ _ (round_other r.round) other_none)

pub ask_other : (r : Rec) → frame_fault (ask_refusal r) ≡ false
unfolding ask_refusal unfinished_refusal frame_fault
ask_other r = other_more _ _ (record_other r.who) (other_more _ _ (other_line 17 _ refl) other_none)

-- a frame's own lines
abbrev Fault : ℕ → Type 0
Fault a = (a ≡ 0 → ⊥) → frame_fault a ≡ true

fault_line : (m : ℕ) (t : Bool) → frame_fault m ≡ true → Fault (line m t)
fault_line m t h = line_holds Fault (λ z. absurd (z refl)) m t (λ z. h)

fault_more : (a : ℕ) (rest : List ℕ) → Fault a → Fault (first_of rest) → Fault (first_of (a ∷ rest))
fault_more = first_holds Fault (λ z. absurd (z refl))

pub frame_counts :
    (s : Settings) (run m k : ℕ) (there : Bool) (bs : List ℕ) → (frame_refusal s run m k there bs ≡ 0 → ⊥) →
    frame_fault (frame_refusal s run m k there bs) ≡ true
unfolding frame_refusal short_refusal command_refusal length_refusal sender_refusal run_refusal other_round_refusal repeated_refusal frame_fault
frame_counts s run m k there bs =
    fault_more _ _ (fault_line 9 _ refl)
    (fault_more _ _ (fault_line 10 _ refl)
    (fault_more _ _ (fault_line 11 _ refl)
    (fault_more _ _ (fault_line 12 _ refl)
    (fault_more _ _ (fault_line 13 _ refl)
    (fault_more _ _ (fault_line 14 _ refl) (fault_more _ _ (fault_line 15 _ refl) (none_holds Fault (λ z. absurd (z refl)))))))))

-- a neighbour's slot: one of the group's, and not the column's own
pub record Neighbour (r : Rec) (k : ℕ) : Type 0 where
  pub low : 1 ≤ k
  pub high : k ≤ r.who.settings.n
  pub few : r.who.settings.n ≤ most_columns
  pub other : k ≡ r.who.number → ⊥

-- a frame that is refused for its own fault came in one
pub neighbour_of : (r : Rec) (k : ℕ) (bs : List ℕ) → frame_fault (take_refusal r k bs) ≡ true → Neighbour r k
neighbour_of r k bs fault = go (eqb before 0) refl
  where
    before : ℕ
    before = first_of (record_refusal r.who ∷ round_refusal r.round ∷ slot_refusal r.who.settings.n r.who.number k ∷ [])

    go : (q : Bool) → eqb before 0 ≡ q → Neighbour r k
    go true e =
        let record_line = first_of_zero _ _ (eqb-true before 0 e) in
        let round_line = first_of_zero _ _ record_line.1 in
        let slot_line = first_of_zero _ _ round_line.1 in
        let range = slot_inside _ _ k slot_line.0 in
        record {
          low = range.0;
          high = range.1;
          few = (sizes _ (record_settings r.who record_line.0)).few_columns;
          other = slot_other _ _ k slot_line.0;
        }
    go false e =
        let line = take_lines r k bs ∙ first_of_here _ refl (eqb-false before 0 e) in
        true_not_false (sym fault ∙ ap frame_fault line ∙ before_frame r.who r.round k)
