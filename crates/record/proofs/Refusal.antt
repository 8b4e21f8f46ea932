-- What it says that a call is not turned down. Each line of the table is a test, and some lines end at 0 only if every one of them
-- does, however they are grouped. Assumes nothing.
use mathlib.Core.Path.{◌≡◌, refl, sym, ◌∙◌, ap}
use mathlib.Core.Bool.{Bool, true, false, cond, ◌&&◌, not}
use mathlib.Core.List.{List, [], ◌∷◌, ◌++◌}
use mathlib.Mathlib.Data.Bool.Basic.{and_intro}
use Prim.Native.Nat.{ℕ, ◌≤◌}
use native.Mathlib.Omega.{arith}
use lib.Dec.{eqb, leb}
use lib.ListN.{length}
use borrow.Author.Tests.{eqb-true, eqb-false, leb-true, ne_eqb, le-leb, not-false}
use Rattle.arrays.proofs.Bool.{and_split, or_split}
use Rattle.code.specs.Settings.{Settings, settings_refusal}
use Rattle.grading.specs.Value.{Value, is_blank}
use Rattle.record.specs.Record.{Who, Rec}
use Rattle.record.specs.Refusal.{line, first_of, number_refusal, size_refusal, blank_refusal, round_refusal, slot_refusal, unfinished_refusal, open_refusal, record_refusal, send_refusal, close_refusal, ask_refusal, room_refusal}

-- a line
pub line_applies : (m : ℕ) (t : Bool) → t ≡ true → line m t ≡ m
unfolding line
line_applies m t e = rw e refl

pub line_passed : (m : ℕ) (t : Bool) → t ≡ false → line m t ≡ 0
unfolding line
line_passed m t e = rw e refl

pub line_zero : (m : ℕ) (t : Bool) → 1 ≤ m → line m t ≡ 0 → t ≡ false
unfolding line
line_zero m false h e = refl
line_zero m true h e = absurd (omega arith)

-- some lines
pub first_of_zero : (a : ℕ) (rest : List ℕ) → first_of (a ∷ rest) ≡ 0 → (a ≡ 0) × (first_of rest ≡ 0)
unfolding first_of
first_of_zero a rest e = go (eqb a 0) refl e
  where
    go : (q : Bool) → eqb a 0 ≡ q → cond q (first_of rest) a ≡ 0 → (a ≡ 0) × (first_of rest ≡ 0)
    go true f g = (eqb-true a 0 f, g)
    go false f g = absurd (eqb-false a 0 f g)

pub first_of_here : {a x : ℕ} (rest : List ℕ) → a ≡ x → (x ≡ 0 → ⊥) → first_of (a ∷ rest) ≡ x
unfolding first_of
first_of_here {a} {x} rest e h = rw (ne_eqb a 0 (λ z. h (sym e ∙ z))) e

pub first_of_next : {a x : ℕ} (rest : List ℕ) → a ≡ 0 → first_of rest ≡ x → first_of (a ∷ rest) ≡ x
unfolding first_of
first_of_next rest e f = rw e f

pub first_of_last : (a : ℕ) → first_of (a ∷ []) ≡ a
unfolding first_of
first_of_last a = go (eqb a 0) refl
  where
    go : (q : Bool) → eqb a 0 ≡ q → cond q 0 a ≡ a
    go true e = sym (eqb-true a 0 e)
    go false e = refl

pub first_of_group : (xs ys : List ℕ) → first_of (first_of xs ∷ ys) ≡ first_of (xs ++ ys)
unfolding first_of
first_of_group [] ys = refl
first_of_group (x ∷ xs) ys = go (eqb x 0) refl (first_of_group xs ys)
  where
    go :
        (q : Bool) → eqb x 0 ≡ q → cond (eqb (first_of xs) 0) (first_of ys) (first_of xs) ≡ first_of (xs ++ ys) →
        cond (eqb (cond q (first_of xs) x) 0) (first_of ys) (cond q (first_of xs) x) ≡ cond q (first_of (xs ++ ys)) x
    go true e f = f
    go false e f = rw e refl

pub first_of_known : {g : ℕ} (xs ys : List ℕ) → g ≡ first_of xs → first_of (xs ++ ys) ≡ first_of (g ∷ ys)
first_of_known xs ys e = sym (first_of_group xs ys) ∙ ap (λ (k : ℕ). first_of (k ∷ ys)) (sym e)

between : (a k b : ℕ) → not (leb a k && leb k b) ≡ false → (a ≤ k) × (k ≤ b)
between a k b e = let both = and_split (leb a k) (leb k b) (not-false _ e) in (leb-true _ _ both.0, leb-true _ _ both.1)

pub inside : (a k b : ℕ) → a ≤ k → k ≤ b → not (leb a k && leb k b) ≡ false
inside a k b h l = ap not (and_intro (le-leb _ _ h) (le-leb _ _ l))

-- own number, own value, round
pub number_inside : (n k : ℕ) → number_refusal n k ≡ 0 → (1 ≤ k) × (k ≤ n)
unfolding number_refusal
number_inside n k e = between 1 k n (line_zero 4 _ (omega arith) e)

pub round_inside : (m : ℕ) → round_refusal m ≡ 0 → (1 ≤ m) × (m ≤ 3)
unfolding round_refusal
round_inside m e = between 1 m 3 (line_zero 7 _ (omega arith) e)

pub slot_inside : (n own k : ℕ) → slot_refusal n own k ≡ 0 → (1 ≤ k) × (k ≤ n)
unfolding slot_refusal
slot_inside n own k e = between 1 k n (or_split _ _ (line_zero 8 _ (omega arith) e)).0

pub slot_other : (n own k : ℕ) → slot_refusal n own k ≡ 0 → (k ≡ own → ⊥)
unfolding slot_refusal
slot_other n own k e = eqb-false k own (or_split (not (leb 1 k && leb k n)) (eqb k own) (line_zero 8 _ (omega arith) e)).1

pub record Opens (s : Settings) (k : ℕ) (v : Value) : Type 0 where
  pub fine : settings_refusal s ≡ 0
  pub low : 1 ≤ k
  pub high : k ≤ s.n
  pub size : length v ≡ s.w
  pub filled : is_blank v ≡ false

pub opens_of : (s : Settings) (k : ℕ) (v : Value) → open_refusal s k v ≡ 0 → Opens s k v
unfolding open_refusal size_refusal blank_refusal
opens_of s k v e =
    let settings = first_of_zero _ _ e in
    let number = first_of_zero _ _ settings.1 in
    let size = first_of_zero _ _ number.1 in
    let filled = first_of_zero _ _ size.1 in
    let range = number_inside s.n k number.0 in
    record {
      fine = settings.0;
      low = range.0;
      high = range.1;
      size = eqb-true _ _ (not-false _ (line_zero 5 _ (omega arith) size.0));
      filled = line_zero 6 _ (omega arith) filled.0;
    }

pub record_settings : (w : Who) → record_refusal w ≡ 0 → settings_refusal w.settings ≡ 0
unfolding record_refusal
record_settings w e = (first_of_zero _ _ e).0

pub record_number : (w : Who) → record_refusal w ≡ 0 → (1 ≤ w.number) × (w.number ≤ w.settings.n)
unfolding record_refusal
record_number w e = number_inside _ _ (first_of_zero _ _ (first_of_zero _ _ e).1).0

pub close_record : (r : Rec) → close_refusal r ≡ 0 → record_refusal r.who ≡ 0
unfolding close_refusal
close_record r e = (first_of_zero _ _ e).0

pub close_round : (r : Rec) → close_refusal r ≡ 0 → (1 ≤ r.round) × (r.round ≤ 3)
unfolding close_refusal
close_round r e = round_inside r.round (first_of_zero _ _ (first_of_zero _ _ e).1).0

pub close_fine : (r : Rec) → record_refusal r.who ≡ 0 → 1 ≤ r.round → r.round ≤ 3 → close_refusal r ≡ 0
unfolding close_refusal round_refusal
close_fine r e low high = first_of_next _ e (first_of_last _ ∙ line_passed 7 _ (inside 1 _ _ low high))

pub close_settings : (r : Rec) → close_refusal r ≡ 0 → settings_refusal r.who.settings ≡ 0
close_settings r e = record_settings r.who (close_record r e)

pub ask_round : (r : Rec) → ask_refusal r ≡ 0 → r.round ≡ 4
unfolding ask_refusal unfinished_refusal
ask_round r e = eqb-true _ _ (not-false _ (line_zero 17 _ (omega arith) (first_of_zero _ _ (first_of_zero _ _ e).1).0))

pub ask_settings : (r : Rec) → ask_refusal r ≡ 0 → settings_refusal r.who.settings ≡ 0
unfolding ask_refusal
ask_settings r e = record_settings r.who (first_of_zero _ _ e).0

-- a record of an opened column is not turned down
pub record_fine : (w : Who) → Opens w.settings w.number w.own → record_refusal w ≡ 0
unfolding record_refusal number_refusal blank_refusal
record_fine w o =
    first_of_next _ o.fine
    (first_of_next _ (line_passed 4 _ (inside 1 _ _ o.low o.high)) (first_of_last _ ∙ line_passed 6 _ o.filled))

-- sending: the lines of closing, then the buffer's
pub send_lines :
    (r : Rec) (room : ℕ) → send_refusal r room ≡ first_of (first_of (record_refusal r.who ∷ round_refusal r.round ∷ []) ∷ room_refusal r.who.settings r.round room ∷ [])
unfolding send_refusal
send_lines r room = sym (first_of_group (record_refusal r.who ∷ round_refusal r.round ∷ []) _)
