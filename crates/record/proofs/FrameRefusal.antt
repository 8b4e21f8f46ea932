-- What it says that a frame is not turned down, and the other way round: one that fits and comes in time can be turned down for one
-- reason only, that a frame of its round is there. Assumes nothing.
use mathlib.Core.Path.{◌≡◌, refl, sym, ◌∙◌, ap, ap₂, subst}
use mathlib.Core.Bool.{Bool, true, false, cond, ◌||◌, not}
use mathlib.Core.List.{List, [], ◌∷◌, ◌++◌}
use Prim.Native.Nat.{ℕ, suc, ◌+◌, ◌*◌, ◌≤◌}
use native.Mathlib.Omega.{arith}
use lib.Dec.{eqb, ltb}
use lib.ListN.{length, get_or}
use borrow.Author.Tests.{eqb-true, eqb-false, eq-eqb, ne_eqb, le-ltb, not-false}
use Rattle.code.specs.Settings.{Settings, settings_refusal}
use Rattle.record.specs.Frame.{header_size, command, frame_size, command_round, round_in, sender_in, run_in}
use Rattle.record.specs.Record.{Rec, is_taken, frame_at, InTime}
use Rattle.record.specs.Refusal.{line, first_of, round_refusal, slot_refusal, short_refusal, command_refusal, length_refusal, sender_refusal, run_refusal, other_round_refusal, repeated_refusal, record_refusal, frame_refusal, take_refusal}
use Rattle.record.proofs.Refusal.{line_passed, line_zero, first_of_zero, first_of_here, first_of_next, first_of_last, first_of_group, inside, slot_inside, record_settings}
use Rattle.record.proofs.InTime.{in_time_passes, in_time_of, out_of_time}

-- a frame is of one of three rounds, or of none
pub round_in_most : (bs : List ℕ) → round_in bs ≤ 3
unfolding round_in command_round
round_in_most bs = go (eqb (get_or bs 0 0) (command 1)) (eqb (get_or bs 0 0) (command 2)) (eqb (get_or bs 0 0) (command 3))
  where
    go : (a b c : Bool) → cond a 1 (cond b 2 (cond c 3 0)) ≤ 3
    go true b c = omega arith
    go false true c = omega arith
    go false false true = omega arith
    go false false false = omega arith

-- the lines of a frame, one test after the other
pub frame_tests :
    (s : Settings) (run m k : ℕ) (there : Bool) (bs : List ℕ) →
    (let p = command_round (get_or bs 0 0) in
    frame_refusal s run m k there bs
    ≡ cond (ltb (length bs) header_size) 9
    (cond (eqb p 0) 10
    (cond (not (eqb (length bs) (frame_size s p))) 11
    (cond (not (eqb (get_or bs 1 0) k)) 12
    (cond (not (eqb (256 * get_or bs 2 0 + get_or bs 3 0) run)) 13 (cond (ltb p m || ltb (suc m) p) 14 (cond there 15 0)))))))
unfolding frame_refusal first_of line short_refusal command_refusal length_refusal sender_refusal run_refusal other_round_refusal repeated_refusal round_in sender_in run_in
frame_tests s run m k there bs = go _ _ _ _ _ _ there
  where
    go : (a b c d e f g : Bool) →
        first_of (line 9 a ∷ line 10 b ∷ line 11 c ∷ line 12 d ∷ line 13 e ∷ line 14 f ∷ line 15 g ∷ [])
        ≡ cond a 9 (cond b 10 (cond c 11 (cond d 12 (cond e 13 (cond f 14 (cond g 15 0))))))
    go true b c d e f g = refl
    go false true c d e f g = refl
    go false false true d e f g = refl
    go false false false true e f g = refl
    go false false false false true f g = refl
    go false false false false false true g = refl
    go false false false false false false true = refl
    go false false false false false false false = refl

-- a frame of round m, from sender k, of that run
pub record Fits (s : Settings) (run m k : ℕ) (bs : List ℕ) : Type 0 where
  pub round : round_in bs ≡ m
  pub size : length bs ≡ frame_size s m
  pub sender : sender_in bs ≡ k
  pub same_run : run_in bs ≡ run

pub frame_four : (s : Settings) (m : ℕ) → 4 ≤ frame_size s m
unfolding frame_size
frame_four s m = omega arith

pub frame_fits :
    (s : Settings) (run m k : ℕ) (there : Bool) (bs : List ℕ) → frame_refusal s run m k there bs ≡ 0 → Fits s run (round_in bs) k bs × InTime m (round_in bs)
unfolding frame_refusal length_refusal sender_refusal run_refusal
frame_fits s run m k there bs e =
    let nine = first_of_zero _ _ e in
    let ten = first_of_zero _ _ nine.1 in
    let eleven = first_of_zero _ _ ten.1 in
    let twelve = first_of_zero _ _ eleven.1 in
    let thirteen = first_of_zero _ _ twelve.1 in
    let fourteen = first_of_zero _ _ thirteen.1 in (
      record {
        round = refl;
        size = equal 11 _ _ (omega arith) eleven.0;
        sender = equal 12 _ _ (omega arith) twelve.0;
        same_run = equal 13 _ _ (omega arith) thirteen.0;
      },
      in_time_of m (round_in bs) fourteen.0,
    )
  where
    equal : (number a b : ℕ) → 1 ≤ number → line number (not (eqb a b)) ≡ 0 → a ≡ b
    equal number a b h f = eqb-true a b (not-false _ (line_zero number _ h f))

-- the last two lines of a frame, in time and not
pub in_time_line : (m p : ℕ) (there : Bool) → InTime m p → first_of (other_round_refusal m p ∷ repeated_refusal there ∷ []) ≡ line 15 there
unfolding repeated_refusal
in_time_line m p there due = first_of_next _ (in_time_passes m p due) (first_of_last _)

pub out_of_time_line : (m p : ℕ) (there : Bool) → (InTime m p → ⊥) → first_of (other_round_refusal m p ∷ repeated_refusal there ∷ []) ≡ 14
out_of_time_line m p there late = first_of_here _ (out_of_time m p late) (λ z. omega arith)

fitting_refusal :
    (s : Settings) (run m p k : ℕ) (there : Bool) (bs : List ℕ) → 1 ≤ p → InTime m p → Fits s run p k bs → frame_refusal s run m k there bs ≡ repeated_refusal there
unfolding frame_refusal short_refusal command_refusal length_refusal sender_refusal run_refusal
fitting_refusal s run m p k there bs h due f =
    first_of_next _ (line_passed 9 _ (le-ltb (length bs) 4 (omega (arith, f.size, frame_four s p))))
    (first_of_next _ (line_passed 10 _ (ne_eqb (round_in bs) 0 (λ z. absurd (omega (arith, f.round)))))
    (first_of_next _ (line_passed 11 _ (ap not (eq-eqb _ _ (f.size ∙ ap (frame_size s) (sym f.round)))))
    (first_of_next _ (line_passed 12 _ (ap not (eq-eqb _ _ f.sender)))
    (first_of_next _ (line_passed 13 _ (ap not (eq-eqb _ _ f.same_run)))
    (first_of_next _ (in_time_passes m (round_in bs) (subst (InTime m) (sym f.round) due)) (first_of_last _))))))

-- whether a frame is there matters only of one that comes in time
first_of_tail : (xs ys zs : List ℕ) → first_of ys ≡ first_of zs → first_of (xs ++ ys) ≡ first_of (xs ++ zs)
unfolding first_of
first_of_tail [] ys zs e = e
first_of_tail (x ∷ xs) ys zs e = ap (λ (a : ℕ). cond (eqb x 0) a x) (first_of_tail xs ys zs e)

pub frame_refusal_there :
    (s : Settings) (run m k : ℕ) (a b : Bool) (bs : List ℕ) → (InTime m (round_in bs) → a ≡ b) → frame_refusal s run m k a bs ≡ frame_refusal s run m k b bs
unfolding frame_refusal
frame_refusal_there s run m k a b bs h =
    first_of_tail (short_refusal bs ∷ command_refusal bs ∷ length_refusal s bs ∷ sender_refusal k bs ∷ run_refusal run bs ∷ []) _ _ (go (eqb fourteen 0) refl)
  where
    fourteen : ℕ
    fourteen = other_round_refusal m (round_in bs)

    go : (q : Bool) → eqb fourteen 0 ≡ q → first_of (fourteen ∷ repeated_refusal a ∷ []) ≡ first_of (fourteen ∷ repeated_refusal b ∷ [])
    go true e = ap (λ (t : Bool). first_of (fourteen ∷ repeated_refusal t ∷ [])) (h (in_time_of m (round_in bs) (eqb-true _ _ e)))
    go false e = first_of_here _ refl (eqb-false _ _ e) ∙ sym (first_of_here _ refl (eqb-false _ _ e))

-- a frame that is taken
pub record Taken (r : Rec) (k : ℕ) (bs : List ℕ) : Type 0 where
  pub fine : settings_refusal r.who.settings ≡ 0
  pub low : 1 ≤ k
  pub high : k ≤ r.who.settings.n
  pub fits : Fits r.who.settings r.who.run (round_in bs) k bs
  pub due : InTime r.round (round_in bs)

pub taken_of : (r : Rec) (k : ℕ) (bs : List ℕ) → take_refusal r k bs ≡ 0 → Taken r k bs
unfolding take_refusal
taken_of r k bs e =
    let record_line = first_of_zero _ _ e in
    let round_line = first_of_zero _ _ record_line.1 in
    let slot_line = first_of_zero _ _ round_line.1 in
    let frame_line = first_of_zero _ _ slot_line.1 in
    let range = slot_inside _ _ k slot_line.0 in
    record {
      fine = record_settings r.who record_line.0;
      low = range.0;
      high = range.1;
      fits = (frame_fits _ _ _ _ _ bs frame_line.0).0;
      due = (frame_fits _ _ _ _ _ bs frame_line.0).1;
    }

-- and one that fits, in another's slot and in time, is turned down only if one of its round is there
pub take_refusal_last :
    (r : Rec) (p k : ℕ) (bs : List ℕ) → record_refusal r.who ≡ 0 → 1 ≤ r.round → r.round ≤ 3 → 1 ≤ k → k ≤ r.who.settings.n →
    (k ≡ r.who.number → ⊥) → 1 ≤ p → InTime r.round p → Fits r.who.settings r.who.run p k bs →
    take_refusal r k bs ≡ repeated_refusal (is_taken (frame_at r p k))
unfolding take_refusal round_refusal slot_refusal
take_refusal_last r p k bs fine low high k-low k-high other p-low due f =
    first_of_next _ fine
    (first_of_next _ (line_passed 7 _ (inside 1 _ _ low high))
    (first_of_next _ (line_passed 8 _ (ap₂ ◌||◌ (inside 1 _ _ k-low k-high) (ne_eqb _ _ other)))
    (first_of_last _ ∙ fitting_refusal _ _ _ _ _ _ bs p-low due f ∙ ap (λ (q : ℕ). repeated_refusal (is_taken (frame_at r q k))) f.round)))

-- taking: the lines before the frame's own, then those
pub take_lines :
    (r : Rec) (k : ℕ) (bs : List ℕ) →
    take_refusal r k bs
    ≡ first_of
    (first_of (record_refusal r.who ∷ round_refusal r.round ∷ slot_refusal r.who.settings.n r.who.number k ∷ [])
    ∷ frame_refusal r.who.settings r.who.run r.round k (is_taken (frame_at r (round_in bs) k)) bs ∷ [])
unfolding take_refusal
take_lines r k bs = sym (first_of_group (record_refusal r.who ∷ round_refusal r.round ∷ slot_refusal r.who.settings.n r.who.number k ∷ []) _)
