-- Frames among good columns. What one sends in a round stands with every other when that one closes the round: it was handed in time, in
-- that round or in the one before, and can only have been turned down because a frame of that round was there. And whatever stands there
-- was taken with that run number under that slot, so it is a frame of the sender's, of that round by its command. Assumes nothing.
use mathlib.Core.Path.{◌≡◌, refl, sym, ◌∙◌, ap, subst}
use mathlib.Core.Bool.{Bool, true, false, cond}
use mathlib.Core.List.{List, [], ◌∷◌}
use mathlib.Core.Logic.{◌⊎◌, inl, inr}
use mathlib.Core.Option.{Option, none, some}
use Prim.Native.Nat.{ℕ, ◌≤◌}
use native.Mathlib.Omega.{arith}
use lib.Dec.{eqb}
use lib.ListN.{length}
use borrow.Author.Tests.{eqb-true, eqb-false}
use Rattle.arrays.proofs.Bool.{true_not_false}
use Rattle.code.specs.Settings.{Settings, settings_refusal}
use Rattle.code.proofs.ValidSettings.{sizes}
use Rattle.grading.specs.Value.{Value}
use Rattle.record.specs.Frame.{round_in, operand_in}
use Rattle.record.specs.Record.{Rec, no_frames, opened, taken_at, is_taken, frames_of, frame_at, InTime, counted, with_frame}
use Rattle.record.specs.Refusal.{line, repeated_refusal, take_refusal}
use Rattle.column.specs.Call.{Call, taking, closing, after_take, Leads, Passes, later, Operand}
use Rattle.gradecast.specs.Promise.{Among, Good, numbers, On, RoundFrame, Handed, Conditions}
use Rattle.gradecast.proofs.Goods.{among_unique, by_number, numbers_length}
use Rattle.grading.specs.Promise.{Numbered}
use Rattle.record.proofs.Refusal.{Opens, opens_of}
use Rattle.record.proofs.InTime.{in_time_low}
use Rattle.record.proofs.FrameRefusal.{Fits, frame_four, taken_of, take_refusal_last}
use Rattle.record.proofs.There.{nothing_in, frames_many, frame_here, frame_now}
use Rattle.column.proofs.Frame.{frame_operand, frame_round, frame_fits_its_round, fits_alike, after_take_taken}
use Rattle.column.proofs.Step.{after_take_refused}
use Rattle.gradecast.proofs.Proper.{Proper, none_there, proper_open, proper_fine, leads_unique}
use Rattle.gradecast.proofs.Walk.{kept, frame_alike, run_passes, taken_passes, Closing, Came, StoodOrCame, came_of, proper_passes, one_way, to_last}

-- good columns as demand 3 supposes them, with settings that are not turned down, as an opening of one of them shows
pub record Group (s : Settings) (run : ℕ) (gs : List Good) : Type 0 where
  pub fine : settings_refusal s ≡ 0
  pub conditions : Conditions s run gs

pub group_of : {s : Settings} {run : ℕ} {gs : List Good} → Conditions s run gs → (a : Good) → Among a gs → Group s run gs
group_of c a i = record { fine = (opens_of _ _ _ (c.ran a i).opens).fine; conditions = c }

-- a sender's frame of a round, as it stands in another's record
pub record Got (s : Settings) (run : ℕ) (b : Good) (c : Rec) (m : ℕ) : Type 0 where
  pub x : List ℕ
  pub z : Rec
  pub more : List Call
  pub on : On s run b z more
  pub in_round : z.round ≡ m
  pub stands : counted c b.number ≡ some x
  pub operand : Operand m z.who z.found x

-- a frame handed in its own round comes in time: so what was promised where every frame is handed in its round follows
pub handed_in_round :
    {s : Settings} {run : ℕ} {reader sender : Good} {bytes : List ℕ} (round : ℕ) (h : Handed s run reader sender bytes) → h.at.round ≡ round →
    (i : Handed s run reader sender bytes) × InTime i.at.round round
handed_in_round round h e = (h, inl (sym e))

taking_first :
    {r z : Rec} {k : ℕ} {bs : List ℕ} {rest left : List Call} → Passes r (taking k bs ∷ rest) z (closing ∷ left) →
    (q : Rec) × Leads (taking k bs) r q × Passes q rest z (closing ∷ left)
taking_first (later r q z c cs rest l p) = (q, l, p)

closing_first :
    {r z : Rec} {k : ℕ} {bs : List ℕ} {rest left : List Call} → Passes r (closing ∷ left) z (taking k bs ∷ rest) →
    (q : Rec) × Leads closing r q × Passes q left z (taking k bs ∷ rest)
closing_first (later r q z c cs rest l p) = (q, l, p)

taken_some : (f : Option (List ℕ)) → is_taken f ≡ true → (x : List ℕ) × (f ≡ some x)
unfolding is_taken
taken_some none e = true_not_false (sym e)
taken_some (some x) e = (x, refl)

some_taken : (x : List ℕ) → is_taken (some x) ≡ true
unfolding is_taken
some_taken x = refl

-- an opened record has no frame
none_opened : (s : Settings) (k run : ℕ) (v : Value) (m j : ℕ) (x : List ℕ) → frame_at (opened s k run v) m j ≡ some x → ⊥
unfolding frame_at frames_of opened
none_opened s k run v m j x e = go (eqb m 1) (eqb m 2) e
  where
    go : (a b : Bool) → taken_at (cond a (no_frames s) (cond b (no_frames s) [])) j ≡ some x → ⊥
    go true b e = none_there s _ j x refl e
    go false true e = none_there s _ j x refl e
    go false false e = let z : ◌≡◌ {A = ℕ} 0 1 = cc (nothing_in j) in omega arith

-- after a frame that can be turned down for one reason only, a frame of its round is there
taken_after :
    (r : Rec) (p k : ℕ) (bs : List ℕ) → InTime r.round p → round_in bs ≡ p → 1 ≤ k → k ≤ length (frames_of r p) →
    take_refusal r k bs ≡ repeated_refusal (is_taken (frame_at r p k)) → is_taken (frame_at (after_take r k bs) p k) ≡ true
unfolding repeated_refusal line
taken_after r p k bs due its low high e = go (is_taken (frame_at r p k)) refl
  where
    go : (t : Bool) → is_taken (frame_at r p k) ≡ t → is_taken (frame_at (after_take r k bs) p k) ≡ true
    go true f =
        let fifteen : take_refusal r k bs ≡ 15 = rw f at e in
        let u = after_take_refused r k bs (λ z. absurd (omega arith)) in
        ap is_taken (frame_alike r (after_take r k bs) p k u.round u.frames u.early) ∙ f
    go false f =
        ap (λ (q : Rec). is_taken (frame_at q p k)) (after_take_taken r k bs (rw f at e) ∙ ap (λ (m : ℕ). with_frame r m k (operand_in bs)) its)
        ∙ ap is_taken (frame_here r p k (operand_in bs) due low high) ∙ some_taken (operand_in bs)

module _ {s : Settings} {run : ℕ} {gs : List Good} (group : Group s run gs) where
  pub opens : (a : Good) → Among a gs → Opens s a.number a.own
  opens a i = opens_of s a.number a.own (group.conditions.ran a i).opens

  pub numbered : Numbered s (numbers gs)
  numbered =
      record {
        different = group.conditions.different;
        inside = by_number (λ m. (1 ≤ m) × (m ≤ s.n)) gs (λ a i. ((opens a i).low, (opens a i).high));
        many = omega (arith, group.conditions.enough, numbers_length gs);
        enough = (sizes s group.fine).few_bad;
      }

  -- one column or two
  pub one_or_two : {C : Type 0} (a b : Good) → Among a gs → Among b gs → (a ≡ b → C) → ((a.number ≡ b.number → ⊥) → C) → C
  one_or_two {C} a b i j f g = go (eqb a.number b.number) refl
    where
      go : (q : Bool) → eqb a.number b.number ≡ q → C
      go true e = f (among_unique group.conditions.different i j (eqb-true _ _ e))
      go false e = g (eqb-false _ _ e)

  pub proper : {z : Rec} {rest : List Call} (a : Good) → Among a gs → On s run a z rest → Proper s a.number run a.own z
  proper a i p = proper_passes s a.number run a.own (opens a i) (proper_open s a.number run a.own (opens a i)) p

  pub onward : {z : Rec} {rest : List Call} (a : Good) → Among a gs → On s run a z rest → Passes z rest a.last []
  onward a i p = to_last s a.number run a.own (opens a i) (proper_open s a.number run a.own (opens a i)) (group.conditions.ran a i).leads p

  pub last_on : (a : Good) → Among a gs → On s run a a.last []
  last_on a i = run_passes (group.conditions.ran a i).leads

  -- every frame that counts in a record was taken
  came : {z : Rec} {rest : List Call} (a : Good) → Among a gs → On s run a z rest → (k : ℕ) (x : List ℕ) → taken_at z.frames k ≡ some x →
      Came (opened s a.number run a.own) a.calls k z.round x
  came {z} a i p k x e = go (came_of k z.round x p (omega arith) (frame_now z k ∙ e))
    where
      go : StoodOrCame (opened s a.number run a.own) a.calls k z.round x → Came (opened s a.number run a.own) a.calls k z.round x
      go (inl y) = absurd (none_opened s a.number run a.own z.round k x y)
      go (inr y) = y

  module _ (a b : Good) (i : Among a gs) (j : Among b gs) (d : a.number ≡ b.number → ⊥) (m : ℕ) {z : Rec} {rest : List Call}
      (x : Closing (opened s a.number run a.own) z a.calls rest m) where
    -- a frame handed in time stands there when its round is closed
    handed_stands : (bs : List ℕ) → RoundFrame s run b m bs → (h : Handed s run a b bs) → InTime h.at.round m → is_taken (taken_at x.before.frames b.number) ≡ true
    unfolding Leads
    handed_stands bs f h due =
        go (one_way s a.number run a.own (opens a i) (proper_open s a.number run a.own (opens a i)) h.on x.to)
      where
        r : Rec
        r = h.at

        pr : Proper s a.number run a.own r
        pr = proper a i h.on

        inside : (1 ≤ m) × (m ≤ 3)
        inside = let q = frame_round f.at bs f.frame in (omega (arith, f.in_round), omega (arith, f.in_round))

        fits : Fits r.who.settings r.who.run m b.number bs
        fits =
            let q = proper b j f.on in
            fits_alike (q.settings ∙ sym pr.settings) (q.runs ∙ sym pr.runs) f.in_round q.number (frame_fits_its_round f.at bs f.frame)

        known : take_refusal r b.number bs ≡ repeated_refusal (is_taken (frame_at r m b.number))
        known =
            take_refusal_last r m b.number bs (proper_fine s a.number run a.own (opens a i) r pr) pr.low
            (omega (arith, inside.1, in_time_low due)) (opens b j).low (rw pr.settings (opens b j).high) (λ e. d (sym pr.number ∙ sym e)) inside.0 due fits

        go : Passes r (taking b.number bs ∷ h.rest) x.before (closing ∷ x.left)
            ⊎ Passes x.before (closing ∷ x.left) r (taking b.number bs ∷ h.rest) → is_taken (taken_at x.before.frames b.number) ≡ true
        go (inl u) =
            let t = taking_first u in
            let there =
            taken_passes m b.number t.2 (omega (arith, x.in_round))
            (rw t.1 (taken_after r m b.number bs due fits.round (opens b j).low (rw (frames_many r m due pr.slots pr.early_slots) (opens b j).high) known)) in
            ap is_taken (sym (frame_now x.before b.number) ∙ ap (λ (q : ℕ). frame_at x.before q b.number) x.in_round) ∙ there
        go (inr u) =
            let t = closing_first u in
            let same = leads_unique s a.number run a.own (opens a i) closing x.before t.0 x.after (proper a i x.to) t.1 x.leads in
            absurd (omega (arith, (kept t.2).up, in_time_low due, x.in_round, x.way.round, ap (λ (q : Rec). q.round) same))

    -- whatever stands there then is a frame of the sender's, of that round
    stands_got : (y : List ℕ) → taken_at x.before.frames b.number ≡ some y → Got s run b x.before m
    unfolding counted
    stands_got y e =
        record {
          x = y;
          z = frame.at;
          more = frame.rest;
          on = frame.on;
          in_round = its_round;
          stands = e;
          operand =
              subst (Operand m frame.at.who frame.at.found) (sym way.operand)
              (subst (λ (n : ℕ). Operand n frame.at.who frame.at.found (operand_in way.bytes)) its_round (frame_operand frame.at way.bytes frame.frame));
        }
      where
        way : Came (opened s a.number run a.own) a.calls b.number x.before.round y
        way = came a i x.to b.number y e

        fits : Fits way.at.who.settings way.at.who.run (round_in way.bytes) b.number way.bytes
        fits = (taken_of way.at b.number way.bytes way.not_refused).fits

        sent : (m : ℕ) × RoundFrame s run b m way.bytes
        sent =
            (group.conditions.fair a b i j d).only way.bytes (record { at = way.at; rest = way.left; on = way.to })
            (omega (arith, fits.size, frame_four way.at.who.settings (round_in way.bytes))) (fits.same_run ∙ (proper a i way.to).runs)

        frame : RoundFrame s run b sent.0 way.bytes
        frame = sent.1

        its_round : frame.at.round ≡ m
        its_round = sym (frame_fits_its_round frame.at way.bytes frame.frame).round ∙ way.of_round ∙ x.in_round

    pub got : 1 ≤ m → m ≤ 3 → Got s run b x.before m
    got low high =
        let sent = (group.conditions.fair a b i j d).sends m low high in
        let there = taken_some _ (handed_stands sent.0 sent.1 sent.2.0 sent.2.1) in
        stands_got there.0 there.1
