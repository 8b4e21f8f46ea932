-- Along a list of calls. Rounds only go up; V, Y and the result stay once they are made; a frame taken stays to the end of its round.
-- A round that is past was closed somewhere, and a frame that stands in a slot was taken there in this round. Two records of one list
-- lie on one way, since every call leaves one record behind. Each by induction on the list. Assumes nothing.
use mathlib.Core.Path.{◌≡◌, refl, sym, ◌∙◌, ap, subst}
use mathlib.Core.Bool.{Bool, true, false}
use mathlib.Core.List.{List, [], ◌∷◌}
use mathlib.Core.Logic.{◌⊎◌, inl, inr}
use mathlib.Core.Option.{some}
use Prim.Native.Nat.{ℕ, suc, ◌<◌, ◌≤◌}
use native.Mathlib.Nat.{eq-or-lt_of_le}
use native.Mathlib.Omega.{arith}
use lib.Dec.{eqb}
use borrow.Author.Tests.{eqb-true, ne_eqb}
use Rattle.code.specs.Settings.{Settings}
use Rattle.grading.specs.Value.{Value}
use Rattle.record.specs.Frame.{round_in, operand_in}
use Rattle.record.specs.Record.{Found, Rec, is_taken, frames_of, frame_at, with_frame}
use Rattle.record.specs.Refusal.{take_refusal}
use Rattle.column.specs.Call.{Call, taking, closing, Leads, Run, no_call, one_call, Passes, here, later}
use Rattle.record.proofs.Refusal.{Opens}
use Rattle.record.proofs.FrameRefusal.{taken_of}
use Rattle.record.proofs.There.{nothing_in, none_taken, frame_cases, frame_stays}
use Rattle.column.proofs.Step.{Closes, Step, stays, takes, closes, step_of}
use Rattle.gradecast.proofs.Proper.{Proper, proper_step, leads_unique}

-- what stays
pub record Kept (r q : Rec) : Type 0 where
  pub up : r.round ≤ q.round
  pub heard : 2 ≤ r.round → q.found.heard ≡ r.found.heard
  pub agreed : 3 ≤ r.round → q.found.agreed ≡ r.found.agreed
  pub held : 4 ≤ r.round → q.found.held ≡ r.found.held
  pub two : 3 ≤ r.round → q.found.told_two ≡ r.found.told_two
  pub three : 4 ≤ r.round → q.found.told_three ≡ r.found.told_three

kept_found : (r q : Rec) → r.round ≤ q.round → q.found ≡ r.found → Kept r q
kept_found r q up e =
    record {
      up = up;
      heard = λ h. ap (λ (f : Found). f.heard) e;
      agreed = λ h. ap (λ (f : Found). f.agreed) e;
      held = λ h. ap (λ (f : Found). f.held) e;
      two = λ h. ap (λ (f : Found). f.told_two) e;
      three = λ h. ap (λ (f : Found). f.told_three) e;
    }

kept_self : (r : Rec) → Kept r r
kept_self r = kept_found r r (omega arith) refl

kept_join : (r q z : Rec) → Kept r q → Kept q z → Kept r z
kept_join r q z a b =
    record {
      up = omega (arith, a.up, b.up);
      heard = λ h. b.heard (omega (arith, a.up)) ∙ a.heard h;
      agreed = λ h. b.agreed (omega (arith, a.up)) ∙ a.agreed h;
      held = λ h. b.held (omega (arith, a.up)) ∙ a.held h;
      two = λ h. b.two (omega (arith, a.up)) ∙ a.two h;
      three = λ h. b.three (omega (arith, a.up)) ∙ a.three h;
    }

kept_frame : (r : Rec) (p k : ℕ) (x : List ℕ) → Kept r (with_frame r p k x)
unfolding with_frame
kept_frame r p k x = kept_found r (with_frame r p k x) (omega arith) refl

pub kept_step : (r q : Rec) (c : Call) → Step r q c → Kept r q
kept_step r q c (stays d u) = kept_found r q (omega (arith, u.round)) u.found
kept_step r q c (takes j bs e g) = subst (Kept r) (sym g) (kept_frame r (round_in bs) j (operand_in bs))
kept_step r q c (closes x) =
    record {
      up = omega (arith, x.round);
      heard = x.heard_kept;
      agreed = x.agreed_kept;
      held = λ h. absurd (omega (arith, x.high));
      two = x.two_kept;
      three = λ h. absurd (omega (arith, x.high));
    }

pub kept : {r z : Rec} {cs rest : List Call} → Passes r cs z rest → Kept r z
kept (here r cs) = kept_self r
kept (later r q z c cs rest l p) = kept_join r q z (kept_step r q c (step_of c r q l)) (kept p)

pub run_passes : {r z : Rec} {cs : List Call} → Run r cs z → Passes r cs z []
run_passes (no_call r) = here r []
run_passes (one_call r q z c cs l p) = later r q z c cs [] l (run_passes p)

-- a call that does not close keeps what is there, and a closing what is there of later rounds
pub frame_alike : (r q : Rec) (m k : ℕ) → q.round ≡ r.round → q.frames ≡ r.frames → q.early ≡ r.early → frame_at q m k ≡ frame_at r m k
unfolding frame_at frames_of
frame_alike r q m k e f g = rw (e, f, g) refl

pub frame_closed : (r q : Rec) (m k : ℕ) → Closes r q → q.round ≤ m → frame_at q m k ≡ frame_at r m k
unfolding frame_at frames_of
frame_closed r q m k x h = go (eqb m (suc r.round)) (eqb m (suc (suc r.round))) refl refl
  where
    go : (a b : Bool) → eqb m (suc r.round) ≡ a → eqb m (suc (suc r.round)) ≡ b → frame_at q m k ≡ frame_at r m k
    go true b f g =
        rw (x.round, x.frames, f, ne_eqb m r.round (λ e. absurd (omega (arith, eqb-true m (suc r.round) f)))) refl
    go false true f g =
        rw (x.round, x.early, f, g, ne_eqb m r.round (λ e. absurd (omega (arith, eqb-true m (suc (suc r.round)) g)))) (none_taken r.who.settings k ∙ sym (nothing_in k))
    go false false f g =
        rw (x.round, f, g, ne_eqb m r.round (λ e. absurd (omega (arith, x.round)))) refl

-- a frame that is there stays to the end of its round
taken_step :
    (r q : Rec) (c : Call) (m k : ℕ) → Step r q c → q.round ≤ m → is_taken (frame_at r m k) ≡ true → is_taken (frame_at q m k) ≡ true
taken_step r q c m k (stays d u) e h = rw (frame_alike r q m k u.round u.frames u.early) h
taken_step r q c m k (takes j bs f g) e h = rw g (frame_stays r (round_in bs) m k j (operand_in bs) h)
taken_step r q c m k (closes x) e h = rw (frame_closed r q m k x e) h

pub taken_passes :
    {r z : Rec} {cs rest : List Call} (m k : ℕ) → Passes r cs z rest → z.round ≤ m → is_taken (frame_at r m k) ≡ true → is_taken (frame_at z m k) ≡ true
taken_passes m k (here r cs) e h = h
taken_passes m k (later r q z c cs rest l p) e h =
    let step = step_of c r q l in taken_passes m k p e (taken_step r q c m k step (omega (arith, (kept p).up)) h)

-- where a round that is past was closed
pub record Closing (r z : Rec) (cs rest : List Call) (m : ℕ) : Type 0 where
  pub before : Rec
  pub after : Rec
  pub left : List Call
  pub to : Passes r cs before (closing ∷ left)
  pub in_round : before.round ≡ m
  pub way : Closes before after
  pub leads : Leads closing before after
  pub from : Passes after left z rest

closing_later : (r q z : Rec) (c : Call) (cs rest : List Call) (m : ℕ) → Leads c r q → Closing q z cs rest m → Closing r z (c ∷ cs) rest m
closing_later r q z c cs rest m l x =
    record {
      before = x.before;
      after = x.after;
      left = x.left;
      to = later r q x.before c cs (closing ∷ x.left) l x.to;
      in_round = x.in_round;
      way = x.way;
      leads = x.leads;
      from = x.from;
    }

closing_step :
    (r q z : Rec) (c : Call) (cs rest : List Call) (m : ℕ) → Leads c r q → Step r q c → Passes q cs z rest → r.round ≤ m →
    (q.round ≤ m → Closing q z cs rest m) → Closing r z (c ∷ cs) rest m
unfolding with_frame
closing_step r q z c cs rest m l (stays d u) p a h = closing_later r q z c cs rest m l (h (omega (arith, u.round)))
closing_step r q z c cs rest m l (takes j bs e g) p a h = closing_later r q z (taking j bs) cs rest m l (h (omega (arith, ap (λ (y : Rec). y.round) g)))
closing_step r q z c cs rest m l (closes x) p a h = go (eq-or-lt_of_le a)
  where
    go : (r.round ≡ m) ⊎ (r.round < m) → Closing r z (closing ∷ cs) rest m
    go (inl e) = record { before = r; after = q; left = cs; to = here r (closing ∷ cs); in_round = e; way = x; leads = l; from = p }
    go (inr e) = closing_later r q z closing cs rest m l (h (omega (arith, x.round)))

pub closing_of : {r z : Rec} {cs rest : List Call} (m : ℕ) → Passes r cs z rest → r.round ≤ m → m < z.round → Closing r z cs rest m
closing_of m (here r cs) a b = absurd (omega arith)
closing_of m (later r q z c cs rest l p) a b = closing_step r q z c cs rest m l (step_of c r q l) p a (λ h. closing_of m p h b)

-- where a frame of round m that is there was taken
pub record Came (r : Rec) (cs : List Call) (k m : ℕ) (x : List ℕ) : Type 0 where
  pub at : Rec
  pub bytes : List ℕ
  pub left : List Call
  pub to : Passes r cs at (taking k bytes ∷ left)
  pub of_round : round_in bytes ≡ m
  pub not_refused : take_refusal at k bytes ≡ 0
  pub operand : x ≡ operand_in bytes

came_later : (r q : Rec) (c : Call) (cs : List Call) (k m : ℕ) (x : List ℕ) → Leads c r q → Came q cs k m x → Came r (c ∷ cs) k m x
came_later r q c cs k m x l y =
    record {
      at = y.at;
      bytes = y.bytes;
      left = y.left;
      to = later r q y.at c cs (taking k y.bytes ∷ y.left) l y.to;
      of_round = y.of_round;
      not_refused = y.not_refused;
      operand = y.operand;
    }

-- a frame that was there already, or was taken on the way
abbrev pub StoodOrCame : (r : Rec) (cs : List Call) (k m : ℕ) (x : List ℕ) → Type 0
StoodOrCame r cs k m x = (frame_at r m k ≡ some x) ⊎ Came r cs k m x

came_step :
    (r q : Rec) (c : Call) (cs : List Call) (k m : ℕ) (x : List ℕ) → Step r q c → q.round ≤ m → frame_at q m k ≡ some x → StoodOrCame r (c ∷ cs) k m x
came_step r q c cs k m x (stays d u) h e = inl (sym (frame_alike r q m k u.round u.frames u.early) ∙ e)
came_step r q c cs k m x (closes y) h e = inl (sym (frame_closed r q m k y h) ∙ e)
came_step r q c cs k m x (takes j bs f g) h e =
    go (frame_cases r (round_in bs) m k j x (operand_in bs) (taken_of r j bs f).due (taken_of r j bs f).low (sym (ap (λ (y : Rec). frame_at y m k) g) ∙ e))
  where
    go : ((m ≡ round_in bs) × (k ≡ j) × (x ≡ operand_in bs)) ⊎ (frame_at r m k ≡ some x) → StoodOrCame r (taking j bs ∷ cs) k m x
    go (inl t) =
        inr
        (rw t.1
        (record { at = r; bytes = bs; left = cs; to = here r (taking j bs ∷ cs); of_round = sym t.0; not_refused = f; operand = t.2 }))
    go (inr t) = inl t

pub came_of :
    {r z : Rec} {cs rest : List Call} (k m : ℕ) (x : List ℕ) → Passes r cs z rest → z.round ≤ m → frame_at z m k ≡ some x → StoodOrCame r cs k m x
came_of k m x (here r cs) h e = inl e
came_of k m x (later r q z c cs rest l p) h e = go (came_of k m x p h e)
  where
    go : StoodOrCame q cs k m x → StoodOrCame r (c ∷ cs) k m x
    go (inr y) = inr (came_later r q c cs k m x l y)
    go (inl y) = came_step r q c cs k m x (step_of c r q l) (omega (arith, (kept p).up)) y

-- every record of the list is proper, and two of them lie on one way
module _ (s : Settings) (k run : ℕ) (v : Value) (o : Opens s k v) where
  pub proper_passes : {r z : Rec} {cs rest : List Call} → Proper s k run v r → Passes r cs z rest → Proper s k run v z
  proper_passes f (here r cs) = f
  proper_passes f (later r q z c cs rest l p) = proper_passes (proper_step s k run v o c r q f (step_of c r q l)) p

  pub one_way : {r x y : Rec} {cs xs ys : List Call} → Proper s k run v r → Passes r cs x xs → Passes r cs y ys → Passes x xs y ys ⊎ Passes y ys x xs
  one_way f (here r cs) b = inl b
  one_way f (later r q x c cs xs l p) (here t ds) = inr (later r q x c cs xs l p)
  one_way f (later r q x c cs xs l p) (later t u y d ds ys m w) =
      one_way (proper_step s k run v o c r q f (step_of c r q l)) p
      (subst (λ (z : Rec). Passes z cs y ys) (leads_unique s k run v o c r u q f m l) w)

  at_the_end : {z x : Rec} {xs : List Call} → Passes z [] x xs → Passes x xs z []
  at_the_end (here r cs) = here r []

  -- from each of them the way leads on to the last
  pub to_last : {r x z : Rec} {cs xs : List Call} → Proper s k run v r → Run r cs z → Passes r cs x xs → Passes x xs z []
  to_last {r} {x} {z} {cs} {xs} f all p = go (one_way f p (run_passes all))
    where
      go : Passes x xs z [] ⊎ Passes z [] x xs → Passes x xs z []
      go (inl u) = u
      go (inr u) = at_the_end u
