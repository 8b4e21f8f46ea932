-- A group has one run. A round's frame is one, since a vector has one list of check values; so the good columns hear the same, and a list
-- of calls leads a proper record to one record. Round by round the records of two runs are the same, and so are their listings.
-- Assumes nothing.
use mathlib.Core.Path.{◌≡◌, refl, sym, ◌∙◌, ap, ap₂, subst}
use mathlib.Core.Bool.{Bool, true, false, cond}
use mathlib.Core.List.{List, [], ◌++◌}
use mathlib.Core.Option.{Option, none, some}
use Prim.Native.Nat.{ℕ, zero, suc, ◌≤◌}
use native.Mathlib.Omega.{arith}
use lib.Dec.{eqb}
use Rattle.code.specs.Settings.{Settings, settings_refusal}
use Rattle.grading.specs.Value.{Value}
use Rattle.record.specs.Record.{Rec, opened}
use Rattle.record.specs.Refusal.{open_refusal}
use Rattle.column.specs.Call.{Call, Run, Passes, here, later, FrameOf}
use Rattle.record.proofs.Refusal.{Opens, opens_of}
use Rattle.column.proofs.Outcome.{frame_unique}
use Rattle.gradecast.proofs.Proper.{proper_open}
use Rattle.gradecast.proofs.Walk.{run_passes, to_last}
use Rattle.bench_file.specs.Scenario.{Scenario, own_of, is_good, message_of}
use Rattle.bench.specs.Group.{bench_run, framed, heard_in, taking_first, calls_from, round_calls, GroupRun}
use Rattle.bench.specs.Listing.{group_line, listing}
use Rattle.bench.specs.Promise.{OneListing}
use Rattle.bench.proofs.Listing.Wording.{lines_same}
use Rattle.bench.proofs.Running.Exchanged.{InRound, next_round_of, good_own}

-- a run's last record
passes_none : {r z : Rec} {cs rest : List Call} → Passes r cs z rest → cs ≡ [] → z ≡ r
passes_none (here r cs) e = refl
passes_none (later r q z c cs rest l p) e = absurd (let x : ◌≡◌ {A = ℕ} 0 1 = cc in omega arith)

run_unique :
    (s : Settings) (k : ℕ) (v : Value) → Opens s k v → (m : ℕ) (r q z : Rec) (cs : List Call) → InRound s k v m r → Run r cs q → Run r cs z → q ≡ z
run_unique s k v o m r q z cs p x y = sym (passes_none (to_last s k bench_run v o p.proper y (run_passes x)) refl)

opened_round : (s : Settings) (k : ℕ) (v : Value) → Opens s k v → InRound s k v 1 (opened s k bench_run v)
unfolding opened
opened_round s k v o = record { proper = proper_open s k bench_run v o; round = refl }

-- the same frames of good columns make the same calls
heard_alike :
    (f : Scenario) (frames sent : ℕ → List ℕ) (m l k : ℕ) → (is_good f k ≡ true → frames k ≡ sent k) → heard_in f frames m l k ≡ heard_in f sent m l k
unfolding heard_in
heard_alike f frames sent m l k h = go (eqb k l) (is_good f k) refl
  where
    go :
        (p q : Bool) → is_good f k ≡ q →
        cond p none (cond q (some (frames k)) (framed m k (message_of f.messages m k l))) ≡ cond p none (cond q (some (sent k)) (framed m k (message_of f.messages m k l)))
    go true q e = refl
    go false true e = ap some (h e)
    go false false e = refl

calls_alike :
    (heard others : ℕ → Option (List ℕ)) (many k : ℕ) → ((j : ℕ) → heard j ≡ others j) → calls_from heard many k ≡ calls_from others many k
unfolding calls_from
calls_alike heard others zero k h = refl
calls_alike heard others (suc n) k h = ap₂ (taking_first k) (h k) (calls_alike heard others n (suc k) h)

module _ (f : Scenario) (opens : (k : ℕ) (v : Value) → own_of f.owns k ≡ some v → open_refusal f.settings k v ≡ 0) where
  -- every record of a run is in its round
  pub in_round :
      (records : ℕ → ℕ → Rec) (frames : ℕ → ℕ → List ℕ) → GroupRun f records frames → (k : ℕ) (v : Value) → own_of f.owns k ≡ some v →
      is_good f k ≡ true → (m : ℕ) → 1 ≤ m → m ≤ 4 → InRound f.settings k v m (records m k)
  unfolding round_calls
  in_round records frames run k v e good zero l h = absurd (omega arith)
  in_round records frames run k v e good (suc zero) l h =
      rw (run.opens k v e) (opened_round f.settings k v (opens_of f.settings k v (opens k v e)))
  in_round records frames run k v e good (suc (suc j)) l h =
      next_round_of f.settings k v (opens_of f.settings k v (opens k v e)) _ _ 1 (suc j) _ _ (omega arith) (omega arith)
      (in_round records frames run k v e good (suc j) (omega arith) (omega arith)) (run.rounds (suc j) k (omega arith) (omega arith) good)

  module _ (records others : ℕ → ℕ → Rec) (frames sent : ℕ → ℕ → List ℕ) (one : GroupRun f records frames) (two : GroupRun f others sent) where
    same_records : (m : ℕ) → 1 ≤ m → m ≤ 4 → (k : ℕ) → is_good f k ≡ true → records m k ≡ others m k
    unfolding round_calls
    same_records zero l h k good = absurd (omega arith)
    same_records (suc zero) l h k good = let v = good_own f k good in one.opens k v.0 v.1 ∙ sym (two.opens k v.0 v.1)
    same_records (suc (suc j)) l h k good =
        next (same_records (suc j) (omega arith) (omega arith)) k good
      where
        next : ((i : ℕ) → is_good f i ≡ true → records (suc j) i ≡ others (suc j) i) → (i : ℕ) → is_good f i ≡ true → records (suc (suc j)) i ≡ others (suc (suc j)) i
        next before i well =
            let m = suc j in
            let v = good_own f i well in
            let o = opens_of f.settings i v.0 (opens i v.0 v.1) in
            let p = in_round records frames one i v.0 v.1 well m (omega arith) (omega arith) in
            let calls =
            calls_alike (heard_in f (frames m) m i) (heard_in f (sent m) m i) f.settings.n 1
            (λ x. heard_alike f (frames m) (sent m) m i x (λ fine. frames_same x fine)) in
            run_unique f.settings i v.0 o m (records m i) _ _ _ p (one.rounds m i (omega arith) (omega arith) well)
            (subst (λ (cs : List Call). Run (records m i) cs (others (suc m) i)) (sym calls)
            (subst (λ (r : Rec). Run r (calls_from (heard_in f (sent m) m i) f.settings.n 1) (others (suc m) i)) (sym (before i well))
            (two.rounds m i (omega arith) (omega arith) well)))
          where
            frames_same : (x : ℕ) → is_good f x ≡ true → frames (suc j) x ≡ sent (suc j) x
            frames_same x fine =
                let v = good_own f x fine in
                let o = opens_of f.settings x v.0 (opens x v.0 v.1) in
                let p = in_round records frames one x v.0 v.1 fine (suc j) (omega arith) (omega arith) in
                frame_unique (records (suc j) x) _ _ (ap settings_refusal p.proper.settings ∙ o.fine) (one.sends (suc j) x (omega arith) (omega arith) fine)
                (subst (λ (r : Rec). FrameOf r (sent (suc j) x)) (sym (before x fine)) (two.sends (suc j) x (omega arith) (omega arith) fine))

pub one_listing : OneListing
unfolding OneListing listing
one_listing f records others frames sent opens one two =
    ap (◌++◌ (group_line f.settings))
    (lines_same f (λ k. (records 4 k).found.held) (λ k. (others 4 k).found.held) f.settings.n 1
    (λ j good. ap (λ (r : Rec). r.found.held) (same_records f opens records others frames sent one two 4 (omega arith) (omega arith) j good)))
