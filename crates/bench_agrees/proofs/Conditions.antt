-- The run of a group meets the conditions of demand 3. A good column's list of calls is that of its three rounds, one behind the other; it
-- leads from its opening to its last record, and through its record of each round. So its frame of a round is handed to every other good
-- column in that round, and nothing else under its slot. Assumes nothing.
use mathlib.Core.Path.{◌≡◌, refl, sym, ◌∙◌, ap, subst}
use mathlib.Core.Bool.{true}
use mathlib.Core.List.{List, [], ◌++◌}
use mathlib.Core.Option.{Option, none, some}
use Prim.Native.Nat.{ℕ, zero, suc, ◌+◌, ◌-◌, ◌≤◌}
use native.Mathlib.Omega.{arith}
use Rattle.grading.specs.Value.{Value}
use Rattle.record.specs.Record.{Rec, InTime}
use Rattle.record.specs.Refusal.{open_refusal}
use Rattle.column.specs.Call.{Call, here}
use Rattle.record.proofs.Refusal.{Opens, opens_of}
use Rattle.gradecast.specs.Promise.{Good, Ran, On, RoundFrame, Handed, Fair}
use Rattle.gradecast.proofs.Walk.{run_passes}
use Rattle.gradecast.proofs.Handed.{handed_in_round}
use Rattle.bench_file.specs.Scenario.{Scenario, own_of, is_good}
use Rattle.bench.specs.Group.{bench_run, heard_in, round_calls, GroupRun}
use Rattle.bench.proofs.Running.Exchanged.{InRound, good_own}
use Rattle.bench.proofs.Running.Hearing.{heard_good}
use Rattle.bench.proofs.Running.OneRun.{in_round}
use Rattle.bench_agrees.proofs.Calls.{passes_run, passes_join, passes_more, heard_taken, TakesOnly, takes_both, takes_at, takes_heard}

-- the own value that is there
unfoldable pub own_there : Option Value → Value
own_there none = []
own_there (some v) = v

pub same_some : {A : Type 0} {x y : A} → some x ≡ some y → x ≡ y
same_some e = cc

-- the calls of so many rounds from a round on
unfoldable pub rounds_from : Scenario → (frames : ℕ → ℕ → List ℕ) → (column many round : ℕ) → List Call
rounds_from f frames k zero m = []
rounds_from f frames k (suc n) m = round_calls f (frames m) m k ++ rounds_from f frames k n (suc m)

-- a column of a run with its list of calls
unfoldable pub good : Scenario → (records : ℕ → ℕ → Rec) → (frames : ℕ → ℕ → List ℕ) → (column : ℕ) → Good
good f records frames k =
    record { number = k; own = own_there (own_of f.owns k); calls = rounds_from f frames k 3 1; last = records 4 k }

module _
    (f : Scenario) (records : ℕ → ℕ → Rec) (frames : ℕ → ℕ → List ℕ)
    (opens : (k : ℕ) (v : Value) → own_of f.owns k ≡ some v → open_refusal f.settings k v ≡ 0)
    (run : GroupRun f records frames)
  where
    abbrev column : ℕ → Good
    column = good f records frames

    -- its own value
    pub own_is : (k : ℕ) → is_good f k ≡ true → own_of f.owns k ≡ some (column k).own
    unfolding good own_there
    own_is k e = let v = good_own f k e in rw v.1 refl

    pub right : (k : ℕ) → is_good f k ≡ true → Opens f.settings k (column k).own
    right k e = opens_of f.settings k _ (opens k _ (own_is k e))

    pub stands_in : (k : ℕ) → is_good f k ≡ true → (m : ℕ) → 1 ≤ m → m ≤ 4 → InRound f.settings k (column k).own m (records m k)
    stands_in k e m low high = in_round f opens records frames run k _ (own_is k e) e m low high

    -- the records that its list passes through
    reach : (k : ℕ) → is_good f k ≡ true → (m l : ℕ) → m + l ≡ 3 → On f.settings bench_run (column k) (records (suc m) k) (rounds_from f frames k l (suc m))
    unfolding good rounds_from
    reach k e zero l h =
        let all : l ≡ 3 = omega arith in
        rw (all, run.opens k _ (own_is k e)) (here _ _)
    reach k e (suc m) l h =
        passes_join (reach k e m (suc l) (omega arith))
        (passes_more (rounds_from f frames k l (suc (suc m))) (run_passes (run.rounds (suc m) k (omega arith) (omega arith) e)))

    pub ran : (k : ℕ) → is_good f k ≡ true → Ran f.settings bench_run (column k)
    unfolding good rounds_from
    ran k e = record { opens = opens k _ (own_is k e); leads = passes_run (reach k e 3 0 refl) }

    -- a reader l and a sender k
    module _ (l k : ℕ) (reader : is_good f l ≡ true) (sender : is_good f k ≡ true) (two : k ≡ l → ⊥) where
      HandedInTime : (round : ℕ) → List ℕ → Type 0
      HandedInTime m x = (h : Handed f.settings bench_run (column l) (column k) x) × InTime h.at.round m

      handed : (m n : ℕ) → m + suc n ≡ 3 → HandedInTime (suc m) (frames (suc m) k)
      unfolding HandedInTime good rounds_from round_calls
      handed m n h =
          let t =
          heard_taken (heard_in f (frames (suc m)) (suc m) l) k (frames (suc m) k) (heard_good f (frames (suc m)) (suc m) l k two sender) f.settings.n 1 _ _
          (right k sender).low (omega (arith, (right k sender).high)) (run.rounds (suc m) l (omega arith) (omega arith) reader) in
          handed_in_round (suc m)
          (record { at = t.at; rest = _; on = passes_join (reach l reader m (suc n) h) (passes_more (rounds_from f frames l n (suc (suc m))) t.passes) })
          (t.in_round ∙ (stands_in l reader (suc m) (omega arith) (omega arith)).round)

      sent : (m n : ℕ) → m + suc n ≡ 3 → RoundFrame f.settings bench_run (column k) (suc m) (frames (suc m) k)
      sent m n h =
          record {
            at = records (suc m) k;
            rest = _;
            on = reach k sender m (suc n) h;
            in_round = (stands_in k sender (suc m) (omega arith) (omega arith)).round;
            frame = run.sends (suc m) k (omega arith) (omega arith) sender;
          }

      Sent : List ℕ → Type 0
      Sent x = (m : ℕ) × RoundFrame f.settings bench_run (column k) m x

      OnlySent : ℕ → List ℕ → Type 0
      OnlySent j x = j ≡ k → Sent x

      taken_sent : (m n : ℕ) → m + n ≡ 3 → TakesOnly OnlySent (rounds_from f frames l n (suc m))
      unfolding rounds_from round_calls Sent OnlySent
      taken_sent m zero h = tt
      taken_sent m (suc n) h =
          takes_both OnlySent (round_calls f (frames (suc m)) (suc m) l) (rounds_from f frames l n (suc (suc m)))
          (takes_heard OnlySent (heard_in f (frames (suc m)) (suc m) l)
          (λ j x e same.
          subst Sent (same_some (sym (heard_good f (frames (suc m)) (suc m) l k two sender) ∙ ap (heard_in f (frames (suc m)) (suc m) l) (sym same) ∙ e)) (suc m, sent m n h))
          f.settings.n 1)
          (taken_sent (suc m) n (omega arith))

      pub fair : Fair f.settings bench_run (column l) (column k)
      unfolding HandedInTime good Sent OnlySent
      fair = record { sends = sends; only = λ x h long same_run. takes_at OnlySent k x h.on (taken_sent 0 3 refl) refl }
        where
          sends :
              (m : ℕ) → 1 ≤ m → m ≤ 3 →
              (x : List ℕ) × RoundFrame f.settings bench_run (column k) m x × HandedInTime m x
          sends zero low high = absurd (omega arith)
          sends (suc m) low high =
              let three : m + suc (2 - m) ≡ 3 = omega arith in (frames (suc m) k, sent m (2 - m) three, handed m (2 - m) three)
