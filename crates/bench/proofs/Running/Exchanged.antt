-- The run of a group, round by round. A good column's record is proper after its opening and after each round, and is then one round
-- further on, since it can be closed; so its frame is sent in each round and its result is answered at the end. Assumes nothing.
use mathlib.Core.Path.{◌≡◌, refl, sym, ◌∙◌, ap, subst}
use mathlib.Core.Bool.{true}
use mathlib.Core.List.{List, [], ◌∷◌}
use mathlib.Core.Option.{Option, none, some}
use Prim.Native.Nat.{ℕ, zero, suc, ◌-◌, ◌≤◌}
use native.Mathlib.Omega.{arith}
use lib.ListN.{get_or}
use borrow.Author.Tests.{le-leb, le-ltb, eq-eqb}
use Rattle.arrays.proofs.Bool.{true_not_false}
use Rattle.code.specs.Settings.{Settings, settings_refusal}
use Rattle.grading.specs.Value.{Value}
use Rattle.record.specs.Frame.{longest_frame}
use Rattle.record.specs.Record.{Rec, who_as, opened, is_taken, next_round}
use Rattle.record.specs.Refusal.{line, open_refusal, record_refusal, round_refusal, room_refusal, unfinished_refusal, close_refusal, send_refusal, ask_refusal}
use Rattle.column.specs.Call.{Call, taking, closing, AfterClose, Leads, Run, no_call, one_call, FrameOf}
use Rattle.rounds.specs.Exchange.{Closed}
use Rattle.record.specs.View.{settings_of, who_in, view}
use Rattle.record.specs.declared.Column.{Column}
use Rattle.record.proofs.Refusal.{first_of_next, first_of_last, Opens, opens_of}
use Rattle.record.proofs.Size.{frame_fits_slot}
use Rattle.column.proofs.Step.{step_of, after_take_round}
use Rattle.gradecast.proofs.Proper.{Proper, proper_open, proper_fine, proper_step}
use Rattle.bench_file.specs.Scenario.{Scenario, own_of, is_good}
use Rattle.bench.specs.Group.{bench_run, taking_first, calls_from, round_calls}
use Rattle.bench.specs.Steps.Finished.{Finished, record_of, column_past, AllFinished}
use Rattle.bench.specs.Steps.Running.{RoundRun, GroupRan}

-- the first call of a run
pub run_head : {r z : Rec} {ds : List Call} → Run r ds z → (c : Call) (cs : List Call) → ds ≡ c ∷ cs → (q : Rec) × Leads c r q × Run q cs z
run_head (no_call r) c cs e = absurd (let z : ◌≡◌ {A = ℕ} 0 1 = cc in omega arith)
run_head (one_call r q z d ds l p) c cs e =
    let call : d ≡ c = cc in
    let rest : ds ≡ cs = cc in
    (q, subst (λ (x : Call). Leads x r q) call l, subst (λ (xs : List Call). Run q xs z) rest p)

run_none : {r z : Rec} {ds : List Call} → Run r ds z → ds ≡ [] → z ≡ r
run_none (no_call r) e = refl
run_none (one_call r q z d ds l p) e = absurd (let x : ◌≡◌ {A = ℕ} 0 1 = cc in omega arith)

-- calls that are not refused
round_fine : (m : ℕ) → 1 ≤ m → m ≤ 3 → round_refusal m ≡ 0
unfolding round_refusal line
round_fine m low high = rw (le-leb 1 m low, le-leb m 3 high) refl

close_fine : (r : Rec) → record_refusal r.who ≡ 0 → 1 ≤ r.round → r.round ≤ 3 → close_refusal r ≡ 0
unfolding close_refusal
close_fine r fine low high = first_of_next _ fine (first_of_last _ ∙ round_fine r.round low high)

room_fine : (s : Settings) (m : ℕ) → settings_refusal s ≡ 0 → room_refusal s m longest_frame ≡ 0
unfolding room_refusal line
room_fine s m right = rw (le-ltb longest_frame _ (frame_fits_slot s m right)) refl

send_fine : (r : Rec) → record_refusal r.who ≡ 0 → settings_refusal r.who.settings ≡ 0 → 1 ≤ r.round → r.round ≤ 3 → send_refusal r longest_frame ≡ 0
unfolding send_refusal
send_fine r fine right low high =
    first_of_next _ fine (first_of_next _ (round_fine r.round low high) (first_of_last _ ∙ room_fine r.who.settings r.round right))

ask_fine : (r : Rec) → record_refusal r.who ≡ 0 → r.round ≡ 4 → ask_refusal r ≡ 0
unfolding ask_refusal unfinished_refusal line
ask_fine r fine e = first_of_next _ fine (first_of_last _ ∙ simp (eq-eqb r.round 4 e))

closed_round : (m : ℕ) (r q : Rec) → 1 ≤ m → m ≤ 3 → Closed m r q → q.round ≡ suc r.round
unfolding Closed next_round
closed_round zero r q l h c = absurd (omega arith)
closed_round (suc zero) r q l h c = ap (λ (z : Rec). z.round) c
closed_round (suc (suc zero)) r q l h c = ap (λ (z : Rec). z.round) c.3
closed_round (suc (suc (suc zero))) r q l h c = ap (λ (z : Rec). z.round) c.3
closed_round (suc (suc (suc (suc m)))) r q l h c = absurd (omega arith)

-- a good column's record in a round
pub record InRound (s : Settings) (k : ℕ) (v : Value) (m : ℕ) (r : Rec) : Type 0 where
  pub proper : Proper s k bench_run v r
  pub round : r.round ≡ m

module _ (s : Settings) (k : ℕ) (v : Value) (o : Opens s k v) where
  -- one round further on
  pub next_round_of :
      (heard : ℕ → Option (List ℕ)) (many slot m : ℕ) (r q : Rec) → 1 ≤ m → m ≤ 3 → InRound s k v m r → Run r (calls_from heard many slot) q →
      InRound s k v (suc m) q
  unfolding calls_from taking_first AfterClose Leads
  next_round_of heard zero slot m r q low high p run =
      let first = run_head run closing [] refl in
      let last = run_none first.2 refl in
      let fine = close_fine r (proper_fine s k bench_run v o r p.proper) (omega (arith, p.round)) (omega (arith, p.round)) in
      let closed = subst (λ (n : ℕ). AfterClose n r first.0) fine first.1 in
      record {
        proper = rw last (proper_step s k bench_run v o closing r first.0 p.proper (step_of closing r first.0 first.1));
        round = ap (λ (z : Rec). z.round) last ∙ closed_round r.round r first.0 (omega (arith, p.round)) (omega (arith, p.round)) closed ∙ ap suc p.round;
      }
  next_round_of heard (suc n) slot m r q low high p run =
      go (λ x there further. next_round_of heard n (suc slot) m x q low high there further) (heard slot) run
    where
      go :
          ((x : Rec) → InRound s k v m x → Run x (calls_from heard n (suc slot)) q → InRound s k v (suc m) q) → (x : Option (List ℕ)) →
          Run r (taking_first slot x (calls_from heard n (suc slot))) q → InRound s k v (suc m) q
      go further none way = further r p way
      go further (some bs) way =
          let first = run_head way (taking slot bs) _ refl in
          further first.0
          (record {
            proper = proper_step s k bench_run v o (taking slot bs) r first.0 p.proper (step_of (taking slot bs) r first.0 first.1);
            round = ap (λ (z : Rec). z.round) first.1 ∙ after_take_round r slot bs ∙ p.round;
          })
          first.2

-- a good column has an own value
pub good_own : (f : Scenario) (k : ℕ) → is_good f k ≡ true → (v : Value) × (own_of f.owns k ≡ some v)
unfolding is_good is_taken
good_own f k e = go (own_of f.owns k) refl e
  where
    go : (x : Option Value) → own_of f.owns k ≡ x → is_taken x ≡ true → (v : Value) × (own_of f.owns k ≡ some v)
    go none g h = true_not_false (sym h)
    go (some v) g h = (v, g)

settings_viewed : (c : Column) → settings_of c.who ≡ (view c).who.settings
unfolding view who_in who_as
settings_viewed c = refl

-- four things by round
by_round : {A : Type 0} → (one two three four : A) → ℕ → A
by_round a b c d zero = d
by_round a b c d (suc zero) = a
by_round a b c d (suc (suc zero)) = b
by_round a b c d (suc (suc (suc zero))) = c
by_round a b c d (suc (suc (suc (suc m)))) = d

module _
    (f : Scenario) (first second third last : List Column)
    (opened_all : (k : ℕ) (v : Value) → own_of f.owns k ≡ some v → record_of first k ≡ opened f.settings k bench_run v)
    (opens : (k : ℕ) (v : Value) → own_of f.owns k ≡ some v → open_refusal f.settings k v ≡ 0)
    (one : RoundRun f 1 first second) (two : RoundRun f 2 second third) (three : RoundRun f 3 third last)
  where
    -- a good column through all rounds
    record Through (k : ℕ) : Type 0 where
      pub own : Value
      pub right : Opens f.settings k own
      pub start : InRound f.settings k own 1 (record_of first k)
      pub middle : InRound f.settings k own 2 (record_of second k)
      pub later : InRound f.settings k own 3 (record_of third k)
      pub end : InRound f.settings k own 4 (record_of last k)

    through : (k : ℕ) → is_good f k ≡ true → Through k
    unfolding round_calls opened
    through k good =
        let v = good_own f k good in
        let o = opens_of f.settings k v.0 (opens k v.0 v.1) in
        let began : InRound f.settings k v.0 1 (record_of first k) =
        rw (opened_all k v.0 v.1) (record { proper = proper_open f.settings k bench_run v.0 o; round = refl }) in
        let second_round = next_round_of f.settings k v.0 o _ _ 1 1 _ _ (omega arith) (omega arith) began (one.calls k o.low o.high) in
        let third_round = next_round_of f.settings k v.0 o _ _ 1 2 _ _ (omega arith) (omega arith) second_round (two.calls k o.low o.high) in
        record {
          own = v.0;
          right = o;
          start = began;
          middle = second_round;
          later = third_round;
          end = next_round_of f.settings k v.0 o _ _ 1 3 _ _ (omega arith) (omega arith) third_round (three.calls k o.low o.high);
        }

    -- its frame of a round
    frame_sent :
        (m : ℕ) (columns columns_now : List Column) (round : RoundRun f m columns columns_now) (k : ℕ) (t : Through k) → 1 ≤ m → m ≤ 3 →
        InRound f.settings k t.own m (record_of columns k) → FrameOf (record_of columns k) (round.frames k)
    frame_sent m columns columns_now round k t low high p =
        round.sends k t.right.low t.right.high
        (send_fine _ (proper_fine f.settings k bench_run t.own t.right _ p.proper) (ap settings_refusal p.proper.settings ∙ t.right.fine)
        (omega (arith, p.round)) (omega (arith, p.round)))
        p.proper.settings p.round

    pub group_ran : GroupRan f last
    unfolding by_round AllFinished record_of
    group_ran =
        record {
          records = λ m k. by_round (record_of first k) (record_of second k) (record_of third k) (record_of last k) m;
          frames = λ m. by_round one.frames two.frames three.frames (λ k. []) m;
          run = record { opens = opened_all; sends = sends; rounds = rounds };
          last = λ k. refl;
          finished = finished;
        }
      where
        sends :
            (m k : ℕ) → 1 ≤ m → m ≤ 3 → is_good f k ≡ true →
            FrameOf (by_round (record_of first k) (record_of second k) (record_of third k) (record_of last k) m)
            (by_round one.frames two.frames three.frames (λ j. []) m k)
        sends zero k l h good = absurd (omega arith)
        sends (suc zero) k l h good = let t = through k good in frame_sent 1 first second one k t l h t.start
        sends (suc (suc zero)) k l h good = let t = through k good in frame_sent 2 second third two k t l h t.middle
        sends (suc (suc (suc zero))) k l h good = let t = through k good in frame_sent 3 third last three k t l h t.later
        sends (suc (suc (suc (suc m)))) k l h good = absurd (omega arith)

        rounds :
            (m k : ℕ) → 1 ≤ m → m ≤ 3 → is_good f k ≡ true →
            Run (by_round (record_of first k) (record_of second k) (record_of third k) (record_of last k) m)
            (round_calls f (by_round one.frames two.frames three.frames (λ j. []) m) m k)
            (by_round (record_of first k) (record_of second k) (record_of third k) (record_of last k) (suc m))
        rounds zero k l h good = absurd (omega arith)
        rounds (suc zero) k l h good = let t = through k good in one.calls k t.right.low t.right.high
        rounds (suc (suc zero)) k l h good = let t = through k good in two.calls k t.right.low t.right.high
        rounds (suc (suc (suc zero))) k l h good = let t = through k good in three.calls k t.right.low t.right.high
        rounds (suc (suc (suc (suc m)))) k l h good = absurd (omega arith)

        finished : (k : ℕ) → 1 ≤ k → k ≤ f.settings.n → is_good f k ≡ true → Finished f.settings (get_or last (k - 1) column_past)
        finished k l h good =
            let t = through k good in
            record {
              answered = ask_fine _ (proper_fine f.settings k bench_run t.own t.right _ t.end.proper) t.end.round;
              settings = settings_viewed (get_or last (k - 1) column_past) ∙ t.end.proper.settings;
            }
