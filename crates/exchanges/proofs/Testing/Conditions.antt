-- The conditions of demand 3, tested, so that examples can be computed. A good column is given by its list of calls, the rows of its
-- tables and the frames that it sends. It is tested that its list runs, that it sends each frame in its round, that each other is handed
-- it in that round or in the one before, and that nothing else under its slot has the run number. Assumes nothing.
use mathlib.Core.Path.{◌≡◌, sym, ◌∙◌, ap, subst}
use mathlib.Core.Bool.{Bool, true, ◌&&◌, ◌||◌, not}
use mathlib.Core.List.{List, [], ◌∷◌, map}
use mathlib.Core.Logic.{◌⊎◌, inl, inr}
use Prim.Native.Nat.{ℕ, ◌+◌, ◌-◌, ◌≤◌}
use native.Mathlib.Omega.{arith}
use lib.Dec.{eqb, ltb, leb}
use lib.ListN.{length, length-map}
use borrow.Author.Tests.{eqb-true, eq-eqb, ne_eqb, le-ltb, leb-true}
use Rattle.arrays.proofs.Bool.{and_split, or_cases}
use Rattle.code.specs.Settings.{Settings}
use Rattle.code.specs.Vector.{same}
use Rattle.code.proofs.Tests.{all_from, all_below_at}
use Rattle.code.proofs.Vectors.Planes.{same_equal}
use Rattle.grading.specs.Value.{Value}
use Rattle.grading.specs.Promise.{all_different}
use Rattle.record.specs.Frame.{header_size, run_in}
use Rattle.record.specs.Record.{Rec, opened, InTime}
use Rattle.record.specs.Refusal.{open_refusal, other_round_refusal}
use Rattle.record.proofs.InTime.{in_time_of}
use Rattle.column.specs.Call.{Call}
use Rattle.gradecast.specs.Promise.{Among, first, other, Good, numbers, Ran, RoundFrame, Handed, Fair, Conditions}
use Rattle.gradecast.proofs.Goods.{each_map}
use Rattle.exchanges.proofs.Testing.Frames.{frame_test, frame_tested, takes_now, taken_now, given_test, given_tested}
use Rattle.exchanges.proofs.Testing.Stepping.{Claims, ran, run_test, run_tested, some_place, place_tested}

-- a good column: its number, own value and calls, the rows of its tables, and the frame that it sends in each round
pub record Script : Type 0 where
  pub number : ℕ
  pub own : Value
  pub calls : List Call
  pub claims : Claims
  pub frames : (round : ℕ) → List ℕ

unfoldable pub opening : Settings → (run : ℕ) → Script → Rec
opening s run p = opened s p.number run p.own

unfoldable pub good : Settings → (run : ℕ) → Script → Good
good s run p = record { number = p.number; own = p.own; calls = p.calls; last = ran p.claims p.calls (opening s run p) }

-- a column that sends these bytes in a round
unfoldable pub sends_test : (round : ℕ) → (bytes : List ℕ) → Rec → List Call → Bool
sends_test m bs r rest = eqb r.round m && frame_test bs r

-- a column that is handed these bytes in time for a round: line 14 passes them
unfoldable pub hands_test : (slot round : ℕ) → (bytes : List ℕ) → Rec → List Call → Bool
hands_test k m bs r rest = eqb (other_round_refusal r.round m) 0 && takes_now k bs rest

-- too short for a run number, of another run, or one of the frames of a column
unfoldable pub fair_bytes : (run : ℕ) → Script → (bytes : List ℕ) → Bool
fair_bytes run p bs =
    (ltb (length bs) header_size || not (eqb (run_in bs) run)) || (same bs (p.frames 1) || (same bs (p.frames 2) || same bs (p.frames 3)))

unfoldable pub plays_test : Settings → (run : ℕ) → Script → Bool
plays_test s run p =
    eqb (open_refusal s p.number p.own) 0
    && (run_test p.claims p.calls (opening s run p)
    && all_from 3 0 (λ j. some_place p.claims (sends_test (1 + j) (p.frames (1 + j))) p.calls (opening s run p)))

unfoldable pub meets_test : Settings → (run : ℕ) → (reader sender : Script) → Bool
meets_test s run a b =
    all_from 3 0 (λ j. some_place a.claims (hands_test b.number (1 + j) (b.frames (1 + j))) a.calls (opening s run a))
    && given_test (fair_bytes run b) b.number a.calls

module _ (s : Settings) (run : ℕ) where
  pub record Plays (p : Script) : Type 0 where
    pub opens : open_refusal s p.number p.own ≡ 0
    pub runs : run_test p.claims p.calls (opening s run p) ≡ true
    pub sends : (m : ℕ) → 1 ≤ m → m ≤ 3 → RoundFrame s run (good s run p) m (p.frames m)

  plays_tested : (p : Script) → plays_test s run p ≡ true → Plays p
  unfolding plays_test good opening sends_test
  plays_tested p e =
      let opens = and_split (eqb (open_refusal s p.number p.own) 0) _ e in
      let runs = and_split (run_test p.claims p.calls (opening s run p)) _ opens.1 in
      record { opens = eqb-true _ 0 opens.0; runs = runs.0; sends = sends runs.0 runs.1 }
    where
      at_round : ℕ → Bool
      at_round m = some_place p.claims (sends_test m (p.frames m)) p.calls (opening s run p)

      sends :
          run_test p.claims p.calls (opening s run p) ≡ true → all_from 3 0 (λ j. at_round (1 + j)) ≡ true → (m : ℕ) → 1 ≤ m → m ≤ 3 →
          RoundFrame s run (good s run p) m (p.frames m)
      sends runs all m low high =
          let back : 1 + (m - 1) ≡ m = omega arith in
          let here = ap at_round (sym back) ∙ all_below_at 3 (λ j. at_round (1 + j)) all (m - 1) (omega arith) in
          let x = place_tested p.claims (sends_test m (p.frames m)) p.calls (opening s run p) runs here in
          let both = and_split (eqb x.at.round m) _ x.passed in
          record { at = x.at; rest = x.rest; on = x.on; in_round = eqb-true _ _ both.0; frame = frame_tested _ x.at both.1 }

  meets_tested : (a b : Script) → Plays a → Plays b → meets_test s run a b ≡ true → Fair s run (good s run a) (good s run b)
  unfolding meets_test good opening hands_test fair_bytes
  meets_tested a b pa pb e =
      record { sends = λ m low high. (b.frames m, pb.sends m low high, handed m low high); only = λ bs h long its_run. only bs long its_run (given_tested (fair_bytes run b) b.number bs both.1 h.on) }
    where
      at_round : ℕ → Bool
      at_round m = some_place a.claims (hands_test b.number m (b.frames m)) a.calls (opening s run a)

      both : (all_from 3 0 (λ j. at_round (1 + j)) ≡ true) × (given_test (fair_bytes run b) b.number a.calls ≡ true)
      both = and_split _ _ e

      handed : (m : ℕ) → 1 ≤ m → m ≤ 3 → (h : Handed s run (good s run a) (good s run b) (b.frames m)) × InTime h.at.round m
      handed m low high =
          let back : 1 + (m - 1) ≡ m = omega arith in
          let here = ap at_round (sym back) ∙ all_below_at 3 (λ j. at_round (1 + j)) both.0 (m - 1) (omega arith) in
          let x = place_tested a.claims (hands_test b.number m (b.frames m)) a.calls (opening s run a) pa.runs here in
          let now = and_split (eqb (other_round_refusal x.at.round m) 0) _ x.passed in
          let taken = taken_now b.number (b.frames m) x.rest now.1 in
          (record { at = x.at; rest = taken.0; on = rw taken.1 at x.on }, in_time_of x.at.round m (eqb-true _ 0 now.0))

      one_of : (m : ℕ) (bs : List ℕ) → 1 ≤ m → m ≤ 3 → same bs (b.frames m) ≡ true → (i : ℕ) × RoundFrame s run (good s run b) i bs
      one_of m bs low high f = (m, subst (RoundFrame s run (good s run b) m) (sym (same_equal bs (b.frames m) f)) (pb.sends m low high))

      only : (bs : List ℕ) → header_size ≤ length bs → run_in bs ≡ run → fair_bytes run b bs ≡ true → (i : ℕ) × RoundFrame s run (good s run b) i bs
      only bs long its_run f =
          let its : (same bs (b.frames 1) || (same bs (b.frames 2) || same bs (b.frames 3))) ≡ true =
          rw (le-ltb (length bs) header_size long, eq-eqb (run_in bs) run its_run) at f in
          first_frame (or_cases (same bs (b.frames 1)) _ its)
        where
          first_frame : (same bs (b.frames 1) ≡ true) ⊎ ((same bs (b.frames 2) || same bs (b.frames 3)) ≡ true) → (i : ℕ) × RoundFrame s run (good s run b) i bs
          first_frame (inl g) = one_of 1 bs (omega arith) (omega arith) g
          first_frame (inr g) = next_frame (or_cases (same bs (b.frames 2)) _ g)
            where
              next_frame : (same bs (b.frames 2) ≡ true) ⊎ (same bs (b.frames 3) ≡ true) → (i : ℕ) × RoundFrame s run (good s run b) i bs
              next_frame (inl h) = one_of 2 bs (omega arith) (omega arith) h
              next_frame (inr h) = one_of 3 bs (omega arith) (omega arith) h

-- a list of them
unfoldable pub every : {A : Type 0} → (A → Bool) → List A → Bool
every test [] = true
every test (x ∷ xs) = test x && every test xs

pub every_tested : {A : Type 0} (test : A → Bool) {x : A} {xs : List A} → every test xs ≡ true → Among x xs → test x ≡ true
unfolding every
every_tested test {x} e (first xs) = (and_split (test x) _ e).0
every_tested test e (other y xs i) = every_tested test (and_split (test y) _ e).1 i

unfoldable pub group_test : Settings → (run : ℕ) → List Script → Bool
group_test s run ps =
    (all_different (numbers (map (good s run) ps)) && leb s.n (length ps + s.t))
    && (every (plays_test s run) ps && every (λ a. every (λ b. eqb a.number b.number || meets_test s run a b) ps) ps)

module _ (s : Settings) (run : ℕ) (ps : List Script) (e : group_test s run ps ≡ true) where
  parts : ((all_different (numbers (map (good s run) ps)) && leb s.n (length ps + s.t)) ≡ true)
      × ((every (plays_test s run) ps && every (λ a. every (λ b. eqb a.number b.number || meets_test s run a b) ps) ps) ≡ true)
  unfolding group_test
  parts = and_split _ _ e

  counted_right : (all_different (numbers (map (good s run) ps)) ≡ true) × (leb s.n (length ps + s.t) ≡ true)
  counted_right = and_split _ _ parts.0

  tests : (every (plays_test s run) ps ≡ true) × (every (λ a. every (λ b. eqb a.number b.number || meets_test s run a b) ps) ps ≡ true)
  tests = and_split _ _ parts.1

  pub plays : (p : Script) → Among p ps → Plays s run p
  plays p i = plays_tested s run p (every_tested (plays_test s run) tests.0 i)

  meet : (p q : Script) → Among p ps → Among q ps → (p.number ≡ q.number → ⊥) → Fair s run (good s run p) (good s run q)
  meet p q i j d =
      meets_tested s run p q (plays p i) (plays q j)
      (rw (ne_eqb p.number q.number d) at
      (every_tested (λ b. eqb p.number b.number || meets_test s run p b)
      (every_tested (λ a. every (λ b. eqb a.number b.number || meets_test s run a b) ps) tests.1 i) j))

  pub conditions_tested : Conditions s run (map (good s run) ps)
  unfolding good opening
  conditions_tested =
      record {
        different = counted_right.0;
        enough = omega (arith, leb-true s.n (length ps + s.t) counted_right.1, length-map ps (good s run));
        ran =
            each_map (good s run) (Ran s run) ps
            (λ p i. record { opens = (plays p i).opens; leads = run_tested p.claims p.calls (opening s run p) (plays p i).runs });
        fair =
            λ a b i j.
            each_map (good s run) (λ (x : Good). (x.number ≡ b.number → ⊥) → Fair s run x b) ps
            (λ p k. each_map (good s run) (λ (y : Good). (p.number ≡ y.number → ⊥) → Fair s run (good s run p) y) ps (λ q l. meet p q k l) b j) a i;
      }
