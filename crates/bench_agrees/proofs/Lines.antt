-- Demand 3 of a group's run. With at most t bad columns the good ones are enough, so that they meet all conditions of demand 3; what they
-- end with is what is printed in their lines. A line has n entries, since closing round three makes one for each column. Assumes nothing.
use mathlib.Core.Path.{◌≡◌, refl, sym, ◌∙◌, ap, subst}
use mathlib.Core.Bool.{true}
use mathlib.Core.List.{List}
use mathlib.Core.Option.{some}
use Prim.Native.Nat.{ℕ}
use native.Mathlib.Omega.{arith}
use lib.ListN.{length}
use Rattle.code.specs.Settings.{Settings}
use Rattle.grading.specs.Value.{Value, Rows}
use Rattle.grading.specs.Count.{held_at, held_list}
use Rattle.grading.proofs.Value.{entries_length}
use Rattle.record.specs.Record.{Rec, is_taken}
use Rattle.record.specs.Refusal.{open_refusal}
use Rattle.column.specs.Call.{Call}
use Rattle.gradecast.specs.Promise.{Good, Among, Ran, Fair, Conditions, holds, Agree, Gradecast}
use Rattle.gradecast.proofs.Walk.{kept, run_passes, Closing, closing_of, proper_passes}
use Rattle.gradecast.proofs.Gradecast.{gradecast}
use Rattle.bench_file.specs.Scenario.{Scenario, own_of, is_good}
use Rattle.bench.specs.Group.{bench_run, GroupRun}
use Rattle.bench_agrees.specs.Promise.{bad_columns, FewBad, in_line, LinesAgree, GroupAgrees}
use Rattle.bench_agrees.proofs.Columns.{goods_from, goods_count, good_among, every_good, goods_different}
use Rattle.bench_agrees.proofs.Conditions.{same_some, good, own_is, right, stands_in, ran, fair}

-- a line has every column
held_length : (s : Settings) (rows : Rows) → length (held_list s rows) ≡ s.n
unfolding held_list
held_length s rows = entries_length s.n 0 (held_at s rows)

closed_length : (s : Settings) (r z : Rec) (cs rest : List Call) (x : Closing r z cs rest 3) → x.before.who.settings ≡ s → length z.found.held ≡ s.n
closed_length s r z cs rest x e =
    let y = x.way.three x.in_round in
    ap length ((kept x.from).held (omega (arith, x.way.round, x.in_round)) ∙ y.2) ∙ held_length x.before.who.settings y.0 ∙ ap (λ (u : Settings). u.n) e

owned : (f : Scenario) (k : ℕ) (v : Value) → own_of f.owns k ≡ some v → is_good f k ≡ true
unfolding is_good is_taken
owned f k v e = rw e refl

module _
    (f : Scenario) (records : ℕ → ℕ → Rec) (frames : ℕ → ℕ → List ℕ)
    (opens : (k : ℕ) (v : Value) → own_of f.owns k ≡ some v → open_refusal f.settings k v ≡ 0)
    (few : FewBad f) (run : GroupRun f records frames)
  where
    abbrev column : ℕ → Good
    column = good f records frames

    abbrev goods : List Good
    goods = goods_from f column f.settings.n 1

    among : (k : ℕ) → is_good f k ≡ true → Among (column k) goods
    among k e =
        let o = right f records frames opens run k e in
        good_among f column f.settings.n 1 k o.low (omega (arith, o.high)) e

    finished : (k : ℕ) → is_good f k ≡ true → (records 4 k).round ≡ 4
    finished k e = (stands_in f records frames opens run k e 4 (omega arith) (omega arith)).round

    numbered : (k : ℕ) → (column k).number ≡ k
    unfolding good
    numbered k = refl

    FairTo : Good → Good → Type 0
    FairTo a b = (a.number ≡ b.number → ⊥) → Fair f.settings bench_run a b

    all_fair : (a b : Good) → Among a goods → Among b goods → FairTo a b
    unfolding FairTo
    all_fair a b i j =
        every_good f column (λ x. FairTo x b)
        (λ l reader. every_good f column (FairTo (column l))
        (λ k sender apart. fair f records frames opens run l k reader sender (λ e. apart (numbered l ∙ sym e ∙ sym (numbered k)))) f.settings.n 1 b j)
        f.settings.n 1 a i

    conditions : Conditions f.settings bench_run goods
    unfolding bad_columns FewBad FairTo
    conditions =
        record {
          different = goods_different f column numbered f.settings.n 1;
          enough = omega (arith, few, goods_count f column f.settings.n 1);
          ran = every_good f column (Ran f.settings bench_run) (ran f records frames opens run) f.settings.n 1;
          fair = all_fair;
        }

    whole : (g : ℕ) → is_good f g ≡ true → length (records 4 g).found.held ≡ f.settings.n
    whole g e =
        let in_three = stands_in f records frames opens run g e 3 (omega arith) (omega arith) in
        let x = closing_of 3 (run_passes (run.rounds 3 g (omega arith) (omega arith) e)) (omega (arith, in_three.round)) (omega (arith, finished g e)) in
        closed_length f.settings _ _ _ _ x (proper_passes f.settings g bench_run _ (right f records frames opens run g e) in_three.proper x.to).settings

    lines_agree : LinesAgree f (λ k. (records 4 k).found.held)
    unfolding Gradecast in_line holds good
    lines_agree =
        record {
          whole = whole;
          agree =
              λ g h x v i j e.
              let l = owned f x v e in
              let own : (column x).own ≡ v = same_some (sym (own_is f records frames opens run x l) ∙ e) in
              subst (Agree f.settings.n (holds (column g)) (holds (column h)) x) own
              (gradecast f.settings bench_run goods (column g) (column h) (column x) conditions (among g i) (among h j) (among x l) (finished g i) (finished h j));
        }

pub group_agrees : GroupAgrees
unfolding GroupAgrees
group_agrees f records frames opens few run = lines_agree f records frames opens few run
