-- A list of calls, run, so that examples can be computed. Each call leaves one record behind; a closing makes its table of the rows that
-- are claimed, and a test tells whether they are its rows. So a list whose closings pass the test leads through the records that are
-- computed. Assumes nothing.
use mathlib.Core.Path.{◌≡◌, refl}
use mathlib.Core.Bool.{Bool, true, false, cond, ◌&&◌, ◌||◌}
use mathlib.Core.List.{List, [], ◌∷◌}
use mathlib.Core.Option.{Option}
use Prim.Native.Nat.{ℕ, zero, suc}
use lib.Dec.{eqb}
use borrow.Author.Tests.{eqb-true, eqb-false}
use Rattle.arrays.proofs.Bool.{and_split}
use Rattle.grading.specs.Value.{Vector}
use Rattle.grading.specs.Count.{agreed_vector, held_list}
use Rattle.record.specs.Record.{Rec, found_as, next_round}
use Rattle.record.specs.Refusal.{take_refusal, send_refusal, close_refusal, ask_refusal}
use Rattle.rounds.specs.Exchange.{heard_vector, Closed}
use Rattle.column.specs.Call.{Call, taking, sending, closing, asking, after_take, Leads, Run, no_call, one_call, Passes, here, later}
use Rattle.record.proofs.Refusal.{close_record, close_settings, record_number}
use Rattle.column.proofs.Step.{close_refused, leads_closing}
use Rattle.exchanges.proofs.Testing.Table.{table_of, told_by, table_test, table_tested}

-- the rows of the tables of rounds two and three, by slot
abbrev pub Claims : Type 0
Claims = (round slot : ℕ) → Option Vector

-- the record after a round is closed with these tables, and whether they are its tables
unfoldable pub closed_by : Claims → (round : ℕ) → Rec → Rec
closed_by cl zero r = r
closed_by cl (suc zero) r = next_round r (found_as (heard_vector r) [] [] [] [])
closed_by cl (suc (suc zero)) r =
    next_round r (found_as r.found.heard (agreed_vector r.who.settings (table_of r r.found.heard (cl 2))) [] (told_by r r.found.heard (cl 2)) [])
closed_by cl (suc (suc (suc zero))) r =
    next_round r
    (found_as r.found.heard r.found.agreed (held_list r.who.settings (table_of r r.found.agreed (cl 3))) r.found.told_two
    (told_by r r.found.agreed (cl 3)))
closed_by cl (suc (suc (suc (suc m)))) r = r

unfoldable pub closed_test : Claims → (round : ℕ) → Rec → Bool
closed_test cl zero r = true
closed_test cl (suc zero) r = true
closed_test cl (suc (suc zero)) r = table_test r r.found.heard (cl 2)
closed_test cl (suc (suc (suc zero))) r = table_test r r.found.agreed (cl 3)
closed_test cl (suc (suc (suc (suc m)))) r = true

closed_tested : (cl : Claims) (m : ℕ) (r : Rec) → close_refusal r ≡ 0 → closed_test cl m r ≡ true → Closed m r (closed_by cl m r)
unfolding Closed closed_by closed_test
closed_tested cl zero r fine e = refl
closed_tested cl (suc zero) r fine e = refl
closed_tested cl (suc (suc zero)) r fine e =
    let number = record_number r.who (close_record r fine) in
    (_, _, table_tested r r.found.heard (cl 2) (close_settings r fine) number.0 number.1 e, refl)
closed_tested cl (suc (suc (suc zero))) r fine e =
    let number = record_number r.who (close_record r fine) in
    (_, _, table_tested r r.found.agreed (cl 3) (close_settings r fine) number.0 number.1 e, refl)
closed_tested cl (suc (suc (suc (suc m)))) r fine e = refl

-- a call: the record after it, the test, and what it answers
unfoldable pub after_call : Claims → Call → Rec → Rec
after_call cl (taking k bs) r = after_take r k bs
after_call cl (sending room) r = r
after_call cl closing r = cond (eqb (close_refusal r) 0) (closed_by cl r.round r) r
after_call cl asking r = r

unfoldable pub call_test : Claims → Call → Rec → Bool
call_test cl (taking k bs) r = true
call_test cl (sending room) r = true
call_test cl closing r = cond (eqb (close_refusal r) 0) (closed_test cl r.round r) true
call_test cl asking r = true

unfoldable pub answer : Call → Rec → ℕ
answer (taking k bs) r = take_refusal r k bs
answer (sending room) r = send_refusal r room
answer closing r = close_refusal r
answer asking r = ask_refusal r

pub call_leads : (cl : Claims) (c : Call) (r : Rec) → call_test cl c r ≡ true → Leads c r (after_call cl c r)
unfolding after_call call_test Leads
call_leads cl (taking k bs) r e = refl
call_leads cl (sending room) r e = refl
call_leads cl asking r e = refl
call_leads cl closing r e = go (eqb (close_refusal r) 0) refl e
  where
    go : (q : Bool) → eqb (close_refusal r) 0 ≡ q → cond q (closed_test cl r.round r) true ≡ true → Leads closing r (cond q (closed_by cl r.round r) r)
    go true f g = let fine = eqb-true _ 0 f in leads_closing r.round r _ fine refl (closed_tested cl r.round r fine g)
    go false f g = close_refused r (eqb-false _ 0 f)

-- a list of them
unfoldable pub ran : Claims → List Call → Rec → Rec
ran cl [] r = r
ran cl (c ∷ cs) r = ran cl cs (after_call cl c r)

unfoldable pub run_test : Claims → List Call → Rec → Bool
run_test cl [] r = true
run_test cl (c ∷ cs) r = call_test cl c r && run_test cl cs (after_call cl c r)

unfoldable pub answers : Claims → List Call → Rec → List ℕ
answers cl [] r = []
answers cl (c ∷ cs) r = answer c r ∷ answers cl cs (after_call cl c r)

pub run_tested : (cl : Claims) (cs : List Call) (r : Rec) → run_test cl cs r ≡ true → Run r cs (ran cl cs r)
unfolding run_test ran
run_tested cl [] r e = no_call r
run_tested cl (c ∷ cs) r e =
    let both = and_split (call_test cl c r) _ e in
    one_call r (after_call cl c r) (ran cl cs (after_call cl c r)) c cs (call_leads cl c r both.0) (run_tested cl cs (after_call cl c r) both.1)

-- a place on the way: a record, with the calls still to come, that passes a test
unfoldable pub some_place : Claims → (test : Rec → List Call → Bool) → List Call → Rec → Bool
some_place cl test [] r = test r []
some_place cl test (c ∷ cs) r = test r (c ∷ cs) || some_place cl test cs (after_call cl c r)

pub record Place (test : Rec → List Call → Bool) (r : Rec) (cs : List Call) : Type 0 where
  pub at : Rec
  pub rest : List Call
  pub on : Passes r cs at rest
  pub passed : test at rest ≡ true

pub place_tested :
    (cl : Claims) (test : Rec → List Call → Bool) (cs : List Call) (r : Rec) → run_test cl cs r ≡ true → some_place cl test cs r ≡ true → Place test r cs
unfolding run_test some_place
place_tested cl test [] r e f = record { at = r; rest = []; on = here r []; passed = f }
place_tested cl test (c ∷ cs) r e f = go (test r (c ∷ cs)) refl f (place_tested cl test cs (after_call cl c r) both.1)
  where
    both : (call_test cl c r ≡ true) × (run_test cl cs (after_call cl c r) ≡ true)
    both = and_split (call_test cl c r) _ e

    go :
        (q : Bool) → test r (c ∷ cs) ≡ q → (q || some_place cl test cs (after_call cl c r)) ≡ true →
        (some_place cl test cs (after_call cl c r) ≡ true → Place test (after_call cl c r) cs) → Place test r (c ∷ cs)
    go true g h more = record { at = r; rest = c ∷ cs; on = here r (c ∷ cs); passed = g }
    go false g h more =
        let x = more h in
        record {
          at = x.at;
          rest = x.rest;
          on = later r (after_call cl c r) x.at c cs x.rest (call_leads cl c r both.0) x.on;
          passed = x.passed;
        }
