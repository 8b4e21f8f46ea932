-- What the calls of a built run answer. Each promise says the refusal that applies to the record that is read, and the records follow
-- the definitions' run of the list; so the answers are those that are computed of it. Assumes nothing.
use mathlib.Core.Path.{◌≡◌, refl, sym, ◌∙◌, ap, ap₂, subst}
use mathlib.Core.Bool.{true}
use mathlib.Core.List.{List, [], ◌∷◌, map}
use Prim.Native.Nat.{ℕ}
use native.Mathlib.Omega.{arith}
use Rattle.arrays.proofs.Bool.{and_split}
use Rattle.code.specs.Settings.{Settings, settings}
use Rattle.grading.specs.Value.{Value}
use Rattle.record.specs.Record.{Rec, opened}
use Rattle.column.specs.Call.{Call, Leads}
use Rattle.record.specs.View.{view}
use Rattle.record.specs.declared.Column.{Column}
use Rattle.record.proofs.Refusal.{Opens, opens_of}
use Rattle.record.proofs.View.{view_opened}
use Rattle.column.proofs.Step.{step_of}
use Rattle.gradecast.specs.Promise.{Among, first, other, Good}
use Rattle.gradecast.specs.Built.{BuiltStep, takes, sends, closes, asks, BuiltRun, no_step, one_step, Built, BuiltRan, defined}
use Rattle.gradecast.proofs.Proper.{Proper, proper_open, proper_step, leads_unique}
use Rattle.gradecast.proofs.Built.{step_leads}
use Rattle.exchanges.proofs.Testing.Stepping.{Claims, after_call, call_test, answer, run_test, answers, call_leads}
use Rattle.exchanges.proofs.Testing.Conditions.{Script, opening, good, Plays}

step_answered : {c d : Column} {x : Call} {a : ℕ} → BuiltStep c x a d → a ≡ answer x (view c)
unfolding answer
step_answered (takes c d slot a frame says) = says.answered
step_answered (sends c a buffer buffer-now says) = says.answered
step_answered (closes c d a says) = says.answered
step_answered (asks c h says) = says.answered

module _ (s : Settings) (k run : ℕ) (v : Value) (o : Opens s k v) (cl : Claims) where
  answers_follow :
      {c d : Column} {xs : List Call} {as_built : List ℕ} (r : Rec) → view c ≡ r → Proper s k run v r → run_test cl xs r ≡ true →
      BuiltRun c xs as_built d → as_built ≡ answers cl xs r
  unfolding answers run_test
  answers_follow r e p t (no_step c) = refl
  answers_follow r e p t (one_step c d f x xs a more step rest) =
      let both = and_split (call_test cl x r) _ t in
      let leads = call_leads cl x r both.0 in
      ap₂ ◌∷◌ (step_answered step ∙ ap (answer x) e)
      (answers_follow (after_call cl x r)
      (leads_unique s k run v o x r (view d) (after_call cl x r) p (subst (λ (z : Rec). Leads x z (view d)) e (step_leads step)) leads)
      (proper_step s k run v o x r (after_call cl x r) p (step_of x r (after_call cl x r) leads)) both.1 rest)

-- of a column as built
built_answers :
    (s : Settings) (run : ℕ) (cl : Claims) (b : Built) → BuiltRan s run b → run_test cl b.calls (opened s b.number run b.own) ≡ true →
    b.answers ≡ answers cl b.calls (opened s b.number run b.own)
unfolding settings
built_answers s run cl b r t =
    answers_follow s b.number run b.own o cl (opened s b.number run b.own) first (proper_open s b.number run b.own o) t r.steps
  where
    o : Opens s b.number b.own
    o = opens_of s b.number b.own (sym r.opening.answered)

    first : view b.first ≡ opened s b.number run b.own
    first = ap view (r.opening.done refl) ∙ view_opened s.n s.t s.w b.number run b.own o

-- of a list of columns as built, which run the lists of the columns as defined
answers_of_script :
    (s : Settings) (run : ℕ) (p : Script) (b : Built) → BuiltRan s run b → Plays s run p → defined b ≡ good s run p →
    b.answers ≡ answers p.claims p.calls (opening s run p)
unfolding defined good opening
answers_of_script s run p b r plays e =
    let number = ap (λ (g : Good). g.number) e in
    let own = ap (λ (g : Good). g.own) e in
    let calls = ap (λ (g : Good). g.calls) e in
    built_answers s run p.claims b r (rw (number, own, calls) plays.runs) ∙ rw (number, own, calls) refl

pub answers_listed :
    (s : Settings) (run : ℕ) (ps : List Script) (bs : List Built) → ((b : Built) → Among b bs → BuiltRan s run b) →
    map defined bs ≡ map (good s run) ps → ((p : Script) → Among p ps → Plays s run p) →
    map (λ b. b.answers) bs ≡ map (λ p. answers p.claims p.calls (opening s run p)) ps
answers_listed s run [] [] r e plays = refl
answers_listed s run [] (b ∷ bs) r e plays = absurd (let z : ◌≡◌ {A = ℕ} 0 1 = cc in omega arith)
answers_listed s run (p ∷ ps) [] r e plays = absurd (let z : ◌≡◌ {A = ℕ} 0 1 = cc in omega arith)
answers_listed s run (p ∷ ps) (b ∷ bs) r e plays =
    ap₂ ◌∷◌ (answers_of_script s run p b (r b (first bs)) (plays p (first ps)) (cc))
    (answers_listed s run ps bs (λ a i. r a (other b bs i)) (cc) (λ q i. plays q (other p ps i)))
