-- Every built run follows the definitions' run of the same list, since each promise says what the call leaves of the record that is read;
-- so what is proved of the definitions' runs holds of the calls as built. Assumes nothing.
use mathlib.Core.Path.{◌≡◌, refl, sym, ◌∙◌, ap, subst}
use mathlib.Core.Bool.{Bool, true, false, not}
use mathlib.Core.List.{List, map}
use Prim.Native.Nat.{ℕ, ◌-◌, ◌<◌}
use native.Mathlib.Omega.{arith}
use lib.Dec.{ltb}
use lib.ListN.{length, get_or, length-map, get_or-append, get_or-eq_default}
use borrow.Author.Tests.{eq-eqb, ltb-true, ltb-false}
use Rattle.arrays.specs.Array.{in_front, padded}
use Rattle.code.specs.Settings.{Settings, settings}
use Rattle.code.specs.Size.{most_columns}
use Rattle.grading.specs.Held.{Held, held_in}
use Rattle.record.specs.Record.{Rec, told_missing, who_as}
use Rattle.record.specs.Refusal.{unfinished_refusal, ask_refusal}
use Rattle.column.specs.Call.{Call, Leads, Run, no_call, one_call}
use Rattle.gradecast.specs.Promise.{Good, Ran, Fair, Conditions, none_held, holds, FewTold, GoodTold, Agree, Gradecast}
use Rattle.record.specs.View.{settings_of, who_in, view}
use Rattle.column.specs.Entry.{ResultSays}
use Rattle.gradecast.specs.Built.{BuiltStep, takes, sends, closes, asks, BuiltRun, no_step, one_step, Built, BuiltRan, BuiltConditions, defined, answered, BuiltGradecast, BuiltTold}
use Rattle.record.specs.declared.Column.{Column}
use Rattle.record.specs.declared.Holdings.{Holdings}
use Rattle.record.proofs.Refusal.{line_passed, first_of_next, first_of_last, Opens, opens_of}
use Rattle.record.proofs.View.{view_opened}
use Rattle.column.proofs.Taken.{take_reads}
use Rattle.gradecast.proofs.Proper.{Proper, proper_open, proper_fine}
use Rattle.gradecast.proofs.Walk.{run_passes, proper_passes}
use Rattle.gradecast.proofs.Goods.{among_map, each_map}
use Rattle.gradecast.proofs.Gradecast.{good_told, gradecast}

-- a step, and a list of them
pub step_leads : {c d : Column} {x : Call} {answer : ℕ} → BuiltStep c x answer d → Leads x (view c) (view d)
unfolding Leads
step_leads (takes c d slot answer frame says) = take_reads c d slot answer frame says
step_leads (sends c answer buffer buffer-now says) = refl
step_leads (closes c d answer says) = says.reads
step_leads (asks c h says) = refl

pub run_follows : {c d : Column} {xs : List Call} {answers : List ℕ} → BuiltRun c xs answers d → Run (view c) xs (view d)
run_follows (no_step c) = no_call (view c)
run_follows (one_step c d e x xs a answers step rest) = one_call (view c) (view d) (view e) x xs (step_leads step) (run_follows rest)

-- a column that ran as built ran as defined
ran_follows : (s : Settings) (run : ℕ) (b : Built) → BuiltRan s run b → Ran s run (defined b)
unfolding defined settings
ran_follows s run b r =
    let opens = sym r.opening.answered in
    let first = ap view (r.opening.done refl) ∙ view_opened s.n s.t s.w b.number run b.own (opens_of s b.number b.own opens) in
    record { opens = opens; leads = subst (λ (z : Rec). Run z b.calls (view b.last)) first (run_follows r.steps) }

-- the conditions of columns as built are those of the columns as defined
pub conditions_follow : (s : Settings) (run : ℕ) (bs : List Built) → BuiltConditions s run bs → Conditions s run (map defined bs)
unfolding defined
conditions_follow s run bs c =
    record {
      different = c.different;
      enough = omega (arith, c.enough, length-map bs defined);
      ran = each_map defined (Ran s run) bs (λ a o. ran_follows s run a (c.ran a o));
      fair =
          λ a b m n.
          each_map defined (λ (y : Good). (y.number ≡ b.number → ⊥) → Fair s run y b) bs
          (λ x o. each_map defined (λ (z : Good). ((defined x).number ≡ z.number → ⊥) → Fair s run (defined x) z) bs (λ y p. c.fair x y o p) b n) a m;
    }

-- a column that ran
module _ (s : Settings) (run : ℕ) (b : Built) (r : BuiltRan s run b) where
  opened_as : Opens s b.number b.own
  unfolding defined
  opened_as = opens_of s b.number b.own (ran_follows s run b r).opens

  proper : Proper s b.number run b.own (view b.last)
  unfolding defined
  proper =
      proper_passes s b.number run b.own opened_as (proper_open s b.number run b.own opened_as)
      (run_passes (ran_follows s run b r).leads)

  pub same_settings : settings_of b.last.who ≡ s
  unfolding view who_in who_as
  same_settings = proper.settings

  -- and has finished
  module _ (finished : b.last.round ≡ 4) where
    pub round_four : (view b.last).round ≡ 4
    unfolding view
    round_four = finished

    pub asks_fine : ask_refusal (view b.last) ≡ 0
    unfolding ask_refusal unfinished_refusal
    asks_fine =
        first_of_next _ (proper_fine s b.number run b.own opened_as (view b.last) proper)
        (first_of_last _ ∙ line_passed 17 _ (ap not (eq-eqb _ 4 round_four)))

    -- its result
    module _ (h : Holdings) (result : ResultSays b.last h) where
      not_refused : h.answer ≡ 0
      not_refused = result.answered ∙ asks_fine

      answered_holds : (k : ℕ) → answered s h k ≡ holds (defined b) k
      unfolding answered holds defined
      answered_holds k =
          ap (λ (u : Settings). get_or (held_in u h.values h.confidences) (k - 1) none_held) (sym same_settings)
          ∙ ap (λ (hs : List Held). get_or hs (k - 1) none_held) (result.done not_refused).reads

pub built_gradecast : BuiltGradecast
unfolding BuiltGradecast Gradecast defined
built_gradecast s run bs g h x c i j l e f a b p q = (
  not_refused s run g (c.ran g i) e a p,
  not_refused s run h (c.ran h j) f b q,
  record {
    near = λ k u v. rw (g_holds k, h_holds k) (agree.near k u v);
    values = λ k u v m n. rw (g_holds k, h_holds k) (agree.values k u v (rw (g_holds k) at m) (rw (h_holds k) at n));
    own_value = (g_holds x.number ∙ agree.own_value.0, h_holds x.number ∙ agree.own_value.1);
  },
)
  where
    g_holds : (k : ℕ) → answered s a k ≡ holds (defined g) k
    g_holds = answered_holds s run g (c.ran g i) e a p

    h_holds : (k : ℕ) → answered s b k ≡ holds (defined h) k
    h_holds = answered_holds s run h (c.ran h j) f b q

    agree : Agree s.n (holds (defined g)) (holds (defined h)) (defined x).number (defined x).own
    agree =
        gradecast s run (map defined bs) (defined g) (defined h) (defined x) (conditions_follow s run bs c) (among_map defined i) (among_map defined j)
        (among_map defined l) (round_four s run g (c.ran g i) e) (round_four s run h (c.ran h j) f)

-- what a round told of a column stands in the front of its array
told_at : (k : ℕ) (told array : List ℕ) → array ≡ padded most_columns told → (get_or told (k - 1) told_missing ≡ told_missing → ⊥) →
    get_or array (k - 1) told_missing ≡ get_or told (k - 1) told_missing
unfolding padded in_front
told_at k told array e there =
    ap (λ (bs : List ℕ). get_or bs (k - 1) told_missing) e ∙ get_or-append told _ told_missing (k - 1) (inside _ refl)
  where
    inside : (q : Bool) → ltb (k - 1) (length told) ≡ q → k - 1 < length told
    inside true h = ltb-true (k - 1) (length told) h
    inside false h = absurd (there (get_or-eq_default told told_missing (ltb-false (k - 1) (length told) h)))

told_inside : (most own k : ℕ) (told array : List ℕ) → array ≡ padded most_columns told → FewTold most told own k → FewTold most array own k
told_inside most own k told array e f =
    let mine = told_at own told array e (λ z. (let clash : ◌≡◌ {A = ℕ} told_missing 0 = sym z ∙ f.itself in omega arith)) in
    let same = told_at k told array e f.not_missing in
    record {
      itself = mine ∙ f.itself;
      not_missing = λ z. f.not_missing (sym same ∙ z);
      not_none = λ z. f.not_none (sym same ∙ z);
      few = rw same f.few;
    }

pub built_told : BuiltTold
unfolding BuiltTold GoodTold defined
built_told s run bs g x c i l e p says =
    let fine = not_refused s run g (c.ran g i) e p says in
    let told =
    good_told s run (map defined bs) (defined g) (defined x) (conditions_follow s run bs c) (among_map defined i) (among_map defined l)
    (round_four s run g (c.ran g i) e) in
    (fine, told_inside _ _ _ _ _ (says.two fine) told.0, told_inside _ _ _ _ _ (says.three fine) told.1)
