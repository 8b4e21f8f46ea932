-- The conditions of `BuiltGradecast` can be met: the exchange with refusals, as built. Its lists meet the conditions as defined, and
-- its values and frames are bytes. So there are three columns with a record of the program's own at every step, every call of which
-- answers as it is listed, and what `result` answers at the end agrees, and tells few places of each. Assumes nothing.
use mathlib.Core.Path.{◌≡◌, ◌∙◌, ap, subst}
use mathlib.Core.List.{List, map}
use Prim.Native.Nat.{ℕ}
use Rattle.record.specs.declared.Holdings.{Holdings}
use Rattle.grading.specs.Promise.{member, unlisted}
use Rattle.column.specs.Entry.{ResultSays}
use Rattle.gradecast.specs.Promise.{Among, numbers, bad_count, FewTold, Agree}
use Rattle.gradecast.specs.Built.{Built, BuiltConditions, defined, answered, BuiltGradecast, BuiltTold}
use Rattle.gradecast.proofs.Built.{built_gradecast, built_told}
use Rattle.exchanges.proofs.Building.Following.{result_built}
use Rattle.exchanges.proofs.Building.Answers.{answers_listed}
use Rattle.exchanges.proofs.Building.Tested.{goods, tested_columns, tested_same, tested_conditions, tested_finished, tested_stored}
use Rattle.exchanges.proofs.Testing.Conditions.{good, plays}
use Rattle.exchanges.proofs.Examples.Exchange.{four, script}
use Rattle.exchanges.proofs.Examples.Rough.{says_of, rough_lists, rough_scripts}
use Rattle.exchanges.proofs.Examples.Defined.{rough_met, rough_answers}

-- the three columns as built
unfoldable pub columns : List Built
columns = tested_columns four 7 rough_scripts rough_met

pub columns_same : map defined columns ≡ goods four 7 rough_scripts
unfolding columns
columns_same = tested_same four 7 rough_scripts rough_met

-- every condition holds, and all have finished
pub columns_conditions : BuiltConditions four 7 columns
unfolding columns
columns_conditions = tested_conditions four 7 rough_scripts rough_met

columns_finished : (b : Built) → Among b columns → b.last.round ≡ 4
unfolding columns
columns_finished = tested_finished four 7 rough_scripts rough_met

-- column 4 is the only bad one
one_bad : bad_count four (map defined columns) ≡ 1
unfolding bad_count numbers goods good rough_scripts script unlisted member
one_bad = ap (bad_count four) columns_same

-- each has a result to answer
columns_answer : (b : Built) → Among b columns → (h : Holdings) × ResultSays b.last h
unfolding columns
columns_answer b i = result_built b.last (tested_stored four 7 rough_scripts rough_met b i)

-- what two of them answer agrees about a third, of which the first was told few places
pub record AnswersAgree (g h x : Built) : Type 0 where
  pub g_answer : Holdings
  pub h_answer : Holdings
  pub g_says : ResultSays g.last g_answer
  pub h_says : ResultSays h.last h_answer
  pub g_done : g_answer.answer ≡ 0
  pub h_done : h_answer.answer ≡ 0
  pub agree : Agree 4 (answered four g_answer) (answered four h_answer) x.number x.own
  pub two : FewTold 1 g_answer.told_two g.number x.number
  pub three : FewTold 1 g_answer.told_three g.number x.number

pub results_agree : (g h x : Built) → Among g columns → Among h columns → Among x columns → AnswersAgree g h x
unfolding BuiltGradecast BuiltTold
results_agree g h x i j l =
    let a = columns_answer g i in
    let b = columns_answer h j in
    let both = built_gradecast four 7 columns g h x columns_conditions i j l (columns_finished g i) (columns_finished h j) a.0 b.0 a.1 b.1 in
    let told = built_told four 7 columns g x columns_conditions i l (columns_finished g i) a.0 a.1 in
    record {
      g_answer = a.0;
      h_answer = b.0;
      g_says = a.1;
      h_says = b.1;
      g_done = both.0;
      h_done = both.1;
      agree = both.2;
      two = subst (λ (m : ℕ). FewTold m a.0.told_two g.number x.number) one_bad told.1;
      three = subst (λ (m : ℕ). FewTold m a.0.told_three g.number x.number) one_bad told.2;
    }

-- every call of each answers as it is listed
pub calls_answer : map (λ b. b.answers) columns ≡ map says_of rough_lists
unfolding goods
calls_answer =
    answers_listed four 7 rough_scripts columns columns_conditions.ran columns_same (plays four 7 rough_scripts rough_met.tested) ∙ rough_answers

-- the witness: columns as built that ran the lists, meet the conditions, have finished and answer
pub record Witness (bs : List Built) : Type 0 where
  pub same : map defined bs ≡ goods four 7 rough_scripts
  pub conditions : BuiltConditions four 7 bs
  pub answers : map (λ b. b.answers) bs ≡ map says_of rough_lists
  pub finished : (b : Built) → Among b bs → b.last.round ≡ 4
  pub agree : (g h x : Built) → Among g bs → Among h bs → Among x bs → AnswersAgree g h x

pub built_example : (bs : List Built) × Witness bs
built_example = (
  columns,
  record { same = columns_same; conditions = columns_conditions; answers = calls_answer; finished = columns_finished; agree = results_agree },
)
