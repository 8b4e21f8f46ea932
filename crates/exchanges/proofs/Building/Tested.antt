-- An exchange that is computed, and the same as built. Where the test passes, the good columns of the scripts meet the conditions of demand 3,
-- and agree; and there are columns as built that ran the same lists and read the same. Assumes nothing.
use mathlib.Core.Path.{◌≡◌, ◌∙◌, ap}
use mathlib.Core.Bool.{Bool, true}
use mathlib.Core.List.{List, map}
use Prim.Native.Nat.{ℕ}
use lib.Dec.{eqb}
use borrow.Author.Tests.{eqb-true}
use Rattle.arrays.proofs.Bool.{and_split}
use Rattle.code.specs.Settings.{Settings}
use Rattle.code.specs.Plane.{byte_list}
use Rattle.record.specs.Record.{Found}
use Rattle.record.specs.View.{view}
use Rattle.gradecast.specs.Promise.{Among, Good, Conditions, holds, Agree, Gradecast}
use Rattle.gradecast.specs.Built.{Built, BuiltConditions, defined}
use Rattle.gradecast.proofs.Gradecast.{gradecast}
use Rattle.exchanges.proofs.Building.Following.{Stored}
use Rattle.exchanges.proofs.Building.Group.{of_bytes, built_group, group_same, group_each, group_at, group_conditions}
use Rattle.exchanges.proofs.Testing.Stepping.{answers}
use Rattle.exchanges.proofs.Testing.Conditions.{Script, opening, good, every, every_tested, group_test, conditions_tested}

-- what is computed of an exchange: the conditions of demand 3; whether all is bytes; whether all have finished; what each has found, V,
-- Y, values and confidences, and what it was told; how many frames of each slot it refused; what each call answers
pub record Outcome : Type 0 where
  pub conditions : Bool
  pub bytes : Bool
  pub finished : Bool
  pub found : List Found
  pub refused : List (List ℕ)
  pub answered : List (List ℕ)

module _ (s : Settings) (run : ℕ) where
  -- the good columns of an exchange
  unfoldable pub goods : List Script → List Good
  goods ps = map (good s run) ps

  unfoldable pub computed : List Script → Outcome
  computed ps =
      record {
        conditions = group_test s run ps;
        bytes = every of_bytes (goods ps);
        finished = every (λ g. eqb g.last.round 4) (goods ps);
        found = map (λ g. g.last.found) (goods ps);
        refused = map (λ g. g.last.refused) (goods ps);
        answered = map (λ p. answers p.claims p.calls (opening s run p)) ps;
      }

  -- what was computed of an exchange says of each of them
  pub record Met (ps : List Script) : Type 0 where
    pub tested : group_test s run ps ≡ true
    pub conditions : Conditions s run (goods ps)
    pub bytes : (a : Good) → Among a (goods ps) → of_bytes a ≡ true
    pub finished : (a : Good) → Among a (goods ps) → a.last.round ≡ 4

  pub met : (ps : List Script) (o : Outcome) → computed ps ≡ o → o.conditions ≡ true → o.bytes ≡ true → o.finished ≡ true → Met ps
  unfolding goods computed
  met ps o e conditions bytes finished =
      let tested = ap (λ (x : Outcome). x.conditions) e ∙ conditions in
      let all_bytes = ap (λ (x : Outcome). x.bytes) e ∙ bytes in
      let all_finished = ap (λ (x : Outcome). x.finished) e ∙ finished in
      record {
        tested = tested;
        conditions = conditions_tested s run ps tested;
        bytes = λ a i. every_tested of_bytes all_bytes i;
        finished = λ a i. eqb-true _ 4 (every_tested (λ g. eqb g.last.round 4) all_finished i);
      }

-- two of them agree about a third
pub tested_agree :
    (s : Settings) (run : ℕ) (ps : List Script) → Met s run ps → (g h x : Good) → Among g (goods s run ps) → Among h (goods s run ps) →
    Among x (goods s run ps) → Agree s.n (holds g) (holds h) x.number x.own
unfolding Gradecast
tested_agree s run ps m g h x i j l = gradecast s run (goods s run ps) g h x m.conditions i j l (m.finished g i) (m.finished h j)

-- the columns as built
module _ (s : Settings) (run : ℕ) (ps : List Script) (m : Met s run ps) where
  unfoldable pub tested_columns : List Built
  tested_columns = built_group s run (goods s run ps) m.conditions m.bytes

  pub tested_same : map defined tested_columns ≡ goods s run ps
  unfolding tested_columns
  tested_same = group_same s run (goods s run ps) m.conditions m.bytes

  -- every condition holds, and all have finished
  pub tested_conditions : BuiltConditions s run tested_columns
  unfolding tested_columns
  tested_conditions = group_conditions s run (goods s run ps) m.conditions m.bytes

  pub tested_finished : (b : Built) → Among b tested_columns → b.last.round ≡ 4
  unfolding tested_columns defined view
  tested_finished b i = m.finished (defined b) (group_each s run (goods s run ps) m.conditions m.bytes b i).1

  pub tested_stored : (b : Built) → Among b tested_columns → Stored b.last
  unfolding tested_columns
  tested_stored b i = (group_each s run (goods s run ps) m.conditions m.bytes b i).2

  pub tested_bytes : (b : Built) → Among b tested_columns → byte_list b.own ≡ true
  unfolding tested_columns defined of_bytes
  tested_bytes b i = (and_split (byte_list b.own) _ (m.bytes (defined b) (group_each s run (goods s run ps) m.conditions m.bytes b i).1)).0

  -- the column as built of each column as defined
  pub tested_at : (g : Good) → Among g (goods s run ps) → (b : Built) × Among b tested_columns × (defined b ≡ g)
  unfolding tested_columns
  tested_at = group_at s run (goods s run ps) m.conditions m.bytes
