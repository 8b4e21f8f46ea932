-- Whose frames were refused in the exchange with refusals, as built: the counts by slot, computed; no list is long enough for a count to
-- reach its top, so that the counts of each column add up to its answers 9 to 15. Assumes nothing.
use mathlib.Core.Path.{◌≡◌, refl, ◌∙◌, ap, subst}
use mathlib.Core.List.{List, [], ◌∷◌, map}
use Prim.Native.Nat.{◌<◌}
use native.Mathlib.Omega.{arith}
use lib.Dec.{ltb}
use lib.ListN.{length}
use borrow.Author.Tests.{ltb-true}
use Rattle.record.specs.Refusal.{frame_fault}
use Rattle.gradecast.specs.Promise.{Among, Good}
use Rattle.gradecast.specs.Built.{Built, BuiltRan, defined}
use Rattle.gradecast.specs.Refused.{faults, sum, NoneAtTop, RefusedCounted, ShortBelowTop}
use Rattle.gradecast.proofs.Goods.{among_map}
use Rattle.gradecast.proofs.Refused.{refused_counted, short_below_top}
use Rattle.exchanges.proofs.Building.Tested.{Outcome, goods, computed}
use Rattle.exchanges.proofs.Testing.Conditions.{good, every, every_tested}
use Rattle.exchanges.proofs.Examples.Exchange.{four, script}
use Rattle.exchanges.proofs.Examples.Rough.{done, refused, calls_of, says_of, rough_one, rough_two, rough_three, rough_lists, rough_scripts}
use Rattle.exchanges.proofs.Examples.Outcomes.{rough_outcome, outcomes}
use Rattle.exchanges.proofs.Examples.Built.{columns, columns_same, columns_conditions, calls_answer}

-- column 1 refused four frames of column 2, two of column 3 and two of column 4; and so on
counts : map (λ g. g.last.refused) (map defined columns) ≡ (0 ∷ 4 ∷ 2 ∷ 2 ∷ []) ∷ (1 ∷ 0 ∷ 0 ∷ 5 ∷ []) ∷ (1 ∷ 1 ∷ 0 ∷ 0 ∷ []) ∷ []
unfolding goods computed rough_outcome
counts = ap (map (λ (g : Good). g.last.refused)) columns_same ∙ ap (λ (o : Outcome). o.refused) outcomes.1

answered : map faults (map (λ b. b.answers) columns) ≡ 8 ∷ 6 ∷ 2 ∷ []
unfolding faults frame_fault says_of rough_lists rough_one rough_two rough_three done refused
answered = ap (map faults) calls_answer

short : (b : Built) → Among b columns → length b.calls < 100
unfolding every goods good rough_scripts script calls_of rough_one rough_two rough_three done refused defined
short b i =
    ltb-true _ _ (every_tested (λ (g : Good). ltb (length g.calls) 100) {xs = goods four 7 rough_scripts} refl (subst (Among (defined b)) columns_same (among_map defined i)))

-- the witness: columns as built, with refusals, none of whose counts has reached its top, and whose counts add up
pub record Witness (bs : List Built) : Type 0 where
  pub ran : (b : Built) → Among b bs → BuiltRan four 7 b
  pub by_slot : map (λ g. g.last.refused) (map defined bs) ≡ (0 ∷ 4 ∷ 2 ∷ 2 ∷ []) ∷ (1 ∷ 0 ∷ 0 ∷ 5 ∷ []) ∷ (1 ∷ 1 ∷ 0 ∷ 0 ∷ []) ∷ []
  pub answers : map faults (map (λ b. b.answers) bs) ≡ 8 ∷ 6 ∷ 2 ∷ []
  pub below : (b : Built) → Among b bs → NoneAtTop 4 b.last
  pub total : (b : Built) → Among b bs → sum b.last.refused ≡ faults b.answers

below : (b : Built) → Among b columns → NoneAtTop 4 b.last
unfolding ShortBelowTop
below b i = short_below_top four 7 b (columns_conditions.ran b i) (omega (arith, short b i))

pub refused_example : (bs : List Built) × Witness bs
unfolding RefusedCounted
refused_example = (
  columns,
  record {
    ran = columns_conditions.ran;
    by_slot = counts;
    answers = answered;
    below = below;
    total = λ b i. (refused_counted four 7 b (columns_conditions.ran b i)).total (below b i);
  },
)
