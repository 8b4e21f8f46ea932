-- The conditions of demand 3 can be met: exchanges that meet them all, each with a bad column that splits. That of 004 gives the listing
-- that 01 prints; in another calls are refused, a row is "none" and a frame is missing; and in those with heights of four bytes a radio reaches
-- only some. Assumes nothing.
use mathlib.Core.Path.{◌≡◌, refl, ap}
use mathlib.Core.List.{[], ◌∷◌, map}
use Rattle.code.specs.Settings.{settings_refusal}
use Rattle.code.specs.Repair.{NoRepair}
use Rattle.record.specs.Frame.{checks_in}
use Rattle.gradecast.specs.Promise.{Among, Good, holds, Agree}
use Rattle.exchanges.proofs.Building.Tested.{Outcome, goods, computed, Met, met, tested_agree}
use Rattle.exchanges.proofs.Testing.NoneNear.{none_quick}
use Rattle.exchanges.proofs.Testing.Stepping.{answers}
use Rattle.exchanges.proofs.Testing.Conditions.{opening}
use Rattle.exchanges.proofs.Examples.Exchange.{four, heard}
use Rattle.exchanges.proofs.Examples.Printed.{printed, printed_scripts}
use Rattle.exchanges.proofs.Examples.Rough.{rough, says_of, rough_lists, rough_scripts}
use Rattle.exchanges.proofs.Examples.Radio.{four_bytes, Heights, both_ends, two_tenths, a_tenth, radio_scripts, radio_outcome}
use Rattle.exchanges.proofs.Examples.Outcomes.{holding, printed_outcome, rough_outcome, outcomes}

-- what was computed says that the conditions are met
pub printed_met : Met four 7 printed_scripts
unfolding printed_outcome
printed_met = met four 7 printed_scripts printed_outcome outcomes.0 refl refl refl

pub rough_met : Met four 7 rough_scripts
unfolding rough_outcome
rough_met = met four 7 rough_scripts rough_outcome outcomes.1 refl refl refl

-- so the good columns of the exchange of 004 agree
pub printed_agree :
    (g h x : Good) → Among g (goods four 7 printed_scripts) → Among h (goods four 7 printed_scripts) → Among x (goods four 7 printed_scripts) →
    Agree 4 (holds g) (holds h) x.number x.own
printed_agree = tested_agree four 7 printed_scripts printed_met

-- the listing that 01 prints: column 3 is less sure of column 4; and what rounds two and three told, column 1 0, 0, 1, 1 in both
pub listing : map (λ g. g.last.found) (goods four 7 printed_scripts) ≡ holding printed 1 35 2 ∷ holding printed 2 35 2 ∷ holding printed 3 35 1 ∷ []
unfolding goods computed printed_outcome
listing = ap (λ (o : Outcome). o.found) outcomes.0

-- with refusals, "none" and a missing frame, column 3 knows nothing of column 4; and what the two rounds told, which differ for all three
pub rough_listing : map (λ g. g.last.found) (goods four 7 rough_scripts) ≡ holding rough 1 35 1 ∷ holding rough 2 35 1 ∷ holding rough 3 0 0 ∷ []
unfolding goods computed rough_outcome
rough_listing = ap (λ (o : Outcome). o.found) outcomes.1

-- each call answers as it is listed
pub rough_answers : map (λ p. answers p.claims p.calls (opening four 7 p)) rough_scripts ≡ map says_of rough_lists
unfolding computed rough_outcome
rough_answers = ap (λ (o : Outcome). o.answered) outcomes.1

-- what column 4 sends to column 1 in round two repairs nothing of its V
pub rough_none : NoRepair four (heard 1) (checks_in four (rough.bad 2 1))
unfolding settings_refusal
rough_none = none_quick four (heard 1) (checks_in four (rough.bad 2 1)) refl outcomes.2

-- heights of four bytes, where column 4's radio reaches only some: the conditions are met, and what each column has found
pub record RadioMet (e : Heights) : Type 0 where
  pub meets : Met four_bytes 7 (radio_scripts e)
  pub found : map (λ g. g.last.found) (goods four_bytes 7 (radio_scripts e)) ≡ (radio_outcome e).found

radio_met : (e : Heights) → computed four_bytes 7 (radio_scripts e) ≡ radio_outcome e → RadioMet e
unfolding radio_outcome goods computed
radio_met e o =
    record { meets = met four_bytes 7 (radio_scripts e) (radio_outcome e) o refl refl refl; found = ap (λ (x : Outcome). x.found) o }

pub both_ends_met : RadioMet both_ends
both_ends_met = radio_met both_ends outcomes.3

pub two_tenths_met : RadioMet two_tenths
two_tenths_met = radio_met two_tenths outcomes.4

pub a_tenth_met : RadioMet a_tenth
a_tenth_met = radio_met a_tenth outcomes.5
