-- Repair of a vector that was repaired before. Assumes nothing: these are definitions.
use Rattle.std.specs.Prelude.{◌≡◌, Bool, true, false, List, Option, None, Some, ℕ}
use Rattle.code.specs.Vector.{same}
use Rattle.repair.specs.Entry.{RepairBySays}
use Rattle.repair.specs.declared.RepairAnswer.{RepairAnswer}

-- an answer and an output are those of `repair_by`
abbrev pub AnsweredBy : (n t w : ℕ) → (vector own checks : List ℕ) → RepairAnswer → (out out_now : List ℕ) → Type 0
AnsweredBy n t w vs own cs a o z = RepairBySays n t w vs own cs a.answer a.changed a.tried o z

-- the contract of `repair_again`: checks equal to the last ones have the last answer, and the output is as it was; others are repaired by
unfoldable pub AgainSays : (n t w : ℕ) → (vector own last_checks checks : List ℕ) → (last : RepairAnswer) → (again : Bool) → RepairAnswer → (out out_now : List ℕ) → Type 0
AgainSays n t w vs own ls cs last true a o z = (same ls cs ≡ true) × (a ≡ last) × (z ≡ o)
AgainSays n t w vs own ls cs last false a o z = (same ls cs ≡ false) × AnsweredBy n t w vs own cs a o z

-- `repair_again` has no answer of its own where the last one stands
abbrev pub is_again : Option RepairAnswer → Bool
is_again None = true
is_again (Some a) = false

abbrev pub answer_after : (last : RepairAnswer) → Option RepairAnswer → RepairAnswer
answer_after last None = last
answer_after last (Some a) = a
