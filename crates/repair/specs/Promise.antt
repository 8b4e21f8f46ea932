-- What is promised of both repair calls. Each statement is a type, and proofs/ has its proof. Assumes nothing.
use Rattle.std.specs.Prelude.{◌≡◌, Bool, true, List, ℕ}
use Rattle.code.specs.Settings.{Settings}
use Rattle.code.specs.Vector.{is_vector, are_checks, has_checks}
use Rattle.code.specs.Repair.{TriedPlanes}
use Rattle.repair.specs.Entry.{Done, RepairSays, DoneBy, TriedBy, RepairBySays}
use Rattle.repair.specs.Again.{AnsweredBy, AgainSays}
use Rattle.repair.specs.declared.RepairAnswer.{RepairAnswer}

-- where the own checks are the vector's, what `repair_by` does is what `repair` does, in the answer, in the count, in the places tried and
-- in the output
unfoldable pub ByOwnChecks : Type 0
ByOwnChecks =
    (s : Settings) (vs own cs : List (List ℕ)) (r m : ℕ) (k o z : List ℕ) → is_vector s vs ≡ true → has_checks s vs own ≡ true → are_checks s cs ≡ true →
    DoneBy s vs own cs r m o z × TriedBy s own cs k → Done s vs cs r m o z × TriedPlanes s vs cs k

-- each call has one outcome: two that keep its promise are the same, in the answer, in the count, in the places tried and in every lent
-- byte
pub record OneAnswer : Type 0 where
  pub repairing :
      (n t w : ℕ) (vector checks : List ℕ) (a b m j : ℕ) (k l out x y : List ℕ) → RepairSays n t w vector checks a m k out x →
      RepairSays n t w vector checks b j l out y → (a ≡ b) × (m ≡ j) × (k ≡ l) × (x ≡ y)
  pub repairing_by :
      (n t w : ℕ) (vector own checks : List ℕ) (a b m j : ℕ) (k l out x y : List ℕ) → RepairBySays n t w vector own checks a m k out x →
      RepairBySays n t w vector own checks b j l out y → (a ≡ b) × (m ≡ j) × (k ≡ l) × (x ≡ y)

-- after any repair of a vector, `repair_again` with its checks, its answer and its output keeps the promise of `repair_by`: what it answers
-- and leaves is what a repair by the checks lent answers, and leaves of some output
unfoldable pub AgainAsBy : Type 0
AgainAsBy =
    (n t w : ℕ) (vector own last_checks checks : List ℕ) (last answer : RepairAnswer) (again : Bool) (before out out_now : List ℕ) →
    AnsweredBy n t w vector own last_checks last before out → AgainSays n t w vector own last_checks checks last again answer out out_now →
    (old : List ℕ) × AnsweredBy n t w vector own checks answer old out_now
