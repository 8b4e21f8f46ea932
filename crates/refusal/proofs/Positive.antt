-- No refusal is told as 0: where the answer is 0 there is a value. Assumes nothing.
use Rattle.std.proofs.Common.{◌≡◌, ◌<◌, Result, Ok, Err, IsOk, refl, arith}
use Rattle.refusal.specs.declared.Refusal.{Refusal}
use Rattle.refusal.specs.Number.{number_of, answer_of}

pub number-positive : (e : Refusal) → 0 < number_of e
number-positive e = grind arith

pub ok-from_zero : {A : Type 0} (r : Result A Refusal) → answer_of r ≡ 0 → IsOk r
ok-from_zero (Ok x) h = refl
ok-from_zero (Err e) h = absurd (omega (arith, number-positive e))
