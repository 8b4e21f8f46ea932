-- What the level's result says where the definitions of Entry speak of numbers. Assumes nothing: these are definitions.
use Rattle.std.specs.Prelude.{pos, Result, Ok, Err}
use Rattle.refusal.specs.declared.Refusal.{Refusal}
use Rattle.refusal.specs.Number.{answer_of}
use Rattle.level.specs.declared.answer.Levelled.{Levelled}
use Rattle.level.specs.declared.answer.Level.{Level}

-- the level and the correction; refused, zeros
abbrev pub numbers_of : Result Levelled Refusal → Levelled
numbers_of (Ok numbers) = numbers
numbers_of (Err e) = record { level = pos 0; correction = pos 0 }

-- the same behind the number of the refusal, or 0
abbrev pub level_as : Result Levelled Refusal → Level
level_as outcome =
    record { answer = answer_of outcome; level = (numbers_of outcome).level; correction = (numbers_of outcome).correction }
