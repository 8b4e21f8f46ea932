-- The numbers of the refusals. Assumes nothing: these are definitions.
use Rattle.std.specs.Prelude.{ℕ, Result, Ok, Err}
use Rattle.refusal.specs.declared.Refusal.{Refusal}
use Rattle.refusal.specs.declared.Refusal.TheVariants.{Columns, Bad, Width, Number, OwnLength, OwnBlank, Round, Slot, Header, Command, FrameLength, Sender, Run, OtherRound, Repeated, Buffer, Unfinished, Lengths, Form, Operand, NoHeights, TooFew}

abbrev pub number_of : Refusal → ℕ
number_of Columns = 1
number_of Bad = 2
number_of Width = 3
number_of Number = 4
number_of OwnLength = 5
number_of OwnBlank = 6
number_of Round = 7
number_of Slot = 8
number_of Header = 9
number_of Command = 10
number_of FrameLength = 11
number_of Sender = 12
number_of Run = 13
number_of OtherRound = 14
number_of Repeated = 15
number_of Buffer = 16
number_of Unfinished = 17
number_of Lengths = 18
number_of Form = 19
number_of Operand = 20
number_of NoHeights = 21
number_of TooFew = 22

-- what C is told: 0 where nothing is refused
abbrev pub answer_of : {A : Type 0} → Result A Refusal → ℕ
answer_of (Ok x) = 0
answer_of (Err e) = number_of e
