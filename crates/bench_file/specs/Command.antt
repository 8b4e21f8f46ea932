-- One command of a bench file behind its group command: its length, its faults, and what it says. The bytes are those from the command
-- on to the end of the file. Assumes nothing: these are definitions.
use Rattle.std.specs.Prelude.{Bool, true, false, ◌&&◌, ◌||◌, not, cond, List, [], ◌∷◌, ℕ, ◌+◌, ltb, leb, eqb, length, get_or, take, drop}
use Rattle.code.specs.Settings.{Settings}
use Rattle.record.specs.Frame.{operand_size}
use Rattle.record.specs.Record.{is_taken}
use Rattle.record.specs.Refusal.{first_of, blank_refusal}
use Rattle.bench_file.specs.Scenario.{Message, message, Scenario, with_own, with_message, is_good, message_of}

-- the command byte; past the end of the file 0, which is no command
unfoldable pub command_in : List ℕ → ℕ
command_in bs = get_or bs 0 0

-- 4 own (column, value); 2 value (from, to, value); 3 checks (round, from, to, 2t check values); 15 end
unfoldable pub is_known : (command : ℕ) → Bool
is_known c = (eqb c 4 || eqb c 2) || (eqb c 3 || eqb c 15)

-- the bytes of a command in front of its value or check values
unfoldable pub head_size : (command : ℕ) → ℕ
head_size c = cond (eqb c 4) 2 (cond (eqb c 2) 3 (cond (eqb c 3) 4 1))

-- the bytes of the value or check values of a command
unfoldable pub body_size : Settings → (command : ℕ) → ℕ
body_size s c = cond (eqb c 15) 0 (cond (eqb c 3) (operand_size s 2) (operand_size s 1))

-- the whole length of a command
unfoldable pub command_size : Settings → (command : ℕ) → ℕ
command_size s c = head_size c + body_size s c

-- the value or check values of a command
unfoldable pub body_in : Settings → List ℕ → List ℕ
body_in s bs = take (body_size s (command_in bs)) (drop (head_size (command_in bs)) bs)

-- whether there is no message yet: own values come before all messages
unfoldable pub no_message : List Message → Bool
no_message [] = true
no_message (m ∷ ms) = false

-- 19: unknown, out of order, as another group command or an own value behind a message, cut short, bytes after the end; of a command with
-- so many bytes left, behind a message or not
unfoldable pub form_fault : Settings → (late : Bool) → (command left : ℕ) → ℕ
form_fault s late c left =
    cond (not (is_known c)) 19
    (cond (eqb c 4 && late) 19 (cond (ltb left (command_size s c)) 19 (cond (eqb c 15 && ltb 1 left) 19 0)))

unfoldable pub form_refusal : Scenario → List ℕ → ℕ
form_refusal f bs = form_fault f.settings (not (no_message f.messages)) (command_in bs) (length bs)

-- the round and the columns of a message: a command 2 is one of round one, a command 3 says its round
unfoldable pub round_in : List ℕ → ℕ
round_in bs = cond (eqb (command_in bs) 2) 1 (get_or bs 1 0)

unfoldable pub from_in : List ℕ → ℕ
from_in bs = cond (eqb (command_in bs) 2) (get_or bs 1 0) (get_or bs 2 0)

unfoldable pub to_in : List ℕ → ℕ
to_in bs = cond (eqb (command_in bs) 2) (get_or bs 2 0) (get_or bs 3 0)

-- the message of a command 2 or 3
unfoldable pub message_in : Settings → List ℕ → Message
message_in s bs = message (round_in bs) (from_in bs) (to_in bs) (body_in s bs)

-- whether a column is one of 1 to n
unfoldable pub is_column : (n column : ℕ) → Bool
is_column n k = leb 1 k && leb k n

-- 20, of an own value: a column not 1 to n, a column owned twice
unfoldable pub column_refusal : Scenario → (column : ℕ) → ℕ
column_refusal f k = cond (not (is_column f.settings.n k)) 20 (cond (is_good f k) 20 0)

-- 20, of a message: a column not 1 to n, "from" a good one, "to" a bad one, the same message twice
unfoldable pub message_refusal : Scenario → (round from to : ℕ) → ℕ
message_refusal f m k l =
    cond (not (is_column f.settings.n k)) 20
    (cond (not (is_column f.settings.n l)) 20
    (cond (is_good f k) 20 (cond (not (is_good f l)) 20 (cond (is_taken (message_of f.messages m k l)) 20 0))))

-- 20, of checks: a round other than 2 and 3
unfoldable pub checks_round_refusal : (command round : ℕ) → ℕ
checks_round_refusal c m = cond (eqb c 3) (cond (eqb m 2 || eqb m 3) 0 20) 0

-- 20: operand not allowed
unfoldable pub operand_refusal : Scenario → List ℕ → ℕ
operand_refusal f bs =
    let c = command_in bs in
    cond (eqb c 15) 0
    (cond (eqb c 4) (column_refusal f (get_or bs 1 0))
    (first_of (checks_round_refusal c (round_in bs) ∷ message_refusal f (round_in bs) (from_in bs) (to_in bs) ∷ [])))

-- 6: own value blank
unfoldable pub value_refusal : Scenario → List ℕ → ℕ
value_refusal f bs = cond (eqb (command_in bs) 4) (blank_refusal (body_in f.settings bs)) 0

-- where a command is turned down: 19, then 20, then 6; 0, it is not
unfoldable pub command_refusal : Scenario → List ℕ → ℕ
command_refusal f bs = first_of (form_refusal f bs ∷ operand_refusal f bs ∷ value_refusal f bs ∷ [])

-- what is said after a command that is not turned down
unfoldable pub after_command : Scenario → List ℕ → Scenario
after_command f bs =
    cond (eqb (command_in bs) 4) (with_own f (get_or bs 1 0) (body_in f.settings bs)) (with_message f (message_in f.settings bs))
