-- Frames: command, sender, run number with its high byte first, then an operand of fixed width. Assumes nothing: these are definitions.
use Rattle.std.specs.Prelude.{cond, List, [], ◌∷◌, ℕ, ◌+◌, ◌*◌, ◌/◌, ◌%◌, eqb, get_or, drop}
use Rattle.code.specs.Settings.{Settings, check_count, value_size}
use Rattle.code.specs.Size.{checks_room}
use Rattle.code.specs.Entry.{values_in}
use Rattle.grading.specs.Value.{Vector}

-- the command of a round's frame: 0x11 value, 0x22 checks of round two, 0x33 checks of round three
unfoldable pub command : (round : ℕ) → ℕ
command m = 0x11 * m

-- the bytes of its operand: a value, or 2t check values
unfoldable pub operand_size : Settings → (round : ℕ) → ℕ
operand_size s m = cond (eqb m 1) (value_size s) (check_count s * value_size s)

-- the bytes of a frame's header
abbrev pub header_size : ℕ
header_size = 4

-- its whole length, with the header
unfoldable pub frame_size : Settings → (round : ℕ) → ℕ
frame_size s m = header_size + operand_size s m

-- the longest frame of all settings
abbrev pub longest_frame : ℕ
longest_frame = header_size + checks_room

-- the header of a round's frame: command, sender, and the run number, high byte first
unfoldable pub header : (round sender run : ℕ) → List ℕ
header m k r = command m ∷ k ∷ (r / 256) ∷ (r % 256) ∷ []

-- the round that a command belongs to; 0, an unknown command
unfoldable pub command_round : (command : ℕ) → ℕ
command_round c = cond (eqb c (command 1)) 1 (cond (eqb c (command 2)) 2 (cond (eqb c (command 3)) 3 0))

-- a frame read: the round of its command
unfoldable pub round_in : (bytes : List ℕ) → ℕ
round_in bs = command_round (get_or bs 0 0)

-- a frame read: its sender byte
unfoldable pub sender_in : (bytes : List ℕ) → ℕ
sender_in bs = get_or bs 1 0

-- a frame read: its run number
unfoldable pub run_in : (bytes : List ℕ) → ℕ
run_in bs = 256 * get_or bs 2 0 + get_or bs 3 0

-- a frame read: its operand, the part from its fifth byte on
unfoldable pub operand_in : (bytes : List ℕ) → List ℕ
operand_in bs = drop header_size bs

-- the 2t check values that an operand holds
unfoldable pub checks_in : Settings → (operand : List ℕ) → Vector
checks_in s xs = values_in s (check_count s) xs
