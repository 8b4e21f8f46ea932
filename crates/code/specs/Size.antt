-- Sizes of the program's arrays: the most of each thing that settings allow, and the width of a row. Assumes nothing: these are
-- definitions.
use Rattle.std.specs.Prelude.{ℕ, ◌+◌, ◌*◌}
use Rattle.lanes.specs.Lanes.{row_width}

abbrev pub most_columns : ℕ
most_columns = 32

-- the bad columns that are borne
abbrev pub most_bad : ℕ
most_bad = 10

-- two check values for each bad column
abbrev pub most_checks : ℕ
most_checks = 2 * most_bad

-- the generator's coefficients: one more than its roots
abbrev pub generator_room : ℕ
generator_room = most_checks + 1

-- rows that have a byte for each check, side by side as the planes are in others
abbrev pub feedback_rows : ℕ
feedback_rows = 3

-- room for what the register feeds back
abbrev pub feedback_room : ℕ
feedback_room = row_width * feedback_rows

-- the places of a plane: one for each column and each check
abbrev pub most_places : ℕ
most_places = most_columns + most_checks

-- room for a plane of power sums, or for the coefficients of its locator
abbrev pub plane_room : ℕ
plane_room = 32

-- the most bytes of a value
abbrev pub value_room : ℕ
value_room = 8

-- room for a value of every column
abbrev pub vector_room : ℕ
vector_room = most_columns * value_room

-- room for every check value
abbrev pub checks_room : ℕ
checks_room = most_checks * value_room

-- the bytes that a plane's register moves through: one for each column, and what it feeds back behind the last
abbrev pub window_room : ℕ
window_room = most_columns + feedback_room

-- a row for each place
abbrev pub place_rows : ℕ
place_rows = row_width * most_places

-- a row for each check
abbrev pub check_rows : ℕ
check_rows = row_width * most_checks

-- a row for each coefficient of a locator
abbrev pub locator_rows : ℕ
locator_rows = row_width * (most_bad + 1)
