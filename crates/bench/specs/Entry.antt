-- What the bench answers and leaves in the lent output. Assumes nothing: these are definitions.
use Rattle.std.specs.Prelude.{◌≡◌, List, ℕ, ◌+◌, ◌*◌, ◌≤◌, ◌<◌, length}
use Rattle.arrays.specs.Array.{in_front}
use Rattle.code.specs.Size.{most_columns}
use Rattle.record.specs.Record.{Rec}
use Rattle.bench_file.specs.File.{Parse, refused, parsed, parse_file}
use Rattle.bench.specs.Group.{GroupRun}
use Rattle.bench.specs.Listing.{listing, refused_line}

-- room for every line of a column: 2 bytes for its number, 36 for each column's value of eight bytes with three digits and its confidence,
-- and 1 for the line feed
abbrev pub line_room : ℕ
line_room = 2 + most_columns * 36 + 1

-- room for every listing: 14 bytes for the settings, and the lines
abbrev pub listing_room : ℕ
listing_room = 14 + most_columns * line_room

-- the output for what a file comes to: "refused N" and nothing else, or the listing of the group's run
unfoldable pub Printed : Parse → (text : List ℕ) → Type 0
Printed (refused n) text = text ≡ refused_line n
Printed (parsed f) text =
    (records : (round column : ℕ) → Rec) × (frames : (round column : ℕ) → List ℕ) × GroupRun f records frames
    × (text ≡ listing f (λ k. (records 4 k).found.held))

-- `bench`: an output that may be too short for a listing keeps every byte, and the answer is 0; else the output of the file in
-- front, the rest kept, and how many bytes it has, which are never 0
pub record BenchSays (file output : List ℕ) (answer : ℕ) (output_now : List ℕ) : Type 0 where
  pub short : length output < listing_room → (answer ≡ 0) × (output_now ≡ output)
  pub printed :
      listing_room ≤ length output →
      (text : List ℕ) × Printed (parse_file file) text × (answer ≡ length text) × (output_now ≡ in_front text output)
