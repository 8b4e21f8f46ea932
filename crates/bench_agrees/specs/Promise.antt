-- What is promised of the values and confidences that the bench prints: demand 3, wherever at most t columns are bad. Each statement is a
-- type, and proofs/ has its proof. Assumes nothing.
use Rattle.std.specs.Prelude.{◌≡◌, true, cond, List, ℕ, zero, suc, ◌+◌, ◌-◌, ◌≤◌, length, get_or}
use Rattle.std.proofs.Math.Option.{some}
use Rattle.arrays.specs.Array.{in_front}
use Rattle.grading.specs.Value.{Value}
use Rattle.grading.specs.Held.{Held}
use Rattle.record.specs.Record.{Rec}
use Rattle.record.specs.Refusal.{open_refusal}
use Rattle.gradecast.specs.Promise.{none_held, Agree}
use Rattle.bench_file.specs.Scenario.{Scenario, own_of, is_good}
use Rattle.bench_file.specs.File.{parsed, parse_file}
use Rattle.bench.specs.Group.{GroupRun}
use Rattle.bench.specs.Listing.{listing}
use Rattle.bench.specs.Entry.{BenchSays, listing_room}

-- how many of so many columns from column k on are bad
unfoldable pub bad_from : Scenario → (many k : ℕ) → ℕ
bad_from f zero k = 0
bad_from f (suc n) k = cond (is_good f k) 0 1 + bad_from f n (suc k)

-- how many columns of a group are bad
unfoldable pub bad_columns : Scenario → ℕ
bad_columns f = bad_from f f.settings.n 1

-- no more than t
unfoldable pub FewBad : Scenario → Type 0
FewBad f = bad_columns f ≤ f.settings.t

-- what the line of one column says of another: `listing` prints it at that place as value/confidence
unfoldable pub in_line : (held : (line : ℕ) → List Held) → (line column : ℕ) → Held
in_line held g k = get_or (held g) (k - 1) none_held

-- the lines of good columns: each has columns 1 to n, and any two of them agree, with the own value of each good column in both
pub record LinesAgree (f : Scenario) (held : (line : ℕ) → List Held) : Type 0 where
  pub whole : (g : ℕ) → is_good f g ≡ true → length (held g) ≡ f.settings.n
  pub agree :
      (g h x : ℕ) (v : Value) → is_good f g ≡ true → is_good f h ≡ true → own_of f.owns x ≡ some v →
      Agree f.settings.n (in_line held g) (in_line held h) x v

-- a group of at most t bad columns, whose own values can be opened with: whatever the bad columns send or leave out, the lines of its run
-- agree
unfoldable pub GroupAgrees : Type 0
GroupAgrees =
    (f : Scenario) (records : (round column : ℕ) → Rec) (frames : (round column : ℕ) → List ℕ) →
    ((k : ℕ) (v : Value) → own_of f.owns k ≡ some v → open_refusal f.settings k v ≡ 0) → FewBad f →
    GroupRun f records frames → LinesAgree f (λ k. (records 4 k).found.held)

-- a file that is not turned down, with at most t bad columns: what `bench` writes is the listing of the group's run, and its lines agree
unfoldable pub BenchAgrees : Type 0
BenchAgrees =
    (file output : List ℕ) (answer : ℕ) (output_now : List ℕ) (f : Scenario) → BenchSays file output answer output_now →
    listing_room ≤ length output → parse_file file ≡ parsed f → FewBad f →
    (records : (round column : ℕ) → Rec) × (frames : (round column : ℕ) → List ℕ) × GroupRun f records frames
    × (answer ≡ length (listing f (λ k. (records 4 k).found.held)))
    × (output_now ≡ in_front (listing f (λ k. (records 4 k).found.held)) output)
    × LinesAgree f (λ k. (records 4 k).found.held)
