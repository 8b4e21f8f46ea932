-- What is promised of a group's run and of the bench's output. Each statement is a type, and proofs/ has its proof. Assumes nothing.
use Rattle.std.specs.Prelude.{◌≡◌, List, ℕ}
use Rattle.std.proofs.Math.Option.{some}
use Rattle.grading.specs.Value.{Value}
use Rattle.record.specs.Record.{Rec}
use Rattle.record.specs.Refusal.{open_refusal}
use Rattle.bench_file.specs.Scenario.{Scenario, own_of}
use Rattle.bench.specs.Group.{GroupRun}
use Rattle.bench.specs.Listing.{listing}
use Rattle.bench_file.specs.File.{parse_file}
use Rattle.bench.specs.Entry.{Printed}

-- a group whose own values can be opened with has one listing, however its run is worked out
unfoldable pub OneListing : Type 0
OneListing =
    (f : Scenario) (records others : (round column : ℕ) → Rec) (frames sent : (round column : ℕ) → List ℕ) →
    ((k : ℕ) (v : Value) → own_of f.owns k ≡ some v → open_refusal f.settings k v ≡ 0) → GroupRun f records frames →
    GroupRun f others sent → listing f (λ k. (records 4 k).found.held) ≡ listing f (λ k. (others 4 k).found.held)

-- the bench has one output for a file
unfoldable pub OneOutput : Type 0
OneOutput = (file a b : List ℕ) → Printed (parse_file file) a → Printed (parse_file file) b → a ≡ b
