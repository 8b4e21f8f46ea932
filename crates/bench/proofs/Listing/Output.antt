-- The output by what a file comes to: a refusal's number, or what the run comes to; and what is printed of a run depends only on the values and
-- confidences at its end. The answer stays within the output. Assumes nothing.
use mathlib.Core.Path.{◌≡◌, refl, sym, ◌∙◌, ap}
use mathlib.Core.Bool.{Bool, true, false}
use mathlib.Core.List.{List, ◌++◌}
use Prim.Native.Nat.{ℕ, ◌≤◌}
use Rattle.std.specs.Prelude.{Ok, Err}
use Rattle.refusal.specs.Number.{number_of}
use Rattle.refusal.specs.declared.Refusal.{Refusal}
use native.Mathlib.Omega.{arith}
use lib.Dec.{ltb}
use lib.ListN.{length, drop, length-append}
use borrow.Author.Tests.{ltb-true, ltb-false}
use Rattle.arrays.specs.Array.{in_front}
use Rattle.record.specs.Record.{Rec}
use Rattle.record.specs.declared.Column.{Column}
use Rattle.bench_file.specs.Scenario.{Scenario}
use Rattle.bench_file.specs.File.{Parse, refused, parsed}
use Rattle.bench.specs.Listing.{group_line, listing, refused_line}
use Rattle.bench.specs.Entry.{listing_room, Printed, BenchSays}
use Rattle.bench_file.specs.Steps.Places.{Located}
use Rattle.bench_file.specs.Steps.Reading.{ParsedAs}
use Rattle.bench.specs.Steps.Finished.{record_of}
use Rattle.bench.specs.Steps.Running.{GroupRan}
use Rattle.bench_file.specs.declared.places.Places.{Places}
use Rattle.bench.proofs.Listing.Wording.{lines_same}

-- turned down by a refusal, whatever its number
pub number_printed : (e : Refusal) (n : ℕ) → number_of e ≡ n → Printed (refused n) (refused_line (number_of e))
unfolding Printed
number_printed e n h = ap refused_line h

pub refused_printed : (file : List ℕ) (e : Refusal) (t : Parse) → ParsedAs t file (Err e) → Printed t (refused_line (number_of e))
unfolding ParsedAs
refused_printed file e (refused n) h = number_printed e n h.0
refused_printed file e (parsed f) h = absurd h

pub parsed_located : (file : List ℕ) (p : Places) (t : Parse) → ParsedAs t file (Ok p) → (f : Scenario) × (t ≡ parsed f) × Located file p f
unfolding ParsedAs
parsed_located file p (refused n) h = absurd h
parsed_located file p (parsed f) h = (f, refl, h)

-- the listing of the run
pub run_printed : (t : Parse) (f : Scenario) (columns : List Column) → t ≡ parsed f → GroupRan f columns → Printed t (listing f (λ k. (record_of columns k).found.held))
unfolding Printed listing
run_printed t f columns e ran =
    rw e (
      ran.records,
      ran.frames,
      ran.run,
      ap (◌++◌ (group_line f.settings))
          (lines_same f (λ k. (record_of columns k).found.held) (λ k. (ran.records 4 k).found.held) f.settings.n 1 (λ j good. ap (λ (r : Rec). r.found.held) (sym (ran.last j)))),
    )

-- what the bench answers is never more than the output has
pub answer_within : (file output : List ℕ) (answer : ℕ) (output_now : List ℕ) → BenchSays file output answer output_now → answer ≤ length output_now
unfolding in_front
answer_within file output answer output_now says = go (ltb (length output) listing_room) refl
  where
    go : (q : Bool) → ltb (length output) listing_room ≡ q → answer ≤ length output_now
    go true e = omega (arith, (says.short (ltb-true _ _ e)).0)
    go false e =
        let p = says.printed (ltb-false _ _ e) in
        omega (arith, p.2, ap length p.3 ∙ length-append p.0 (drop (length p.0) output))
