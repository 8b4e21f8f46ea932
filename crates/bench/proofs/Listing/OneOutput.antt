-- What the bench prints of a file is one text: whatever the file says, its own values can be opened with, and a group of such columns has
-- one listing. Assumes nothing.
use mathlib.Core.Path.{◌≡◌, refl, sym, ◌∙◌}
use mathlib.Core.List.{List}
use Prim.Native.Nat.{ℕ}
use Rattle.bench_file.specs.Scenario.{Scenario}
use Rattle.bench_file.specs.File.{Parse, refused, parsed, parse_file}
use Rattle.bench_file.proofs.WholeFile.Sound.{Sound, file_sound}
use Rattle.bench.specs.Entry.{Printed}
use Rattle.bench.specs.Promise.{OneListing, OneOutput}
use Rattle.bench.proofs.Running.OneRun.{one_listing}

printed_once : (t : Parse) (a b : List ℕ) → ((g : Scenario) → t ≡ parsed g → Sound g) → Printed t a → Printed t b → a ≡ b
unfolding Printed OneListing
printed_once (refused n) a b h x y = x ∙ sym y
printed_once (parsed f) a b h x y = x.3 ∙ one_listing f x.0 y.0 x.1 y.1 (h f refl).opens x.2 y.2 ∙ sym y.3

pub one_output : OneOutput
unfolding OneOutput
one_output file a b x y = printed_once (parse_file file) a b (file_sound file) x y
