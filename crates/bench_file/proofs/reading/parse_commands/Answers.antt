-- `parse_commands` meets its contract. At each turn the file comes to what the commands from the place on come to, after what was said so
-- far; no more of them can come than there are bytes left. A step is a step of the definition. Assumes nothing.
use mathlib.Core.Path.{◌≡◌, refl, sym, ◌∙◌, ap}
use mathlib.Core.List.{List}
use Prim.Native.Nat.{ℕ, ◌-◌, ◌<◌}
use native.Mathlib.Omega.{arith}
use lib.ListN.{length, drop, length-drop}
use lib.Seq.{drop-drop}
use Rattle.std.proofs.lemmas.Result.{err_from_is_err_and}
use Rattle.std.specs.Prelude.{Some, None, Ok, Err}
use Rattle.refusal.specs.declared.Refusal.{Refusal}
use Rattle.refusal.proofs.Positive.{number-positive}
use Rattle.bench_file.specs.Command.{command_in, command_size, command_refusal}
use Rattle.bench_file.specs.File.{commands_from}
use Rattle.bench_file.specs.Steps.CommandAt.{Stepped}
use Rattle.bench_file.specs.Steps.Reading.{ParsedAs}
use Rattle.bench_file.specs.declared.places.Places.{Places}
use Rattle.bench_file.proofs.OneCommand.Readings.{command_fits}
use Rattle.bench_file.proofs.WholeFile.Commands.{command_le, refused_at, step_end, step_next, head_some}
use Rattle.bench_file.proofs.reading.parse_commands.Invariants.{whole, SoFar}
use Rattle.bench_file.proofs.reading.parse_commands.Goals as goal
use Rattle.bench_file.proofs.reading.parse_commands.Goals.{In-Some}

pub loop-next-init : goal.loop-next-init
unfolding whole
loop-next-init c =
    record { scenario = _; many = length c.args.file.now; located = c.requires.1; inside = c.requires.0; enough = omega arith; rest = refl }

-- a step: turned down, the end, or on
module _ (file : List ℕ) (places : Places) (at : ℕ) (i : SoFar file places at) where
  turned_down : (e : Refusal) (p : Places) → Stepped i.scenario file at (Err e) p → ParsedAs (whole file) file (Err e)
  unfolding Stepped ParsedAs
  turned_down e p h =
      let fault : command_refusal i.scenario (drop at file) ≡ 0 → ⊥ = λ z. absurd (omega (arith, h, z, number-positive e)) in
      rw (sym i.rest ∙ refused_at i.many i.scenario _ (omega (arith, length-drop at file, i.enough)) fault)
      (h, fault, command_le i.scenario (drop at file))

  -- a command has a byte, and all its bytes are there
  more : command_refusal i.scenario (drop at file) ≡ 0 → at < length file
  unfolding command_size
  more e = omega (arith, head_some (command_in (drop at file)), command_fits file i.scenario at i.inside e)

  ended : (p : Places) → Stepped i.scenario file at (Ok None) p → ParsedAs (whole file) file (Ok p)
  unfolding Stepped ParsedAs
  ended p h = rw (sym i.rest ∙ step_end i.many i.scenario _ (omega (arith, i.enough, more h.0)) h.0 h.1) h.2

  moved : (next : ℕ) (p : Places) → Stepped i.scenario file at (Ok (Some next)) p → (at < next) × SoFar file p next
  unfolding Stepped command_size
  moved next p h =
      let bs = drop at file in
      let some = head_some (command_in bs) in
      let there = command_fits file i.scenario at i.inside h.0 in
      let on = step_next i.many i.scenario bs (omega (arith, i.enough, more h.0)) h.0 h.1 in (
        omega (arith, h.2, some),
        record {
          scenario = _;
          many = i.many - 1;
          located = h.3;
          inside = omega (arith, h.2, there);
          enough = omega (arith, i.enough, h.2, some);
          rest = ap (commands_from (i.many - 1) _) (ap (λ (k : ℕ). drop k file) h.2 ∙ sym (drop-drop _ at file)) ∙ sym on ∙ i.rest;
        },
      )

pub returns-in_err-next : goal.returns-in_err-next
unfolding whole
returns-in_err-next c =
    let i = c.loop-next.invariant in
    let p = err_from_is_err_and c.from_residual.result c.from_residual.ensures.1 in
    rw (p.1, p.2) (turned_down c.args.file.now _ _ i _ _ (c.in_err-next.ensures i.scenario i.located))

-- the next turn of the loop
again :
    (c : In-Some) →
    let next = c.in-Some.next in
    (c.loop-next.at < next) × SoFar c.args.file.now c.step_from.new.places next
again c =
    let i = c.loop-next.invariant in
    moved c.args.file.now _ _ i _ _ (rw (c.in_ok-next.was, c.in-Some.is) at (c.step_from.ensures i.scenario i.located))

pub loop-next-smaller : goal.loop-next-smaller
loop-next-smaller c = let next = again c in omega (arith, next.0, next.1.inside)

pub loop-next-preserved : goal.loop-next-preserved
loop-next-preserved c = (again c).1

pub returns : goal.returns
unfolding whole
returns c =
    let i = c.loop-next.invariant in
    ended c.args.file.now _ _ i _ (rw (c.in_ok-next.was, c.in_default.is) at (c.step_from.ensures i.scenario i.located))
