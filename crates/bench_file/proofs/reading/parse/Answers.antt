-- `parse` meets its contract: too long, the group command, then the commands behind it. Assumes nothing.
use mathlib.Core.Path.{◌≡◌, sym}
use native.Mathlib.Omega.{arith}
use Rattle.std.proofs.lemmas.Result.{err_from_is_err_and}
use Rattle.refusal.proofs.Positive.{number-positive}
use Rattle.bench_file.specs.File.{group_refusal}
use Rattle.bench_file.specs.Steps.Reading.{ParsedAs}
use Rattle.bench_file.proofs.WholeFile.Commands.{group_le, group_fits, parse_refused, parse_passed}
use Rattle.bench_file.proofs.reading.parse.Goals as goal

pub returns-in_err-places : goal.returns-in_err-places
unfolding ParsedAs
returns-in_err-places c =
    let p = err_from_is_err_and c.from_residual.result c.from_residual.ensures.1 in
    let e = c.in_err-places in
    let turned_down : group_refusal c.args.file.now ≡ 0 → ⊥ = λ z. absurd (omega (arith, e.ensures.answer, z, number-positive e.field-0.0)) in
    rw (p.1, p.2) (rw (parse_refused c.args.file.now (omega arith) turned_down) (e.ensures.answer, turned_down, group_le c.args.file.now))

pub parse_commands-requires : goal.parse_commands-requires
parse_commands-requires c = ((group_fits c.args.file.now (sym c.in_ok-places.ensures.answer)).0, c.in_ok-places.ensures.located)

pub returns : goal.returns
returns c = rw (parse_passed c.args.file.now (omega arith) (sym c.in_ok-places.ensures.answer)) c.parse_commands.ensures
