-- `group` meets its contract: the settings are those of the three bytes. Assumes nothing.
use mathlib.Core.Path.{◌≡◌, sym}
use Rattle.code.specs.Settings.{settings}
use Rattle.bench_file.specs.File.{group_in}
use Rattle.bench_file.specs.Steps.Places.{group_of}
use Rattle.bench_file.proofs.reading.group.Goals as goal

pub returns-clause-located : goal.returns-clause-located
unfolding group_in settings
returns-clause-located c =
    let file = c.args.file.now in
    let same = c.in_ok-settings.ensures.same in
    let e : group_of c.in_ok-settings.settings ≡ group_in file =
    simp (same.0, same.1, same.2, c.byte_at.ensures.0, c.byte_at-2.ensures.0, c.byte_at-3.ensures.0) in
    rw (sym e) (c.only_settings.ensures file c.in_ok-settings.settings.allowed)
