-- `found_after` meets its contract: the settings of a record that is not refused are allowed. Assumes nothing.
use mathlib.Core.Path.{◌∙◌}
use Rattle.refusal.proofs.Positive.{ok-from_zero}
use Rattle.code.specs.Settings.{settings}
use Rattle.record.specs.Record.{who_as}
use Rattle.record.specs.View.{settings_of, who_in, view}
use Rattle.record.proofs.Refusal.{close_record, record_settings}
use Rattle.rounds.proofs.closing.found_after.Goals as goal

pub unwrap-requires : goal.unwrap-requires
unfolding view who_in who_as settings_of settings
unwrap-requires c = ok-from_zero _ (c.new.ensures.answer ∙ record_settings _ (close_record (view c.args.column.now) c.requires))
