-- `checks_size` meets its contract: it is the operand's size of a later round. Assumes nothing.
use native.Mathlib.Omega.{arith}
use Rattle.code.specs.Settings.{settings, check_count, value_size}
use Rattle.code.proofs.ValidSettings.{sizes}
use Rattle.record.specs.Frame.{operand_size}
use Rattle.rounds.specs.Steps.Senders.{coded_settings}
use Rattle.rounds.proofs.coded.Coded.checks_size.Goals as goal

pub operand_size-requires : goal.operand_size-requires
unfolding settings
operand_size-requires c = let z = sizes _ c.args.self.now.settings.allowed in (omega arith, z.few_bytes)

pub returns : goal.returns
unfolding coded_settings operand_size settings check_count value_size
returns c = c.operand_size.ensures
