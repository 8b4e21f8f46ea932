-- `body_size` meets its contract: settings that are allowed are small. Assumes nothing.
use Rattle.bench_file.proofs.OneCommand.Faults.{small_settings}
use Rattle.bench_file.proofs.commands.Command.body_size.Goals as goal

pub operand_size-requires : goal.operand_size-requires
operand_size-requires c = let s = small_settings c.args.settings in (s.1, s.2)

pub operand_size-requires-in-Checks : goal.operand_size-requires-in-Checks
operand_size-requires-in-Checks c = let s = small_settings c.args.settings in (s.1, s.2)
