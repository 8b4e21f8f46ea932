-- `send` meets its contract: a frame is made of a part of the record. Assumes nothing.
use Rattle.column.proofs.Sent.{spoken_by}
use Rattle.column.proofs.send.Goals as goal

pub returns : goal.returns
returns c = spoken_by c.args.column.now _ _ _ c.send_by.ensures
