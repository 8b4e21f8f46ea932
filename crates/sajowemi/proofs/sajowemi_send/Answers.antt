-- `sajowemi_send` meets its contract: a frame is made of a part of the record. Assumes nothing.
use Rattle.column.proofs.Sent.{spoken_by}
use Rattle.sajowemi.proofs.sajowemi_send.Goals as goal

pub returns : goal.returns
returns c = rw c.answer.ensures (spoken_by c.args.column _ _ _ c.send_by.ensures)
