-- `message` meets its contract: what is kept for the message. Assumes nothing.
use Rattle.bench_file.proofs.places.Places.message.Goals as goal

pub returns : goal.returns
returns c file f h = rw c.index_of_message.ensures.0 (h.messages _ _ _ c.requires)
