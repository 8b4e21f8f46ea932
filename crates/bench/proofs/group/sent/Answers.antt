-- `sent` meets its contract: what `send` wrote in front of the array. Assumes nothing.
use mathlib.Core.Path.{◌∙◌, ap}
use lib.ListN.{take}
use Rattle.arrays.proofs.Front.{front_value}
use Rattle.record.specs.Record.{who_as}
use Rattle.record.specs.View.{settings_of, who_in, view}
use Rattle.column.specs.Call.{FrameOf}
use Rattle.record.specs.Frame.{frame_size}
use Rattle.bench.specs.Steps.Running.{frame_bytes, Sends}
use Rattle.bench.proofs.group.sent.Goals as goal

pub returns : goal.returns
unfolding Sends frame_bytes FrameOf view who_in who_as
returns c h =
    let says = c.send.ensures in
    let wrote = says.done (says.answered ∙ h) in
    let column = c.args.column.now in
    let kept = ap (take (frame_size (settings_of column.who) column.round)) wrote.2 ∙ front_value wrote.0 _ _ wrote.1.1 in
    rw kept wrote.1
