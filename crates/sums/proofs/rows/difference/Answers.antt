-- `difference` meets its contract: each turn adds one more value of either list, and the rows above it stay zero. Assumes nothing.
use mathlib.Core.Path.{refl}
use Rattle.sums.proofs.Sums.CheckRows.{values_none, values_more}
use Rattle.sums.proofs.rows.difference.Goals as goal

pub loop-c-init : goal.loop-c-init
loop-c-init c = values_none _ _ _ _ refl refl

pub loop-c-preserved : goal.loop-c-preserved
loop-c-preserved c = values_more c.loop-c.c c.args.size _ _ _ _ _ c.requires.1 refl c.loop-c.invariant c.sum_bytes.ensures
