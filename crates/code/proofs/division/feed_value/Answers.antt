-- `feed_value` meets its contract: each turn is a step in one more plane. Assumes nothing.
use mathlib.Core.Path.{◌≡◌, ◌∙◌}
use Prim.Native.Nat.{◌<◌}
use native.Mathlib.Omega.{arith}
use Rattle.code.specs.Size.{value_room}
use Rattle.code.proofs.Encoding.Feeding.{shaped_more, fed_more, fed_to}
use Rattle.code.proofs.division.feed_value.Goals as goal

pub feed-requires : goal.feed-requires
feed-requires g c =
    let shaped = c.loop-p.invariant.0 in
    (c.requires.rows.1, omega (arith, c.requires.rows.0, c.requires.s_lt_most_columns, shaped.each c.loop-p.p (omega (arith, c.requires.s_lt_most_columns))))

pub loop-p-preserved : goal.loop-p-preserved
loop-p-preserved g c =
    let shaped = c.loop-p.invariant.0 in
    let inside : c.loop-p.p < value_room = omega (arith, c.requires.s_lt_most_columns.1) in (
      shaped_more c.loop-p.p c.loop-p.windows _ shaped inside (c.feed.auto.window ∙ shaped.each c.loop-p.p inside) c.feed.ensures.bytes,
      λ hs byte t. fed_more c.loop-p.p c.loop-p.windows _ shaped inside _ _ _ _ _ (c.loop-p.invariant.1 hs byte t) (c.feed.ensures.added hs byte t),
    )

pub returns : goal.returns
returns g c = (c.loop-p.invariant.0, λ hs byte t. fed_to (let e : c.loop-p.p ≡ _ = omega arith in e) (c.loop-p.invariant.1 hs byte t))
