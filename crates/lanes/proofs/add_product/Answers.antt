-- `add_product` meets its contract: what is added and what the bits left would add is the product. Assumes nothing.
use mathlib.Core.Path.{◌≡◌, refl, ◌∙◌}
use native.Mathlib.Omega.{arith}
use Rattle.lanes.proofs.Bits.{bits_none, bits_more, bits_whole}
use Rattle.lanes.proofs.add_product.Goals as goal

pub loop-k-init : goal.loop-k-init
loop-k-init c = (refl, λ f d. bits_none _ _ f _ _ d (λ i. (c.type_inv.rows i).fits))

pub loop-k-preserved : goal.loop-k-preserved
loop-k-preserved c =
    let inv = c.loop-k.invariant in
    (c.add_where.ensures.long ∙ inv.0, λ f d. bits_more _ _ f _ _ d _ _ _ _ (omega arith) (omega arith) (inv.1 f d) c.add_where.ensures)

pub returns : goal.returns
returns c = λ f d. bits_whole _ _ f _ _ d _ _ _ (let e : c.loop-k.k ≡ 9 = omega arith in e) (c.loop-k.invariant.1 f d)
