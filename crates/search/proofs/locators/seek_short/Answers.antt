-- `seek_short` meets its contract: the planes below p were all in geometric progression, and look for what their ratios say.
-- Assumes nothing.
use mathlib.Core.Path.{◌≡◌, refl, ◌∙◌, subst}
use Prim.Native.Nat.{◌*◌, ℕ}
use native.Mathlib.Omega.{arith}
use lib.ListN.{length-set}
use Rattle.search.specs.Steps.{ShortAll}
use Rattle.search.proofs.Seeking.{short_long, seeks_geometric, sought_none, sought_more}
use Rattle.search.proofs.locators.seek_short.Goals as goal

pub loop-p-init : goal.loop-p-init
loop-p-init c = (refl, refl, λ t some. sought_none _ _ _ _ _ refl refl refl refl)

pub loop-p-preserved : goal.loop-p-preserved
loop-p-preserved c =
    let y = c.args in
    let inside = c.loop-p-test.true in (
      length-set c.loop-p.roots c.loop-p.p c.put_short.result ∙ c.loop-p.invariant.0,
      short_long c.loop-p.p _ _ _ _ _ c.put_short.ensures ∙ c.loop-p.invariant.1,
      λ t some.
          sought_more c.loop-p.p c.check_count-count.result t _ _ _ _ _ (omega (arith, inside, c.size-p-end.ensures))
          (seeks_geometric c.loop-p.p c.check_count-count.result t _ _ _ _ some _ _ c.if-not-is_geometric.false (omega (arith, c.check_count-count.ensures.value)) (omega arith) c.fits-sums c.is_geometric.ensures c.put_short.ensures)
          (c.loop-p.invariant.2 t some),
    )

pub returns : goal.returns
returns c =
    let y = c.args in
    subst (λ (p : ℕ). ShortAll p (2 * y.settings.t) y.sums.now c.loop-p.roots c.loop-p.rows) (let e : c.loop-p.p ≡ y.settings.w = omega (arith, c.size-p-end.ensures) in e)
    (subst (λ (k : ℕ). ShortAll c.loop-p.p k y.sums.now c.loop-p.roots c.loop-p.rows) c.check_count-count.ensures.value c.loop-p.invariant.2)
