-- `seek_long` meets its contract: plane after plane, by its locator's coefficients. Assumes nothing.
use mathlib.Core.Path.{◌≡◌, refl, sym, ◌∙◌, subst}
use Prim.Native.Nat.{ℕ, ◌+◌, ◌<◌}
use native.Mathlib.Omega.{arith}
use lib.ListN.{get_or, set}
use lib.Seq.{length-take-le, get_or-take}
use Rattle.code.specs.Size.{value_room}
use Rattle.locator.specs.Reached.{Comes}
use Rattle.locator.specs.declared.locators.Locator.{Locator}
use Rattle.search.specs.Steps.{AllSought}
use Rattle.search.proofs.Seeking.{seeks_found, sought_none, sought_more}
use Rattle.search.proofs.locators.seek_long.Goals as goal

pub loop-p-init : goal.loop-p-init
loop-p-init c = sought_none _ _ _ _ _ refl refl refl refl

pub loop-p-preserved : goal.loop-p-preserved
loop-p-preserved c =
    let s = c.args.settings in
    let l = c.loop-p in
    let plane = c.plane-item.result in
    let turn : l.p < c.size-planes.result = omega (arith, c.loop-p-test.true, length-take-le c.size-planes.result c.locate_all-found.result (omega (arith, c.locate_all-found.ensures.long, c.size-planes.ensures))) in
    let inside : l.p < value_room = omega (arith, c.size-planes.ensures) in
    let is : plane ≡ get_or c.locate_all-found.result l.p plane = c.plane-item.is ∙ get_or-take c.size-planes.result c.locate_all-found.result l.p plane turn in
    let comes : Comes c.check_count.result l.p c.args.sums.now plane =
    subst (λ (x : Locator). Comes c.check_count.result l.p c.args.sums.now x) (sym is) (c.locate_all-found.ensures.each l.p plane turn) in
    subst (λ (k : ℕ). AllSought (l.p + 1) k s.t c.args.sums.now (set l.roots l.p c.put_found.result) c.put_found.new.rows) c.check_count.ensures.value
    (sought_more l.p c.check_count.result s.t _ _ _ _ _ inside
    (seeks_found l.p c.check_count.result s.t _ _ _ _ c.requires _ (c.polynomial.ensures ∙ comes.coefficients) (rw c.bad.ensures.value at c.put_found.ensures))
    (subst (λ (k : ℕ). AllSought l.p k s.t c.args.sums.now l.roots l.rows) (sym c.check_count.ensures.value) l.invariant))
