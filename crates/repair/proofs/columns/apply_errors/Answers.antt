-- `apply_errors` meets its contract: each turn writes one more column behind those before it. Assumes nothing.
use mathlib.Core.Path.{◌≡◌, ap}
use Prim.Native.Nat.{ℕ, ◌+◌, ◌*◌, ◌≤◌, ◌<◌}
use native.Mathlib.Omega.{arith}
use Rattle.arrays.proofs.Bytes.{bytes_every}
use Rattle.code.proofs.Vectors.Cut.{value_fits}
use Rattle.repair.proofs.ColumnErrors.{mended_none, mended_more, mended_whole}
use Rattle.repair.proofs.columns.apply_errors.Goals as goal

pub loop-k-init : goal.loop-k-init
loop-k-init c = mended_none _ _ _ _

pub loop-k-preserved : goal.loop-k-preserved
loop-k-preserved c =
    let l = c.loop-k in
    let a = c.args in
    let w = c.size-size.result in
    let turn : l.k < a.settings.n = omega (arith, c.loop-k-test.true, c.columns-k-end.ensures.value) in
    let fits : l.k * w + w ≤ a.settings.n * w = value_fits l.k a.settings.n w turn in
    let all : a.settings.n * w ≡ a.settings.n * a.settings.w = ap (λ (i : ℕ). a.settings.n * i) c.size-size.ensures.value in
    mended_more l.k w _ a.vector.now a.weighted.now a.output.now l.output _ l.invariant (omega (arith, c.columns-k-end.ensures)) (omega (arith, c.size-size.ensures))
    (omega (arith, c.requires)) (omega (arith, c.size-size.ensures, c.columns-k-end.ensures)) (omega (arith, c.requires))
    (c.inverse_weights-constants.ensures.new l.k (omega (arith, c.columns-k-end.ensures))) (bytes_every a.vector.now (λ i. (c.type_inv.vector i).fits))
    c.add_errors.ensures

pub returns : goal.returns
returns c =
    rw c.size-size.ensures.value at (mended_whole _ _ _ _ _ _ _ (let e : c.loop-k.k ≡ c.args.settings.n = omega (arith, c.columns-k-end.ensures.value) in e) c.loop-k.invariant)
