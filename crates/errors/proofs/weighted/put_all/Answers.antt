-- `put_all` meets its contract: place after place. Assumes nothing.
use mathlib.Core.Path.{refl, sym, ◌∙◌}
use Prim.Native.Nat.{◌+◌, ◌*◌, ◌-◌}
use native.Mathlib.Omega.{arith}
use Rattle.lanes.specs.Lanes.{row_width}
use Rattle.code.specs.Size.{value_room}
use Rattle.errors.proofs.Told.{put_as, unmarked, told_none, told_more, told_whole}
use Rattle.errors.proofs.weighted.put_all.Goals as goal
use Rattle.errors.proofs.weighted.put_all.Goals.{then-not-is_zero, else-not-is_zero}

pub loop-j-init : goal.loop-j-init
loop-j-init g c = (c.requires.room.1, λ error small told. told_none error _ (λ i. (c.slice_known-1.given i).fits))

pub loop-j-preserved : goal.loop-j-preserved
loop-j-preserved g c = (
  c.if-not-is_zero.auto.weighted ∙ c.loop-j.invariant.0,
  λ error small told.
      told_more c.loop-j.j error _ _ _ (small c.loop-j.j) (c.loop-j.invariant.1 error small told)
      (elim c.if-not-is_zero.branch [
        | then-not-is_zero w ↦ rw w.weighted-is (put_as _ _ _ _ _ _ (told c.loop-j.j _ c.loop-j-test.true w.errors_at.ensures) w.put_errors.ensures)
        | else-not-is_zero w ↦
            let at = row_width * c.loop-j.j in
            rw w.weighted-is (unmarked value_room (at + value_room - at) _ _ _ (omega arith) (sym c.is_zero.ensures ∙ w.if-not-is_zero.false))
      ]),
)

pub returns : goal.returns
returns g c = λ error small told. told_whole _ _ error error _ _ (omega arith) (λ i p h. refl) (c.loop-j.invariant.1 error small told)
