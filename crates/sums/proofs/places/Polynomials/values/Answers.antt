-- `values` meets its contract: each turn adds the next term of every plane's polynomial. Assumes nothing.
use mathlib.Core.Path.{◌∙◌}
use native.Mathlib.Omega.{arith}
use Rattle.field.proofs.Table.{powers_at}
use Rattle.sums.proofs.AtPlace.Powers.{place_power_first, place_power_next}
use Rattle.sums.proofs.AtPlace.Polynomials.{values_first, values_more}
use Rattle.sums.proofs.places.Polynomials.values.Goals as goal

pub loop-m-init : goal.loop-m-init
loop-m-init c = (
  omega arith,
  place_power_first c.args.exponent,
  values_first c.args.exponent c.args.self.now.rows.now c.first_row-row.ensures.bytes _ c.first_row-row.ensures.row.long c.first_row-row.ensures.row.new,
)

pub loop-m-preserved : goal.loop-m-preserved
loop-m-preserved c =
    let rows = c.args.self.now.rows.now in
    let byte = c.first_row-row.ensures.bytes in
    let m = c.loop-m.m in (
      c.step_on-raised.ensures.0,
      place_power_next c.args.exponent m c.loop-m.raised _ c.loop-m.invariant.1 c.step_on-raised.ensures.1,
      values_more c.args.exponent rows byte m _ _ _ (powers_at _ c.requires.0 _ c.loop-m.invariant.0 ∙ c.loop-m.invariant.1) c.loop-m.invariant.2
          (c.add_from_tables.ensures _ (λ p. byte _) (c.args.self.now.made.each m (omega arith) (omega arith))),
    )
