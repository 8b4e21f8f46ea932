-- `feed` meets its contract: row after row is added, one behind the other. Assumes nothing.
use mathlib.Core.Path.{◌≡◌, subst}
use mathlib.Core.List.{List}
use Prim.Native.Nat.{ℕ, ◌+◌}
use native.Mathlib.Omega.{arith}
use lib.ListN.{get_or}
use Rattle.arrays.specs.Array.{Written}
use Rattle.field.specs.Field.{plus, times}
use Rattle.lanes.specs.Lanes.{row_width, in_row}
use Rattle.code.proofs.Encoding.Feeding.{rows_none, rows_more, rows_to}
use Rattle.code.proofs.division.feed.Goals as goal

-- a row that a call has added, by what is taken out
row_added :
    (to k c out : ℕ) (hs bytes now : List ℕ) → c ≡ out → Written to row_width (λ p. plus (get_or bytes (to + p) 0) (times (get_or hs (in_row k p) 0) c)) bytes now →
    Written to row_width (λ p. plus (get_or bytes (to + p) 0) (times (get_or hs (in_row k p) 0) out)) bytes now
row_added to k c out hs bytes now e w = subst (λ (x : ℕ). Written to row_width (λ p. plus (get_or bytes (to + p) 0) (times (get_or hs (in_row k p) 0) x)) bytes now) e w

pub loop-k-init : goal.loop-k-init
loop-k-init g c = (λ i. (c.type_inv.window i).fits, λ hs byte t. rows_none _ _ hs _)

pub loop-k-preserved : goal.loop-k-preserved
loop-k-preserved g c = (
  λ i. (c.type_inv.window i).fits,
  λ hs byte t.
      rows_more _ _ c.loop-k.k _ hs _ _ _ (omega arith) (c.loop-k.invariant.1 hs byte t)
      (row_added _ c.loop-k.k _ _ hs _ _ c.sum-out.ensures
      (c.add_from_tables.ensures (λ p. get_or hs (in_row c.loop-k.k p) 0) (λ p. byte _) (t.each c.loop-k.k (omega arith) (omega arith)))),
)

pub returns : goal.returns
returns g c = record {
  bytes = c.loop-k.invariant.0;
  added = λ hs byte t. rows_to _ _ _ _ hs _ _ (let e : c.loop-k.k ≡ g.row.ROWS = omega arith in e) (c.loop-k.invariant.1 hs byte t);
}
