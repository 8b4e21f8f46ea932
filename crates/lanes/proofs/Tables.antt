-- Both tables of a value in one array. The low half of a constant and its high half each have a row, and the two rows added are the
-- product. Assumes nothing.
use mathlib.Core.Path.{◌≡◌, ◌∙◌, ap, ap₂}
use mathlib.Core.List.{List}
use Prim.Native.Nat.{ℕ, ◌+◌, ◌*◌, ◌/◌, ◌%◌, ◌≤◌, ◌<◌}
use native.Mathlib.Omega.{arith}
use native.Mathlib.Decide.{dec_lt}
use lib.ListN.{length, get_or}
use Rattle.arrays.specs.Array.{Written}
use Rattle.arrays.proofs.Written.{written_as}
use Rattle.field.specs.Field.{plus, doubled, times}
use Rattle.lanes.specs.Lanes.{row_width, multiple_rows, table_room, in_row, Tables, TablesPut, RowTablesPut}
use Rattle.lanes.proofs.Multiples.{times_halves}

-- a row of each, by the halves of a constant
pub halves_added :
    (at c to : ℕ) (f : ℕ → ℕ) (tables rows now : List ℕ) → c < 256 → ((p : ℕ) → f p < 256) → Tables at f tables →
    Written to row_width (λ p. plus (get_or rows (to + p) 0) (plus (get_or tables (at + row_width * (c % 16) + p) 0) (get_or tables (at + multiple_rows + row_width * (c / 16) + p) 0))) rows now →
    Written to row_width (λ p. plus (get_or rows (to + p) 0) (times (f p) c)) rows now
halves_added at c to f tables rows now h byte t w =
    written_as
    (λ p l.
    ap (plus (get_or rows (to + p) 0))
    (ap₂ plus
    (ap (λ (i : ℕ). get_or tables i 0) (let e : at + row_width * (c % 16) + p ≡ at + in_row (c % 16) p = omega arith in e) ∙ t.low (c % 16) p (omega arith) l)
    (ap (λ (i : ℕ). get_or tables i 0)
    (let e : at + multiple_rows + row_width * (c / 16) + p ≡ at + multiple_rows + in_row (c / 16) p = omega arith in e)
    ∙ t.high (c / 16) p (omega arith) l)
    ∙ times_halves (f p) c (byte p) h))
    w

-- the tables of rows, one row more
pub row_tables_more :
    (first many : ℕ) (f : ℕ → ℕ) (rows tables middle now : List ℕ) → first ≤ many → ((p : ℕ) → p < row_width → f p ≡ get_or rows (in_row many p) 0) →
    RowTablesPut first many rows tables middle → table_room * (many + 1) ≤ length tables → TablesPut (table_room * many) f middle now →
    RowTablesPut first (many + 1) rows tables now
row_tables_more first many f rows tables middle now some same t room w =
    record {
      long = w.long ∙ t.long;
      put = record { room = omega (arith, w.long, t.long); each = λ m h l. each m h l (dec_lt m many) };
      before = λ i h. w.before i (omega arith) ∙ t.before i h;
      after = λ i h. w.after i (omega arith) ∙ t.after i (omega arith);
    }
  where
    each : (m : ℕ) → first ≤ m → m < many + 1 → Dec (m < many) → Tables (table_room * m) (λ p. get_or rows (in_row m p) 0) now
    each m h l (yes a) =
        record {
          low = λ k p g o. w.before _ (omega arith) ∙ (t.put.each m h a).low k p g o;
          high = λ k p g o. w.before _ (omega arith) ∙ (t.put.each m h a).high k p g o;
        }
    each m h l (no a) =
        let e : m ≡ many = omega arith in
        rw e
        (record {
          low = λ k p g o. w.put.low k p g o ∙ ap (λ (b : ℕ). times b k) (same p o);
          high = λ k p g o. w.put.high k p g o ∙ ap (λ (b : ℕ). times (doubled (times b 8)) k) (same p o);
        })
