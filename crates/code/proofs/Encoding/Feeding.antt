-- A step of the registers, by the tables of the feedback's rows: row after row is added behind the byte that is taken out, in one plane's
-- window, and plane after plane. Assumes nothing.
use mathlib.Core.Path.{◌≡◌, refl, ◌∙◌, ap, ap₂, subst}
use mathlib.Core.List.{List, []}
use Prim.Native.Nat.{ℕ, ◌+◌, ◌*◌, ◌-◌, ◌<◌}
use native.Mathlib.Omega.{arith}
use native.Mathlib.Decide.{ℕ_discrete, dec_lt}
use lib.ListN.{length, get_or, set, length-set}
use lib.Seq.{get_or-set_same, get_or-set_other}
use Rattle.arrays.specs.Array.{Written}
use Rattle.field.specs.Field.{plus, times}
use Rattle.lanes.specs.Lanes.{row_width, in_row}
use Rattle.code.specs.Size.{value_room, window_room}
use Rattle.code.specs.Steps.Windows.{RowsAdded, Shaped, byte_in, Fed}

-- row after row
pub rows_none : (at out : ℕ) (feedback bytes : List ℕ) → RowsAdded at 0 out feedback bytes bytes
rows_none at out feedback bytes = record { long = refl; new = λ j h. absurd (omega arith); before = λ i h. refl; after = λ i h. refl }

pub rows_more :
    (at to k out : ℕ) (feedback bytes middle now : List ℕ) → to ≡ at + row_width * k → RowsAdded at k out feedback bytes middle →
    Written to row_width (λ p. plus (get_or middle (to + p) 0) (times (get_or feedback (in_row k p) 0) out)) middle now →
    RowsAdded at (k + 1) out feedback bytes now
rows_more at to k out feedback bytes middle now e w v =
    record {
      long = v.long ∙ w.long;
      new = λ j h. go j h (dec_lt j (row_width * k));
      before = λ i h. v.before i (omega arith) ∙ w.before i h;
      after = λ i h. v.after i (omega arith) ∙ w.after i (omega arith);
    }
  where
    go : (j : ℕ) → j < row_width * (k + 1) → Dec (j < row_width * k) → get_or now (at + j) 0 ≡ plus (get_or bytes (at + j) 0) (times (get_or feedback j 0) out)
    go j h (yes a) = v.before (at + j) (omega arith) ∙ w.new j a
    go j h (no a) =
        ap (λ (i : ℕ). get_or now i 0) (let q : at + j ≡ to + (j - row_width * k) = omega arith in q) ∙ v.new (j - row_width * k) (omega arith)
        ∙ ap₂ (λ (x y : ℕ). plus x (times (get_or feedback y 0) out))
        (ap (λ (i : ℕ). get_or middle i 0) (let q : to + (j - row_width * k) ≡ at + j = omega arith in q) ∙ w.after (at + j) (omega arith))
        (let q : in_row k (j - row_width * k) ≡ j = omega arith in q)

pub rows_to :
    (at k rows out : ℕ) (feedback bytes now : List ℕ) → k ≡ rows → RowsAdded at k out feedback bytes now → RowsAdded at rows out feedback bytes now
rows_to at k rows out feedback bytes now e w = subst (λ (i : ℕ). RowsAdded at i out feedback bytes now) e w

-- plane after plane
pub fed_none : (rows s : ℕ) (feedback value : List ℕ) (windows : List (List ℕ)) → Fed 0 rows s feedback value windows windows
fed_none rows s feedback value windows = record { fed = λ p h. absurd (omega arith); other = λ p h. refl }

-- a window that a call has written
module _ (q : ℕ) (middle : List (List ℕ)) (now : List ℕ) (shaped : Shaped middle) (inside : q < value_room) where
  pub shaped_more : length now ≡ window_room → ((i : ℕ) → get_or now i 0 < 256) → Shaped (set middle q now)
  shaped_more e b =
      record {
        long = length-set middle q now ∙ shaped.long;
        each = λ p h. long_at p h (ℕ_discrete p q);
        bytes = λ p i h. byte p i h (ℕ_discrete p q);
      }
    where
      long_at : (p : ℕ) → p < value_room → Dec (p ≡ q) → length (get_or (set middle q now) p []) ≡ window_room
      long_at p h (yes a) = rw (a, get_or-set_same middle q now [] (omega (arith, shaped.long))) e
      long_at p h (no n) = rw (get_or-set_other middle q p now [] n) (shaped.each p h)

      byte : (p i : ℕ) → p < value_room → Dec (p ≡ q) → get_or (get_or (set middle q now) p []) i 0 < 256
      byte p i h (yes a) = rw (a, get_or-set_same middle q now [] (omega (arith, shaped.long))) (b i)
      byte p i h (no n) = rw (get_or-set_other middle q p now [] n) (shaped.bytes p i h)

  pub fed_more :
      (rows s : ℕ) (feedback value : List ℕ) (windows : List (List ℕ)) → Fed q rows s feedback value windows middle →
      RowsAdded (s + 1) rows (plus (get_or value q 0) (byte_in q s middle)) feedback (get_or middle q []) now →
      Fed (q + 1) rows s feedback value windows (set middle q now)
  fed_more rows s feedback value windows w v =
      record { fed = λ p h. go p h (ℕ_discrete p q); other = λ p h. get_or-set_other middle q p now [] (omega arith) ∙ w.other p (omega arith) }
    where
      go : (p : ℕ) → p < q + 1 → Dec (p ≡ q) →
          RowsAdded (s + 1) rows (plus (get_or value p 0) (byte_in p s windows)) feedback (get_or windows p []) (get_or (set middle q now) p [])
      go p h (yes a) =
          rw (a, get_or-set_same middle q now [] (omega (arith, shaped.long)))
          (subst (λ (old : List ℕ). RowsAdded (s + 1) rows (plus (get_or value q 0) (get_or old s 0)) feedback old now) (w.other q (omega arith)) v)
      go p h (no n) = rw (get_or-set_other middle q p now [] n) (w.fed p (omega arith))

pub fed_to :
    {p planes rows s : ℕ} {feedback value : List ℕ} {windows now : List (List ℕ)} → p ≡ planes → Fed p rows s feedback value windows now →
    Fed planes rows s feedback value windows now
fed_to {p} {planes} {rows} {s} {feedback} {value} {windows} {now} e w = subst (λ (i : ℕ). Fed i rows s feedback value windows now) e w
