-- The registers of all planes in their windows. What a plane has left is its window with the columns to come added: with no column taken in
-- the windows are zeros, and that is the columns; and a step on the window is a step of the division on it, since the byte that comes in is
-- the column's that stands there. Assumes nothing.
use mathlib.Core.Path.{◌≡◌, refl, sym, ◌∙◌, ap, ap₂, subst}
use mathlib.Core.List.{List, []}
use Prim.Native.Nat.{ℕ, suc, ◌+◌, ◌*◌, ◌-◌, ◌≤◌, ◌<◌}
use native.Mathlib.Omega.{arith}
use native.Mathlib.Decide.{dec_lt}
use lib.ListN.{length, get_or, take, drop, length-reverse, replicate, get_or-replicate, get_or-eq_default}
use lib.Seq.{length-take-le, get_or-take}
use Rattle.arrays.proofs.Bytes.{Bytes, byte_at, bytes_every, bytes_take, bytes_reverse, get_or_reverse}
use Rattle.arrays.proofs.Zeros.{zeros_at}
use Rattle.field.specs.Field.{plus, times, power}
use Rattle.field.proofs.Xor.{plus_comm, plus_assoc, plus_zero, zero_plus}
use Rattle.field.proofs.Times.{zero_times, one_times}
use Rattle.field.proofs.Power.{power_zero}
use Rattle.field.proofs.Logarithm.{times_comm}
use Rattle.lanes.specs.Lanes.{row_width}
use Rattle.code.specs.Size.{value_room, window_room}
use Rattle.code.specs.Polynomial.{eval, added}
use Rattle.code.specs.Vector.{plane, cut}
use Rattle.code.specs.Steps.Windows.{Shaped, byte_in, window, taken_in, Fed, Divided}
use Rattle.code.proofs.Polynomials.Arithmetic.{eval_lt, eval_added, eval_ext, get_or_added, bytes_added, length_added}
use Rattle.code.proofs.Vectors.Planes.{plane_bytes}
use Rattle.code.proofs.Vectors.Cut.{cut_values, plane_cut, plane_cut_length}
use Rattle.code.proofs.Encoding.Division.{step_left}

-- the bytes of a window
module _ (p many : ℕ) (windows : List (List ℕ)) (inside : p < value_room) (narrow : many ≤ window_room) (shaped : Shaped windows) where
  pub window_length : length (window p many windows) ≡ many
  window_length = length-take-le many (get_or windows p []) (omega (arith, shaped.each p inside))

  pub window_at : (i : ℕ) → i < many → get_or (window p many windows) i 0 ≡ byte_in p i windows
  window_at i h = get_or-take many (get_or windows p []) i 0 h

  pub window_bytes : Bytes (window p many windows)
  window_bytes = bytes_take many (get_or windows p []) (bytes_every (get_or windows p []) (λ i. shaped.bytes p i inside))

-- the columns to come
module _ (n size p : ℕ) (vector : List ℕ) where
  pub coming_length : length (taken_in n size p vector) ≡ n
  coming_length = length-reverse (plane p (cut n size vector)) ∙ plane_cut_length p n size vector

  pub coming_bytes : n * size ≤ length vector → Bytes vector → Bytes (taken_in n size p vector)
  coming_bytes whole byte = bytes_reverse (plane p (cut n size vector)) (plane_bytes p size (cut n size vector) (cut_values n size vector whole byte))

-- the column that comes next
pub comes_next :
    (n size s p : ℕ) (vector : List ℕ) → s < n → p < size → get_or (taken_in n size p vector) s 0 ≡ get_or vector ((n - 1 - s) * size + p) 0
comes_next n size s p vector h l =
    let long = plane_cut_length p n size vector in
    get_or_reverse (plane p (cut n size vector)) s (omega arith)
    ∙ ap (λ (k : ℕ). get_or (plane p (cut n size vector)) k 0) (let e : length (plane p (cut n size vector)) - 1 - s ≡ n - 1 - s = omega arith in e)
    ∙ plane_cut n size p vector (n - 1 - s) (omega arith) l

-- no column taken in
abbrev pub no_windows : List (List ℕ)
no_windows = replicate value_room (replicate window_room 0)

zero_in : (p : ℕ) → p < value_room → get_or no_windows p [] ≡ replicate window_room 0
zero_in p h = get_or-replicate value_room p (replicate window_room 0) [] h

shaped_none : Shaped no_windows
shaped_none =
    record {
      long = refl;
      each = λ p h. ap length (zero_in p h);
      bytes = λ p i h. omega (arith, ap (λ (w : List ℕ). get_or w i 0) (zero_in p h), zeros_at window_room i);
    }

pub divided_none : (n size many : ℕ) (hs vector : List ℕ) → size ≤ value_room → many ≤ window_room → Divided 0 n size many hs vector no_windows
unfolding eval
divided_none n size many hs vector few narrow = record { shaped = shaped_none; value = value }
  where
    value :
        (p r : ℕ) → p < size → r < 256 → times r (eval hs r) ≡ 1 →
        times (power r 0) (eval (added (window p many no_windows) (taken_in n size p vector)) r) ≡ eval (taken_in n size p vector) r
    value p r h l e =
        ap (λ (x : ℕ). times x (eval (added (window p many no_windows) (taken_in n size p vector)) r)) (power_zero r)
        ∙ one_times (eval (added (window p many no_windows) (taken_in n size p vector)) r) (eval_lt (added (window p many no_windows) (taken_in n size p vector)) r)
        ∙ eval_added (window p many no_windows) (taken_in n size p vector) r l
        ∙ ap (λ (x : ℕ). plus x (eval (taken_in n size p vector) r)) (eval_ext (window p many no_windows) [] r l (λ i. empty i (dec_lt i many)))
        ∙ zero_plus (eval (taken_in n size p vector) r) (eval_lt (taken_in n size p vector) r)
      where
        empty : (i : ℕ) → Dec (i < many) → get_or (window p many no_windows) i 0 ≡ 0
        empty i (yes a) = window_at p many no_windows (omega arith) narrow shaped_none i a ∙ ap (λ (w : List ℕ). get_or w i 0) (zero_in p (omega arith)) ∙ zeros_at window_room i
        empty i (no a) = get_or-eq_default (window p many no_windows) 0 (omega (arith, window_length p many no_windows (omega arith) narrow shaped_none))

-- one more
module _
    (s n size count rows : ℕ) (feedback value vector : List ℕ) (bytes now : List (List ℕ)) (next : s < n) (few : size ≤ value_room) (narrow : n + count ≤ window_room) (room : s + 1 + row_width * rows ≤ window_room)
    (enough : count ≤ row_width * rows) (some : count ≤ length feedback) (fits : (j : ℕ) → get_or feedback j 0 < 256) (behind : (j : ℕ) → count ≤ j → get_or feedback j 0 ≡ 0)
    (whole : n * size ≤ length vector) (byte : Bytes vector) (comes : (p : ℕ) → p < size → get_or value p 0 ≡ get_or (taken_in n size p vector) s 0)
    (d : Divided s n size (n + count) (take count feedback) vector bytes) (fed : Fed size rows s feedback value bytes now) (now_shaped : Shaped now)
  where
    module _ (p : ℕ) (inside : p < size) where
      abbrev coming : List ℕ
      coming = taken_in n size p vector

      abbrev left : List (List ℕ) → List ℕ
      left windows = added (window p (n + count) windows) coming

      left_length : (windows : List (List ℕ)) → Shaped windows → length (left windows) ≡ n + count
      left_length windows l =
          let e = window_length p (n + count) windows (omega arith) narrow l in
          length_added (window p (n + count) windows) coming (omega (arith, coming_length n size p vector)) ∙ e

      left_bytes : (windows : List (List ℕ)) → Shaped windows → Bytes (left windows)
      left_bytes windows l = bytes_added (window p (n + count) windows) coming (window_bytes p (n + count) windows (omega arith) narrow l) (coming_bytes n size p vector whole byte)

      left_at :
          (windows : List (List ℕ)) → Shaped windows → (i : ℕ) → i < n + count → get_or (left windows) i 0 ≡ plus (byte_in p i windows) (get_or coming i 0)
      left_at windows l i h =
          get_or_added (window p (n + count) windows) coming i (window_bytes p (n + count) windows (omega arith) narrow l) (coming_bytes n size p vector whole byte)
          ∙ ap (λ (x : ℕ). plus x (get_or coming i 0)) (window_at p (n + count) windows (omega arith) narrow l i h)

      -- what a step takes out
      out : plus (get_or value p 0) (byte_in p s bytes) ≡ get_or (left bytes) s 0
      out =
          plus_comm _ _ ∙ ap (plus (byte_in p s bytes)) (comes p inside)
          ∙ sym (left_at bytes d.shaped s (omega arith))

      added_later : (a b c : ℕ) → plus (plus a b) c ≡ plus (plus a c) b
      added_later a b c = plus_assoc a b c ∙ ap (plus a) (plus_comm b c) ∙ sym (plus_assoc a c b)

      behind_s : (j : ℕ) → suc s + j ≡ s + 1 + j
      behind_s j = omega arith

      -- the byte behind, with what it is fed
      stepped :
          (j : ℕ) → j < row_width * rows → suc s + j < n + count →
          get_or (left now) (suc s + j) 0 ≡ plus (get_or (left bytes) (suc s + j) 0) (times (get_or (left bytes) s 0) (get_or feedback j 0))
      stepped j h l =
          left_at now now_shaped (suc s + j) l
          ∙ ap (λ (x : ℕ). plus x (get_or coming (suc s + j) 0))
          (ap (λ (i : ℕ). byte_in p i now) (behind_s j) ∙ (fed.fed p inside).new j h
          ∙ ap₂ plus (ap (λ (i : ℕ). byte_in p i bytes) (sym (behind_s j)))
          (ap (times (get_or feedback j 0)) out ∙ times_comm (get_or feedback j 0) (get_or (left bytes) s 0) (fits j) (byte_at (left bytes) s (left_bytes bytes d.shaped))))
          ∙ added_later _ _ _ ∙ ap (λ (x : ℕ). plus x (times (get_or (left bytes) s 0) (get_or feedback j 0))) (sym (left_at bytes d.shaped (suc s + j) l))

      kept : (j : ℕ) → count ≤ j → suc s + j < n + count → Dec (j < row_width * rows) → get_or (left now) (suc s + j) 0 ≡ get_or (left bytes) (suc s + j) 0
      kept j h l (yes a) =
          stepped j a l
          ∙ ap (plus (get_or (left bytes) (suc s + j) 0))
          (times_comm (get_or (left bytes) s 0) (get_or feedback j 0) (byte_at (left bytes) s (left_bytes bytes d.shaped)) (fits j)
          ∙ ap (λ (x : ℕ). times x (get_or (left bytes) s 0)) (behind j h) ∙ zero_times _)
          ∙ plus_zero _ (byte_at (left bytes) (suc s + j) (left_bytes bytes d.shaped))
      kept j h l (no a) =
          left_at now now_shaped (suc s + j) l
          ∙ ap (λ (x : ℕ). plus x (get_or coming (suc s + j) 0)) ((fed.fed p inside).after (suc s + j) (omega arith))
          ∙ sym (left_at bytes d.shaped (suc s + j) l)

      value_now :
          (r : ℕ) → r < 256 → times r (eval (take count feedback) r) ≡ 1 → times (power r (s + 1)) (eval (drop (s + 1) (left now)) r) ≡ eval coming r
      value_now r l e =
          step_left s r (take count feedback) (left bytes) (left now) (omega (arith, long, left_length bytes d.shaped)) (left_length now now_shaped ∙ sym (left_length bytes d.shaped))
          (left_bytes bytes d.shaped) l e
          (λ j h.
          stepped j (omega (arith, long)) (omega (arith, long))
          ∙ ap (λ (x : ℕ). plus (get_or (left bytes) (suc s + j) 0) (times (get_or (left bytes) s 0) x)) (sym (get_or-take count feedback j 0 (omega (arith, long)))))
          (λ j h g. kept j (omega (arith, long)) (omega (arith, left_length bytes d.shaped)) (dec_lt j (row_width * rows)))
          ∙ d.value p r inside l e
        where
          long : length (take count feedback) ≡ count
          long = length-take-le count feedback some

    pub divided_more : Divided (s + 1) n size (n + count) (take count feedback) vector now
    divided_more = record { shaped = now_shaped; value = λ p r h l e. value_now p h r l e }

pub divided_to : {s k n size many : ℕ} {hs vector : List ℕ} {now : List (List ℕ)} → s ≡ k → Divided s n size many hs vector now → Divided k n size many hs vector now
divided_to {s} {k} {n} {size} {many} {hs} {vector} {now} e d = subst (λ (i : ℕ). Divided i n size many hs vector now) e d
