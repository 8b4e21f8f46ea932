-- From the windows in which the registers have divided to the check values: when all columns were taken in, what a window has behind them
-- is its plane's checks in reverse, and the output holds them in order. Assumes nothing.
use mathlib.Core.Path.{◌≡◌, refl, sym, ◌∙◌, ap, subst}
use mathlib.Core.Bool.{true}
use mathlib.Core.List.{List, [], ◌∷◌, reverse}
use Prim.Native.Nat.{ℕ, zero, suc, ◌+◌, ◌*◌, ◌-◌, ◌≤◌, ◌<◌}
use native.Mathlib.Omega.{arith}
use lib.ListN.{length, get_or, take, drop, length-drop, length-reverse}
use lib.Seq.{ext_get_or, get_or-take, get_or-drop, length-take-le}
use Rattle.field.specs.Field.{times, inverse, power}
use Rattle.code.specs.Size.{value_room, window_room}
use Rattle.code.specs.Settings.{Settings, settings, settings_refusal, check_count, value_size}
use Rattle.code.specs.Polynomial.{eval, added, root, generator}
use Rattle.code.specs.Plane.{is_codeword}
use Rattle.code.specs.Vector.{plane, cut}
use Rattle.code.specs.Entry.{values_in, ChecksPut}
use Rattle.code.specs.Steps.Windows.{Shaped, window, taken_in, FeedbackOf, Divided, Stored}
use Rattle.arrays.proofs.Bytes.{Bytes, bytes_drop, get_or_reverse}
use Rattle.code.proofs.Polynomials.Generator.{root_lt}
use Rattle.code.proofs.ValidSettings.{Sizes, sizes}
use Rattle.code.proofs.Vectors.Planes.{plane_bytes, checked_back}
use Rattle.code.proofs.Vectors.Cut.{cut_length, cut_values, plane_cut, plane_cut_length, in_front_cut}
use Rattle.code.proofs.Encoding.Factors.{feedback_root}
use Rattle.code.proofs.Encoding.Division.{divided_codeword}
use Rattle.code.proofs.Encoding.Windows.{window_length, window_at, window_bytes, coming_length}

-- what the windows have behind the columns, as it is stored
module _ (n count size p : ℕ) (windows : List (List ℕ)) (out now : List ℕ) (inside : p < size) (few : size ≤ value_room) (narrow : n + count ≤ window_room) (shaped : Shaped windows) where
  abbrev rest : List ℕ
  rest = drop n (window p (n + count) windows)

  pub rest_length : length rest ≡ count
  rest_length = length-drop n (window p (n + count) windows) ∙ (let e = window_length p (n + count) windows (omega arith) narrow shaped in omega arith)

  pub stored_checks : Stored count n count size windows out now → plane p (cut count size now) ≡ reverse rest
  stored_checks d =
      ext_get_or 0 (plane p (cut count size now)) (reverse rest) (plane_cut_length p count size now ∙ sym (length-reverse rest ∙ rest_length))
      (λ c l. at c (rw (plane_cut_length p count size now) at l))
    where
      at : (c : ℕ) → c < count → get_or (plane p (cut count size now)) c 0 ≡ get_or (reverse rest) c 0
      at c l =
          plane_cut count size p now c l inside ∙ d.value c p l inside
          ∙ sym (window_at p (n + count) windows (omega arith) narrow shaped (n + count - 1 - c) (omega arith))
          ∙ sym (get_or_reverse rest c (omega (arith, rest_length)) ∙ get_or-drop n (window p (n + count) windows) (length rest - 1 - c) 0
          ∙ ap (λ (k : ℕ). get_or (window p (n + count) windows) k 0) (let e : n + (length rest - 1 - c) ≡ n + count - 1 - c = omega (arith, rest_length) in e))

-- when all columns were taken in none is to come
past_columns : (xs ys : List ℕ) → drop (length ys) (added xs ys) ≡ drop (length ys) xs
unfolding added
past_columns [] ys = drop_all ys
  where
    drop_all : (zs : List ℕ) → drop (length zs) zs ≡ drop (length zs) []
    drop_all [] = refl
    drop_all (z ∷ zs) = drop_all zs ∙ drop_none (length zs)
      where
        drop_none : (k : ℕ) → drop {A = ℕ} k [] ≡ []
        drop_none zero = refl
        drop_none (suc k) = refl
past_columns (x ∷ xs) [] = refl
past_columns (x ∷ xs) (y ∷ ys) = past_columns xs ys

-- columns taken in by the feedback and the rest stored are the checks of a plane
pub encoded :
    (s : Settings) (p : ℕ) (vector hs : List ℕ) (windows : List (List ℕ)) (out now : List ℕ) → settings_refusal s ≡ 0 → p < value_size s → value_size s ≤ value_room →
    s.n + check_count s ≤ window_room → length vector ≡ s.n * value_size s → Bytes vector → length hs ≡ check_count s →
    ((j : ℕ) → j < check_count s → get_or hs j 0 ≡ times (get_or (generator (check_count s)) (j + 1) 0) (inverse (get_or (generator (check_count s)) 0 0))) →
    Divided s.n s.n (value_size s) (s.n + check_count s) hs vector windows →
    Stored (check_count s) s.n (check_count s) (value_size s) windows out now →
    is_codeword s (plane p (cut s.n (value_size s) vector)) (plane p (cut (check_count s) (value_size s) now)) ≡ true
encoded s p vector hs windows out now q h few narrow l b e feed v w =
    ap (is_codeword s bytes) (stored_checks n count size p windows out now h few narrow v.shaped w)
    ∙ divided_codeword s bytes (rest n count size p windows out now h few narrow v.shaped) q (plane_cut_length p n size vector)
    (plane_bytes p size _ (cut_values n size vector (omega arith) b)) (rest_length n count size p windows out now h few narrow v.shaped)
    (bytes_drop n _ (window_bytes p (n + count) windows (omega arith) narrow v.shaped))
    (λ i k.
    ap (λ (ps : List ℕ). times (power (root i) n) (eval ps (root i))) (sym left_over)
    ∙ v.value p (root i) h (root_lt i) (feedback_root count i hs k e feed))
  where
    n : ℕ
    n = s.n

    count : ℕ
    count = check_count s

    size : ℕ
    size = value_size s

    bytes : List ℕ
    bytes = plane p (cut n size vector)

    left_over : drop n (added (window p (n + count) windows) (taken_in n size p vector)) ≡ drop n (window p (n + count) windows)
    left_over =
        subst (λ (k : ℕ). drop k (added (window p (n + count) windows) (taken_in n size p vector)) ≡ drop k (window p (n + count) windows)) (coming_length n size p vector)
        (past_columns (window p (n + count) windows) (taken_in n size p vector))

-- the whole vector: every plane has its checks, and they stand in front of the output
pub checks_put :
    (n t w : ℕ) (vector feedback : List ℕ) (windows : List (List ℕ)) (out now : List ℕ) → settings_refusal (settings n t w) ≡ 0 → length vector ≡ n * w → Bytes vector →
    FeedbackOf (2 * t) (generator (2 * t)) feedback → Divided n n w (n + 2 * t) (take (2 * t) feedback) vector windows → Stored (2 * t) n (2 * t) w windows out now →
    2 * t * w ≤ length out → Bytes now → ChecksPut (settings n t w) vector out now
unfolding ChecksPut settings values_in check_count value_size
checks_put n t w vector feedback windows out now q l b feed v st room c = (
  cut (2 * t) w now,
  checked_back s (cut n w vector) (cut (2 * t) w now)
      (record {
        many = cut_length (2 * t) w now;
        values = cut_values (2 * t) w now (omega (arith, st.long)) c;
        planes = λ p h.
            encoded s p vector hs windows out now q h z.few_bytes (omega (arith, z.few_columns, z.few_bad)) l b long
            (λ j k. get_or-take (2 * t) feedback j 0 k ∙ feed.each j k) v st;
      }),
  in_front_cut (2 * t) w out now st.long (omega (arith, st.long)) st.kept,
)
  where
    s : Settings
    s = settings n t w

    z : Sizes s
    z = sizes s q

    hs : List ℕ
    hs = take (2 * t) feedback

    long : length hs ≡ 2 * t
    long = length-take-le (2 * t) feedback (omega (arith, feed.long, z.few_columns, z.few_bad))
