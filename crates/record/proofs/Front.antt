-- Bytes in front of others, read again. A stored frame's operand is read back as it came; check values glued together are cut into
-- the same values again, so what `put_checks` wrote is read as check values.
-- Assumes nothing.
use mathlib.Core.Path.{◌≡◌, refl, sym, ◌∙◌, ap, ap₂}
use mathlib.Core.Bool.{true}
use mathlib.Core.List.{List, [], ◌∷◌, ◌++◌, append_assoc}
use Prim.Native.Nat.{ℕ, zero, suc, ◌+◌, ◌*◌}
use native.Mathlib.Nat.{suc-mul, suc-add, zero-add}
use native.Mathlib.Omega.{arith}
use lib.ListN.{length, take, drop, length-drop}
use lib.Seq.{take_at, drop_at, take-nil, take-take, drop-append-le}
use Rattle.arrays.specs.Array.{in_front}
use Rattle.code.specs.Settings.{settings, check_count, value_size}
use Rattle.code.specs.Vector.{cut, glued, has_checks}
use Rattle.code.specs.Entry.{values_in, ChecksPut}
use Rattle.code.proofs.Vectors.Planes.{Values, checked_of}
use Rattle.record.specs.Frame.{operand_in, checks_in}

-- a frame kept in a longer array
pub front_operand : (frame old : List ℕ) (k : ℕ) → length frame ≡ 4 + k → take k (operand_in (in_front frame old)) ≡ operand_in frame
unfolding operand_in in_front
front_operand frame old k e =
    let rest = drop (length frame) old in
    ap (take k) (drop-append-le 4 frame rest (omega arith)) ∙ take_at (drop 4 frame) rest k (omega (arith, length-drop 4 frame))

-- values glued together and cut again, and those in the front of more bytes
pub cut_glued : (w : ℕ) (vs : List (List ℕ)) (rest : List ℕ) → Values w vs → cut (length vs) w (glued vs ++ rest) ≡ vs
unfolding cut glued
cut_glued w [] rest l = refl
cut_glued w (v ∷ vs) rest l =
    rw (append_assoc v (glued vs) rest)
    (ap₂ ◌∷◌ (take_at v (glued vs ++ rest) w l.0) (ap (cut (length vs) w) (drop_at v (glued vs ++ rest) w l.0) ∙ cut_glued w vs rest l.2))

drop_take : (a m : ℕ) (l : List ℕ) → drop a (take (a + m) l) ≡ take m (drop a l)
drop_take zero m l = ap (λ (n : ℕ). take n l) (zero-add m)
drop_take (suc a) m [] = ap (drop (suc a)) (take-nil (suc a + m)) ∙ sym (take-nil m)
drop_take (suc a) m (x ∷ l) = ap (λ (n : ℕ). drop (suc a) (take n (x ∷ l))) (suc-add a m) ∙ drop_take a m l

pub cut_front : (n w : ℕ) (bs : List ℕ) → cut n w (take (n * w) bs) ≡ cut n w bs
unfolding cut
cut_front zero w bs = refl
cut_front (suc n) w bs =
    let e : suc n * w ≡ w + n * w = omega (arith, suc-mul n w) in
    rw e (ap₂ ◌∷◌ (take-take w (w + n * w) bs (omega arith)) (ap (cut n w) (drop_take w (n * w) bs) ∙ cut_front n w (drop w bs)))

-- what `put_checks` wrote
pub checks_written :
    (n t w size : ℕ) (values out now : List ℕ) → size ≡ n * w → length out ≡ check_count (settings n t w) * value_size (settings n t w) →
    ChecksPut (settings n t w) (take size values) out now →
    has_checks (settings n t w) (values_in (settings n t w) n values) (checks_in (settings n t w) now) ≡ true
unfolding ChecksPut checks_in values_in in_front settings check_count value_size
checks_written n t w size values out now many room says =
    let put = rw many at says in
    let checked = checked_of (settings n t w) _ put.0 put.1 in
    let same : cut (2 * t) w now ≡ put.0 =
    ap (cut (2 * t) w) put.2 ∙ ap (λ (k : ℕ). cut k w (glued put.0 ++ drop (length (glued put.0)) out)) (sym checked.many)
    ∙ cut_glued w put.0 _ checked.values in
    rw (same, ← cut_front n w values) put.1
