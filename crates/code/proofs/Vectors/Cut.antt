-- Lent bytes as values: value j's byte p stands at j·w + p. What the planes of such values are, and what the values are glued
-- together again. Assumes nothing.
use mathlib.Core.Path.{◌≡◌, refl, sym, ◌∙◌, ap, ap₂}
use mathlib.Core.List.{List, ◌++◌}
use Prim.Native.Nat.{ℕ, zero, suc, ◌+◌, ◌*◌, ◌<◌, ◌≤◌}
use mir.Syntax.{w64}
use mir.Val.{Fits}
use native.Mathlib.Omega.{arith}
use native.Mathlib.Nat.{suc-mul, mul-le-mul_right}
use native.Mathlib.Numerals.{add-one}
use lib.ListN.{length, get_or, take, drop, length-drop, take-append-drop}
use lib.Seq.{take-add, get_or-take, get_or-drop, length-take-le, ext_get_or}
use Rattle.code.specs.Vector.{plane, cut, glued}
use Rattle.arrays.specs.Array.{in_front}
use Rattle.arrays.proofs.Bytes.{Bytes, bytes_take, bytes_drop}
use Rattle.code.proofs.Vectors.Planes.{Values, plane_length}

-- places
pub next_value : (j w : ℕ) → (j + 1) * w ≡ j * w + w
next_value j w = ap (λ (k : ℕ). k * w) (add-one j) ∙ suc-mul j w

pub value_fits : (j n w : ℕ) → j < n → j * w + w ≤ n * w
value_fits j n w h = omega (arith, suc-mul j w, mul-le-mul_right w h)

pub value_ends : (j n w long : ℕ) → j < n → long ≡ n * w → j * w + w ≤ long
value_ends j n w long h e = omega (arith, value_fits j n w h)

pub start_fits : (j n w : ℕ) → j < n → Fits w64 (n * w) → Fits w64 (j * w)
start_fits j n w h l = omega (arith, value_fits j n w h)

pub end_fits : (j n w : ℕ) → j < n → Fits w64 (n * w) → Fits w64 (j * w + w)
end_fits j n w h l = omega (arith, value_fits j n w h)

-- values
pub cut_length : (n w : ℕ) (bs : List ℕ) → length (cut n w bs) ≡ n
unfolding cut
cut_length zero w bs = refl
cut_length (suc n) w bs = ap suc (cut_length n w (drop w bs))

pub plane_cut_length : (p n w : ℕ) (bs : List ℕ) → length (plane p (cut n w bs)) ≡ n
plane_cut_length p n w bs = plane_length p (cut n w bs) ∙ cut_length n w bs

pub cut_values : (n w : ℕ) (bs : List ℕ) → n * w ≤ length bs → Bytes bs → Values w (cut n w bs)
unfolding cut
cut_values zero w bs h b = tt
cut_values (suc n) w bs h b =
    (length-take-le w bs (omega (arith, suc-mul n w)), bytes_take w bs b, cut_values n w (drop w bs) (omega (arith, suc-mul n w, length-drop w bs)) (bytes_drop w bs b))

pub plane_cut : (n w p : ℕ) (bs : List ℕ) (j : ℕ) → j < n → p < w → get_or (plane p (cut n w bs)) j 0 ≡ get_or bs (j * w + p) 0
unfolding plane cut
plane_cut zero w p bs j h l = absurd (omega arith)
plane_cut (suc n) w p bs zero h l = get_or-take w bs p 0 l ∙ ap (λ (i : ℕ). get_or bs i 0) (let e : p ≡ zero * w + p = omega arith in e)
plane_cut (suc n) w p bs (suc j) h l =
    plane_cut n w p (drop w bs) j (omega arith) l ∙ get_or-drop w bs (j * w + p) 0
    ∙ ap (λ (i : ℕ). get_or bs i 0) (let e : w + (j * w + p) ≡ suc j * w + p = omega (arith, suc-mul j w) in e)

-- glued together again
pub glued_cut : (n w : ℕ) (bs : List ℕ) → n * w ≤ length bs → glued (cut n w bs) ≡ take (n * w) bs
unfolding glued cut
glued_cut zero w bs h = ap (λ (k : ℕ). take k bs) (let e : 0 ≡ zero * w = omega arith in e)
glued_cut (suc n) w bs h =
    ap (◌++◌ (take w bs)) (glued_cut n w (drop w bs) (omega (arith, suc-mul n w, length-drop w bs)))
    ∙ sym (take-add w (n * w) bs) ∙ ap (λ (k : ℕ). take k bs) (let e : w + n * w ≡ suc n * w = omega (arith, suc-mul n w) in e)

-- an output whose first n values are new and whose other bytes are kept
pub in_front_cut :
    (n w : ℕ) (old now : List ℕ) → length now ≡ length old → n * w ≤ length now → ((i : ℕ) → n * w ≤ i → get_or now i 0 ≡ get_or old i 0) →
    now ≡ in_front (glued (cut n w now)) old
unfolding in_front
in_front_cut n w old now e h kept =
    sym (take-append-drop (n * w) now)
    ∙ ap₂ ◌++◌ (sym (glued_cut n w now h))
    (ext_get_or 0 (drop (n * w) now) (drop (n * w) old) (omega (arith, length-drop (n * w) now, length-drop (n * w) old))
    (λ i l. get_or-drop (n * w) now i 0 ∙ kept (n * w + i) (omega arith) ∙ sym (get_or-drop (n * w) old i 0))
    ∙ ap (λ (k : ℕ). drop k old) (sym (ap length (glued_cut n w now h) ∙ length-take-le (n * w) now h)))
