-- Bytes with their errors added. They differ from the bytes only where a weighted error is not zero, and last where the last is; and as
-- places, the bytes and these differ by the weighted errors again, since a weight is divided out and multiplied in. Assumes nothing.
use mathlib.Core.Path.{◌≡◌, refl, sym, ◌∙◌, ap, ap₂}
use mathlib.Core.Bool.{Bool, true, false, cond}
use mathlib.Core.List.{List, [], ◌∷◌, ◌++◌}
use Prim.Native.Nat.{ℕ, zero, suc, ◌+◌, ◌*◌, ◌-◌, ◌<◌, ◌≤◌}
use native.Mathlib.Omega.{arith}
use lib.Dec.{eqb}
use lib.ListN.{length, get_or, take, drop, length-append, take-append-drop}
use lib.Seq.{length-take-le}
use borrow.Author.Tests.{eqb-true, eqb-false, eq-eqb, ne_eqb}
use Rattle.arrays.proofs.Bool.{count_le}
use Rattle.field.specs.Field.{plus, times, power, inverse}
use Rattle.field.proofs.Xor.{plus_lt, plus_self, plus_zero, plus_again}
use Rattle.field.proofs.Times.{times_lt, zero_times}
use Rattle.field.proofs.Power.{power_lt, power_nonzero}
use Rattle.field.proofs.Division.{divide_times}
use Rattle.code.specs.Polynomial.{first_exponent}
use Rattle.code.specs.Settings.{Settings, check_count}
use Rattle.code.specs.Plane.{differ}
use Rattle.code.specs.Repair.{last_difference}
use Rattle.arrays.proofs.Bytes.{Bytes, bytes_append}
use Rattle.code.proofs.Codewords.Place.{Place}
use Rattle.code.proofs.Codewords.Errors.{errors}
use Rattle.locator.specs.Errors.{error_byte, mended, wrong_places, place_exponent}
use Rattle.locator.specs.Search.{last_wrong}
use Rattle.locator.proofs.Errors.Places.{placed}

pub mended_length : (s : Settings) (j : ℕ) (bs ys : List ℕ) → length (mended s j bs ys) ≡ length bs
unfolding mended
mended_length s j [] ys = refl
mended_length s j (b ∷ bs) [] = refl
mended_length s j (b ∷ bs) (y ∷ ys) = ap suc (mended_length s (suc j) bs ys)

pub mended_bytes : (s : Settings) (j : ℕ) (bs ys : List ℕ) → Bytes bs → Bytes (mended s j bs ys)
unfolding mended
mended_bytes s j [] ys b = tt
mended_bytes s j (b ∷ bs) [] c = c
mended_bytes s j (b ∷ bs) (y ∷ ys) c = (plus_lt _ _, mended_bytes s (suc j) bs ys c.1)

pub mended_at :
    (s : Settings) (i : ℕ) (bs ys : List ℕ) (j k : ℕ) → k ≡ i + j → j < length bs → length bs ≡ length ys →
    get_or (mended s i bs ys) j 0 ≡ plus (get_or bs j 0) (error_byte s k (get_or ys j 0))
unfolding mended
mended_at s i [] ys j k e h l = absurd (omega arith)
mended_at s i (b ∷ bs) [] j k e h l = absurd (omega arith)
mended_at s i (b ∷ bs) (y ∷ ys) zero k e h l = ap (λ (m : ℕ). plus b (error_byte s m y)) (let q : i ≡ k = omega arith in q)
mended_at s i (b ∷ bs) (y ∷ ys) (suc j) k e h l = mended_at s (suc i) bs ys j k (omega arith) (omega arith) (omega arith)

-- they differ only where a weighted error is not zero
no_error : (s : Settings) (j b y : ℕ) → b < 256 → y ≡ 0 → b ≡ plus b (error_byte s j y)
unfolding error_byte
no_error s j b y h e = sym (ap (plus b) (ap (λ (z : ℕ). times z (inverse (power 2 (first_exponent * place_exponent s.n (check_count s) j)))) e ∙ zero_times _) ∙ plus_zero b h)

pub mended_differ : (s : Settings) (j : ℕ) (bs ys : List ℕ) → Bytes bs → length bs ≡ length ys → differ bs (mended s j bs ys) ≤ wrong_places ys
unfolding mended differ wrong_places
mended_differ s j [] ys c e = omega arith
mended_differ s j (b ∷ bs) [] c e = absurd (omega arith)
mended_differ s j (b ∷ bs) (y ∷ ys) c e =
    omega (
      arith,
      count_le (eqb b (plus b (error_byte s j y))) (eqb y 0) (λ q. eq-eqb _ _ (no_error s j b y c.0 (eqb-true y 0 q))),
      mended_differ s (suc j) bs ys c.1 (omega arith),
    )

-- and their differences are the weighted errors
weighted_again :
    (s : Settings) (j b y : ℕ) → y < 256 → times (plus b (plus b (error_byte s j y))) (power 2 (first_exponent * place_exponent s.n (check_count s) j)) ≡ y
unfolding error_byte
weighted_again s j b y h =
    ap (λ (z : ℕ). times z (power 2 (first_exponent * place_exponent s.n (check_count s) j))) (plus_again b _ (times_lt _ _))
    ∙ divide_times y (power 2 (first_exponent * place_exponent s.n (check_count s) j)) h (power_lt 2 _) (power_nonzero _)

-- a byte is changed where its weighted error is not zero
pub error_there : (s : Settings) (j b y : ℕ) → b < 256 → y < 256 → eqb b (plus b (error_byte s j y)) ≡ eqb y 0
error_there s j b y h l = go (eqb y 0) refl
  where
    go : (q : Bool) → eqb y 0 ≡ q → eqb b (plus b (error_byte s j y)) ≡ q
    go true e = eq-eqb _ _ (no_error s j b y h (eqb-true y 0 e))
    go false e =
        let weight = power 2 (first_exponent * place_exponent s.n (check_count s) j) in
        ne_eqb _ _
        (λ f.
        eqb-false y 0 e
        (sym (weighted_again s j b y l) ∙ ap (λ (z : ℕ). times (plus b z) weight) (sym f) ∙ ap (λ (z : ℕ). times z weight) (plus_self b) ∙ zero_times weight))

-- the last byte that is changed is that of the last weighted error
last_there :
    (s : Settings) (j : ℕ) (bs ys : List ℕ) → length bs ≡ length ys → Bytes bs → Bytes ys → last_difference bs (mended s j bs ys) ≡ last_wrong ys
unfolding mended last_difference last_wrong
last_there s j [] [] e b c = refl
last_there s j [] (y ∷ ys) e b c = absurd (omega arith)
last_there s j (b ∷ bs) [] e c d = absurd (omega arith)
last_there s j (b ∷ bs) (y ∷ ys) e c d =
    ap₂ (λ (q : Bool) (k : ℕ). cond (eqb k 0) (cond q 0 1) (suc k)) (error_there s j b y c.0 d.0)
    (last_there s (suc j) bs ys (omega arith) c.1 d.1)

mended_append :
    (s : Settings) (j k : ℕ) (bs cs xs ys : List ℕ) → length bs ≡ length xs → k ≡ j + length bs →
    mended s j (bs ++ cs) (xs ++ ys) ≡ mended s j bs xs ++ mended s k cs ys
unfolding mended
mended_append s j k [] cs [] ys e h = ap (λ (i : ℕ). mended s i cs ys) (let q : j ≡ k = omega arith in q)
mended_append s j k [] cs (x ∷ xs) ys e h = absurd (omega arith)
mended_append s j k (b ∷ bs) cs [] ys e h = absurd (omega arith)
mended_append s j k (b ∷ bs) cs (x ∷ xs) ys e h =
    ap (λ (us : List ℕ). plus b (error_byte s j x) ∷ us) (mended_append s (suc j) k bs cs xs ys (omega arith) (omega arith))

pub mended_last :
    (s : Settings) (n : ℕ) (bs cs ys : List ℕ) → length bs ≡ n → length ys ≡ n + length cs → Bytes bs → Bytes cs → Bytes ys →
    last_difference (bs ++ cs) (mended s 0 bs (take n ys) ++ mended s n cs (drop n ys)) ≡ last_wrong ys
mended_last s n bs cs ys e f b c d =
    ap (last_difference (bs ++ cs))
    (sym (mended_append s 0 n bs cs (take n ys) (drop n ys) (e ∙ sym (length-take-le n ys (omega arith))) (omega arith))
    ∙ ap (mended s 0 (bs ++ cs)) (take-append-drop n ys))
    ∙ last_there s 0 (bs ++ cs) ys (omega (arith, length-append bs cs)) (bytes_append bs cs b c) d

pub mended_errors :
    (s : Settings) (m j : ℕ) (bs ys : List ℕ) → length bs ≡ length ys → length bs ≤ m → Bytes ys →
    ((i k : ℕ) → k ≡ j + i → i < length bs → place_exponent s.n (check_count s) k ≡ m - suc i) → errors m bs (mended s j bs ys) ≡ placed s j ys
unfolding errors mended placed
mended_errors s zero j [] [] e h c x = refl
mended_errors s zero j [] (y ∷ ys) e h c x = absurd (omega arith)
mended_errors s zero j (b ∷ bs) ys e h c x = absurd (omega arith)
mended_errors s (suc m) j [] [] e h c x = refl
mended_errors s (suc m) j [] (y ∷ ys) e h c x = absurd (omega arith)
mended_errors s (suc m) j (b ∷ bs) [] e h c x = absurd (omega arith)
mended_errors s (suc m) j (b ∷ bs) (y ∷ ys) e h c x =
    ap₂ ◌∷◌
    (ap {B = Place} (λ (k : ℕ). record { x = power 2 k; y = times (plus b (plus b (error_byte s j y))) (power 2 (first_exponent * k)) }) (sym top)
    ∙ ap {B = Place} (λ (z : ℕ). record { x = power 2 (place_exponent s.n (check_count s) j); y = z }) (weighted_again s j b y c.0))
    (mended_errors s m (suc j) bs ys (omega arith) (omega arith) c.1
    (λ i k q l. x (suc i) k (omega arith) (omega arith) ∙ (let r : suc m - suc (suc i) ≡ m - suc i = omega arith in r)))
  where
    top : place_exponent s.n (check_count s) j ≡ m
    top = x 0 j (omega arith) (omega arith) ∙ (let r : suc m - 1 ≡ m = omega arith in r)
