-- A row's terms: its products with the constants that an array holds, and a row of zeros has none. Assumes nothing.
use mathlib.Core.Path.{◌≡◌, refl, sym, ◌∙◌, ap}
use mathlib.Core.List.{List}
use Prim.Native.Nat.{ℕ, ◌≤◌, ◌<◌}
use native.Mathlib.Omega.{arith}
use lib.ListN.{length, get_or, take}
use lib.Seq.{length-take-le, get_or-take}
use Rattle.arrays.specs.Array.{Filled}
use Rattle.field.specs.Field.{plus, times}
use Rattle.field.proofs.Xor.{plus_zero}
use Rattle.field.proofs.Times.{zero_times}
use Rattle.lanes.specs.Lanes.{row_width, in_row, ProductsAdded}

-- the first numbers of a list, read as one slice
pub first_at :
    (many : ℕ) (xs : List ℕ) → many ≤ length xs → (i : ℕ) → i < length (take many xs) → (i < many) × (get_or (take many xs) i 0 ≡ get_or xs i 0)
first_at many xs h i l = let m : i < many = omega (arith, length-take-le many xs h) in (m, get_or-take many xs i 0 m)

-- the constants: the first bytes of an array, read as one slice, and by another name for each
pub filled_prefix : {f g : ℕ → ℕ} (k size : ℕ) (bytes : List ℕ) → k ≤ size → ((i : ℕ) → i < k → f i ≡ g i) → Filled size k f bytes → Filled k k g (take k bytes)
filled_prefix k size bytes h e w =
    record { long = length-take-le k bytes (omega (arith, w.long)); new = λ p l. get_or-take k bytes p 0 l ∙ w.new p l ∙ e p l }

pub products_of_zeros :
    (row constants sums : List ℕ) → ((i : ℕ) → get_or sums i 0 < 256) → ((p : ℕ) → p < row_width → get_or row p 0 ≡ 0) → ProductsAdded (length constants) row constants sums sums
products_of_zeros row constants sums byte z =
    record {
      long = refl;
      sums = λ i p h l.
          sym (ap (plus (get_or sums (in_row i p) 0)) (ap (λ (b : ℕ). times b (get_or constants i 0)) (z p l) ∙ zero_times _) ∙ plus_zero _ (byte (in_row i p)));
      rest = λ i h. refl;
    }

-- to each of the first rows i of each plane its byte of a row times the constant i is added
pub record TermsAdded (many : ℕ) (constant : ℕ → ℕ) (row sums sums_now : List ℕ) : Type 0 where
  pub long : length sums_now ≡ length sums
  pub terms : (i p : ℕ) → i < many → p < row_width → get_or sums_now (in_row i p) 0 ≡ plus (get_or sums (in_row i p) 0) (times (get_or row p 0) (constant i))

pub terms_of_products :
    (many : ℕ) (constant : ℕ → ℕ) (row constants sums now : List ℕ) → Filled many many constant constants →
    ProductsAdded (length constants) row constants sums now → TermsAdded many constant row sums now
terms_of_products many constant row constants sums now f a =
    record {
      long = a.long;
      terms = λ i p h l. a.sums i p (omega (arith, f.long)) l ∙ ap (λ (b : ℕ). plus (get_or sums (in_row i p) 0) (times (get_or row p 0) b)) (f.new i h);
    }
