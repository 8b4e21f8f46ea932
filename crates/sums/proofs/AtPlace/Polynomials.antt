-- The polynomials of all planes at one place, in a row: the first row of coefficients is their first terms, and one more row times the
-- place's next power adds the next term of each. Assumes nothing.
use mathlib.Core.Path.{◌≡◌, sym, ◌∙◌, ap, ap₂}
use mathlib.Core.List.{List, [], ◌∷◌}
use Prim.Native.Nat.{ℕ, suc, ◌+◌, ◌<◌}
use native.Mathlib.Omega.{arith}
use native.Mathlib.Numerals.{add-one}
use lib.ListN.{length, get_or}
use Rattle.arrays.specs.Array.{Filled, Written}
use Rattle.arrays.proofs.Written.{written_filled}
use Rattle.field.specs.Field.{plus, times, power}
use Rattle.field.proofs.Power.{power_lt}
use Rattle.field.proofs.Logarithm.{times_comm}
use Rattle.lanes.specs.Lanes.{row_width, in_row, lane}
use Rattle.code.specs.Polynomial.{eval}
use Rattle.code.proofs.Polynomials.Arithmetic.{eval_append, eval_single}
use Rattle.lanes.proofs.Lane.{lane_length, lane_more}

-- one more row of coefficients
eval_lane_more :
    (p many : ℕ) (bs : List ℕ) (x : ℕ) → ((i : ℕ) → get_or bs i 0 < 256) → x < 256 →
    eval (lane p (suc many) bs) x ≡ plus (eval (lane p many bs) x) (times (get_or bs (in_row many p) 0) (power x many))
eval_lane_more p many bs x byte h =
    ap (λ (ps : List ℕ). eval ps x) (lane_more p many bs) ∙ eval_append (lane p many bs) (get_or bs (in_row many p) 0 ∷ []) x h
    ∙ ap (plus (eval (lane p many bs) x))
    (ap₂ (λ (k b : ℕ). times (power x k) b) (lane_length p many bs) (eval_single (get_or bs (in_row many p) 0) x (byte _) h)
    ∙ times_comm (power x many) (get_or bs (in_row many p) 0) (power_lt x many) (byte _))

-- a row of values, by the first rows of coefficients
abbrev pub ValuesPut : (m exponent : ℕ) → (coefficients row : List ℕ) → Type 0
ValuesPut m exponent coefficients row = Filled row_width row_width (λ p. eval (lane p m coefficients) (power 2 exponent)) row

module _ (exponent : ℕ) (coefficients : List ℕ) (byte : (i : ℕ) → get_or coefficients i 0 < 256) where
  pub values_first :
      (row : List ℕ) → length row ≡ row_width → ((p : ℕ) → p < row_width → get_or row p 0 ≡ get_or coefficients p 0) → ValuesPut 1 exponent coefficients row
  unfolding lane
  values_first row e same =
      record { long = e; new = λ p h. same p h ∙ sym (eval_single (get_or coefficients p 0) (power 2 exponent) (byte p) (power_lt 2 exponent)) }

  pub values_more :
      (m raised : ℕ) (middle now : List ℕ) → raised ≡ power (power 2 exponent) m → ValuesPut m exponent coefficients middle →
      Written 0 row_width (λ p. plus (get_or middle (0 + p) 0) (times (get_or coefficients (in_row m p) 0) raised)) middle now →
      ValuesPut (m + 1) exponent coefficients now
  values_more m raised middle now e w v =
      record {
        long = v.long ∙ w.long;
        new = λ p h.
            (written_filled v).new p h
            ∙ ap₂ plus (ap (λ (i : ℕ). get_or middle i 0) (let q : 0 + p ≡ p = omega arith in q) ∙ w.new p h) (ap (times (get_or coefficients (in_row m p) 0)) e)
            ∙ sym
            (ap (λ (k : ℕ). eval (lane p k coefficients) (power 2 exponent)) (add-one m)
            ∙ eval_lane_more p m coefficients (power 2 exponent) byte (power_lt 2 exponent));
      }
