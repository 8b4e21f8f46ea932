-- The product of a polynomial with a power of x: its length, its bytes and its coefficients. Assumes nothing.
use mathlib.Core.Path.{◌≡◌, refl, sym, ◌∙◌, ap}
use mathlib.Core.List.{List}
use Prim.Native.Nat.{ℕ, zero, suc, ◌+◌, ◌-◌, ◌<◌, ◌≤◌}
use native.Mathlib.Nat.{zero-add, suc-add}
use native.Mathlib.Omega.{arith}
use lib.ListN.{length, get_or}
use Rattle.arrays.proofs.Bytes.{Bytes}
use Rattle.locator.specs.Locator.{raised}

pub raised_length : (s : ℕ) (ps : List ℕ) → length (raised s ps) ≡ s + length ps
unfolding raised
raised_length zero ps = sym (zero-add (length ps))
raised_length (suc s) ps = ap suc (raised_length s ps) ∙ sym (suc-add s (length ps))

pub raised_bytes : (s : ℕ) (ps : List ℕ) → Bytes ps → Bytes (raised s ps)
unfolding raised
raised_bytes zero ps b = b
raised_bytes (suc s) ps b = (omega arith, raised_bytes s ps b)

pub raised_low : (s i : ℕ) (ps : List ℕ) → i < s → get_or (raised s ps) i 0 ≡ 0
unfolding raised
raised_low zero i ps h = absurd (omega arith)
raised_low (suc s) zero ps h = refl
raised_low (suc s) (suc i) ps h = raised_low s i ps (omega arith)

pub raised_high : (s i : ℕ) (ps : List ℕ) → s ≤ i → get_or (raised s ps) i 0 ≡ get_or ps (i - s) 0
unfolding raised
raised_high zero i ps h = ap (λ (k : ℕ). get_or ps k 0) (let e : i ≡ i - 0 = omega arith in e)
raised_high (suc s) zero ps h = absurd (omega arith)
raised_high (suc s) (suc i) ps h = raised_high s i ps (omega arith) ∙ ap (λ (k : ℕ). get_or ps k 0) (let e : i - s ≡ suc i - suc s = omega arith in e)
