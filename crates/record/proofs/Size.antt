-- Lengths that the arrays of a record hold: where the settings are not turned down an operand has at most 160 bytes. Assumes nothing.
use mathlib.Core.Bool.{Bool, true, false, cond}
use mathlib.Core.Path.{◌≡◌}
use Prim.Native.Nat.{ℕ, ◌*◌, ◌≤◌}
use native.Mathlib.Nat.{mul-le-mul}
use native.Mathlib.Omega.{arith}
use lib.Dec.{eqb}
use Rattle.code.specs.Settings.{Settings, settings_refusal, check_count, value_size}
use Rattle.code.proofs.ValidSettings.{sizes}
use Rattle.record.specs.Frame.{operand_size, frame_size}

pub checks_fit : (t w : ℕ) → t ≤ 10 → w ≤ 8 → 2 * t * w ≤ 160
checks_fit t w h l = mul-le-mul {n₁ = 2 * t} {m₁ = w} {n₂ = 20} {m₂ = 8} (omega arith) l

pub frame_fits_slot : (s : Settings) (m : ℕ) → settings_refusal s ≡ 0 → frame_size s m ≤ 164
unfolding frame_size operand_size check_count value_size
frame_fits_slot s m e = omega (arith, go (eqb m 1))
  where
    go : (b : Bool) → cond b s.w (2 * s.t * s.w) ≤ 160
    go true = omega (arith, sizes s e)
    go false = checks_fit s.t s.w (omega (arith, sizes s e)) (omega (arith, sizes s e))
