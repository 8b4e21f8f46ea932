-- `frame_size` meets its contract: the header, and the operand behind it. Assumes nothing.
use mathlib.Core.Path.{ap}
use Prim.Native.Nat.{ℕ, ◌+◌}
use native.Mathlib.Omega.{arith}
use Rattle.code.specs.Settings.{settings, check_count, value_size}
use Rattle.code.proofs.ValidSettings.{sizes}
use Rattle.record.specs.Frame.{header_size, operand_size, frame_size}
use Rattle.record.proofs.frames.frame_size.Goals as goal

pub operand_size-requires : goal.operand_size-requires
unfolding settings
operand_size-requires c = let z = sizes _ c.args.settings.allowed in (omega arith, z.few_bytes)

pub returns : goal.returns
unfolding frame_size operand_size settings value_size check_count
returns c = (ap (λ (k : ℕ). header_size + k) c.operand_size.ensures.0, omega (arith, c.operand_size.ensures.1))
