-- `field::sum` meets its contract: the machine's exclusive or of two bytes is their sum. Assumes nothing.
use native.Mathlib.Omega.{arith}
use Rattle.field.proofs.Xor.{bitXor_plus}
use Rattle.field.proofs.sum.Goals as goal

pub returns : goal.returns
returns c = bitXor_plus c.args.a c.args.b (omega arith) (omega arith)
