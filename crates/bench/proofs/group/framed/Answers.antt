-- `framed` meets its contract: the header, and the operand behind it. Assumes nothing.
use mathlib.Core.Path.{◌≡◌, refl, sym, ◌∙◌, ap}
use mathlib.Core.List.{List, ◌++◌, append_assoc}
use Prim.Native.Nat.{ℕ, ◌+◌}
use native.Mathlib.Omega.{arith}
use lib.ListN.{length, take, length-append}
use lib.Seq.{take_at}
use Rattle.arrays.specs.Array.{in_front}
use Rattle.arrays.proofs.Front.{written_between}
use Rattle.arrays.proofs.Written.{from_start}
use Rattle.record.specs.Frame.{command, header}
use Rattle.bench.specs.Group.{bench_run}
use Rattle.bench.proofs.group.framed.Goals as goal

both_read : (head operand rest new : List ℕ) → length head ≡ 4 → new ≡ head ++ (operand ++ rest) → take (4 + length operand) new ≡ head ++ operand
both_read head operand rest new e h =
    ap (take (4 + length operand)) (h ∙ sym (append_assoc head operand rest))
    ∙ take_at (head ++ operand) rest (4 + length operand) (length-append head operand ∙ ap (λ (k : ℕ). k + length operand) e)

pub returns : goal.returns
unfolding header command bench_run in_front
returns c =
    let a = c.args in
    let operand = a.operand.now in
    let written = written_between 4 (length operand) operand _ _ refl (omega arith) (from_start operand c.copy.ensures) in
    both_read (header a.round a.from 0) operand _ _ refl (rw c.put_header.ensures at written)
