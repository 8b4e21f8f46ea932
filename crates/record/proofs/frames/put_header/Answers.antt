-- `put_header` meets its contract: two stores at the front and two bytes behind them are the header before the rest. Assumes nothing.
use mathlib.Core.Path.{◌≡◌, refl, ◌∙◌, ap}
use mathlib.Core.List.{List, [], ◌∷◌}
use Prim.Native.Nat.{ℕ, ◌*◌, ◌/◌, ◌%◌}
use native.Mathlib.Omega.{arith}
use lib.ListN.{set}
use lib.Seq.{sets-eq}
use Rattle.arrays.specs.Array.{in_front}
use Rattle.arrays.proofs.Front.{front_twice}
use Rattle.record.specs.Frame.{command, header}
use Rattle.record.proofs.frames.put_header.Goals as goal
use Rattle.record.proofs.frames.put_header.Goals.{After-copy_from_slice}

run_bytes : (c : After-copy_from_slice) → c.copy_from_slice.new.self ≡ (c.args.run / 256) ∷ (c.args.run % 256) ∷ []
run_bytes c =
    let high : c.args.run / 256 % 256 ≡ c.args.run / 256 = omega arith in
    c.copy_from_slice.ensures.after ∙ c.to_be_bytes.ensures ∙ ap (λ (k : ℕ). k ∷ (c.args.run % 256) ∷ []) high

pub returns : goal.returns
unfolding in_front header command
returns c =
    let a = c.args in
    let front : List ℕ = (0x11 * a.round) ∷ a.number ∷ [] in
    let run : List ℕ = (a.run / 256) ∷ (a.run % 256) ∷ [] in
    let bytes = run_bytes (goal.at.returns c).After-copy_from_slice in
    let stored : set (set a.buffer.now 0 (0x11 * a.round)) 1 a.number ≡ in_front front a.buffer.now = sets-eq front a.buffer.now 0 (omega arith) in
    rw (stored, bytes) (front_twice front run a.buffer.now 2 2 refl refl)
