-- What a read puts behind the bytes in front of the buffer is what the input has lost since. Assumes nothing.
use Rattle.std.proofs.Common.{◌≡◌, ℕ, ◌+◌, ◌-◌, ◌≤◌, List, ◌++◌, rules, length, take, sym, ap, ◌∙◌, subst, length-take-le}
use Rattle.std.proofs.Math.Seq.{take-append-add}
use Rattle.std.proofs.KnownBytes.{Consumes-trans}
use Rattle.std.specs.Io.KnownBytes.{Consumes}
use borrow.Rule.Slice.PartMut.{put_mid, post_of}
use lib.Seq.{take-append-le}
use Rattle.streams.proofs.read_full.Goals as goal

-- the bytes in front, once so many more stand behind them
take-put_mid_into : (a k n : ℕ) (xs ys : List ℕ) → a ≤ length xs → n ≤ length ys → take (a + n) (put_mid a k xs ys) ≡ take a xs ++ take n ys
take-put_mid_into a k n xs ys within fits =
    let front = take a xs in
    let behind = ys ++ post_of a k xs in
    ap (λ m. take (m + n) (front ++ behind)) (sym (length-take-le a xs within)) ∙ take-append-add front behind n ∙ ap (λ l. front ++ l) (take-append-le n ys _ fits)

pub loop-done-preserved : goal.loop-done-preserved
loop-done-preserved g c =
    let l = c.loop-done in
    let read = c.in_ok-n.ensures in
    let joined = take-put_mid_into l.done (length l.buffer - l.done) c.in_ok-n.n l.buffer c.read.new.buf l.invariant.0 read.bound.0 in
    (search rules, subst (Consumes _ _) (sym joined) (Consumes-trans _ _ _ _ _ l.invariant.1 read.bytes.0))
