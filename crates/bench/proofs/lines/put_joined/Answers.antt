-- `put_joined` meets its contract: the first byte, then each other behind a point, until none is left. Assumes nothing.
use mathlib.Core.Path.{◌≡◌, refl, sym, ◌∙◌, ap}
use mathlib.Core.List.{List, [], ◌∷◌, ◌++◌, append_assoc, append-nil}
use Prim.Native.Nat.{ℕ}
use native.Mathlib.Omega.{arith}
use lib.ListN.{length, get_or, drop, length-append, drop_of_length-le}
use borrow.Author.Tests.{eqb-true, eqb-false}
use Rattle.bench.specs.Listing.{decimal, pointed, joined}
use Rattle.bench.proofs.Listing.Text.{more_put, all_put, next_fits}
use Rattle.bench.proofs.Listing.Wording.{joined_first, pointed_next}
use Rattle.bench.proofs.lines.put_joined.Goals as goal

pointed_none : (bs : List ℕ) → bs ≡ [] → pointed bs ≡ []
unfolding pointed
pointed_none bs e = rw e refl

joined_none : (bs : List ℕ) → length bs ≡ 0 → joined bs ≡ []
unfolding joined
joined_none [] e = refl
joined_none (b ∷ bs) e = absurd (omega arith)

pub returns-then-is_empty : goal.returns-then-is_empty
returns-then-is_empty c = rw (joined_none c.args.bytes.now (eqb-true _ 0 (sym c.is_empty.ensures ∙ c.if-is_empty.true))) (sym (append-nil _))

pub put_decimal-requires : goal.put_decimal-requires
put_decimal-requires c =
    let bytes = c.args.bytes.now in
    let some = eqb-false (length bytes) 0 (sym c.is_empty.ensures ∙ c.if-is_empty.false) in
    rw c.from.ensures (omega (arith, c.type_inv.bytes 0, length-append {A = ℕ}, ap length (joined_first bytes (omega arith)), c.requires))

pub loop-i-init : goal.loop-i-init
loop-i-init c =
    let bytes = c.args.bytes.now in
    let some = eqb-false (length bytes) 0 (sym c.is_empty.ensures ∙ c.if-is_empty.false) in
    rw (c.put_decimal.ensures, c.from.ensures) (append_assoc c.args.text.now (decimal (get_or bytes 0 0)) (pointed (drop 1 bytes)) ∙ ap (◌++◌ c.args.text.now) (sym (joined_first bytes (omega arith))))

pub put_marked-requires : goal.put_marked-requires
put_marked-requires c =
    let l = c.loop-i in
    let bytes = c.args.bytes.now in
    let fits = next_fits l.text _ c.args.text.now (joined bytes) (46 ∷ decimal (get_or bytes l.i 0)) _ 36974 l.invariant (pointed_next bytes l.i (omega arith)) c.requires in
    (omega (arith, c.from-in-loop-i.ensures, c.type_inv.bytes l.i), rw c.from-in-loop-i.ensures (omega (arith, fits)))

pub loop-i-preserved : goal.loop-i-preserved
loop-i-preserved c =
    let l = c.loop-i in
    let bytes = c.args.bytes.now in
    rw (c.put_marked.ensures, c.from-in-loop-i.ensures) (more_put l.text _ _ _ _ l.invariant (pointed_next bytes l.i (omega arith)))

pub returns : goal.returns
returns c =
    let l = c.loop-i in
    let bytes = c.args.bytes.now in
    all_put l.text _ _ l.invariant (pointed_none _ (drop_of_length-le bytes (omega arith)))
