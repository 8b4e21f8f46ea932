-- `put_holdings` meets its contract: column by column, until none is left. Assumes nothing.
use mathlib.Core.Path.{◌≡◌, sym, ◌∙◌, ap}
use mathlib.Core.List.{◌∷◌, ◌++◌}
use Prim.Native.Nat.{ℕ, ◌+◌, ◌*◌, ◌-◌, ◌≤◌}
use native.Mathlib.Omega.{arith}
use lib.ListN.{get_or, take, drop}
use Rattle.code.specs.Size.{vector_room}
use Rattle.grading.specs.Value.{entries}
use Rattle.grading.specs.Held.{held_as, held_in}
use Rattle.bench_file.specs.Steps.Places.{group_of}
use Rattle.bench.specs.Listing.{held_text, holdings_text}
use Rattle.bench.proofs.Listing.Text.{more_put, all_put, next_fits}
use Rattle.bench.proofs.Listing.Wording.{held_entry, holdings_all, holdings_next, holdings_none, value_in}
use Rattle.bench.proofs.lines.put_holdings.Goals as goal
use Rattle.bench.proofs.lines.put_holdings.Goals.{In-loop-j}

pub loop-j-init : goal.loop-j-init
loop-j-init c =
    rw (c.columns-n.ensures.value, c.size-w.ensures.value) (ap (◌++◌ c.args.text.now) (sym (holdings_all (group_of c.args.settings) c.args.values.now c.args.confidences.now)))

-- the value's place in the array of all
there : (c : In-loop-j) → c.loop-j.j * c.size-w.result + c.size-w.result ≤ vector_room
there c = value_in c.columns-n.result c.size-w.result c.loop-j.j (omega (arith, c.columns-n.ensures.bounds)) (omega (arith, c.size-w.ensures.bounds)) (omega arith)

pub overflow_mul-start : goal.overflow_mul-start
overflow_mul-start c = omega (arith, there (goal.at.overflow_mul-start c).In-loop-j)

pub put_held-requires : goal.put_held-requires
put_held-requires c =
    let l = c.loop-j in
    let a = c.args in
    let w = c.size-w.result in
    let vs = a.values.now in
    let cs = a.confidences.now in
    let size : l.j * w + w - l.j * w ≡ w = omega arith in
    let n = c.columns-n.result in
    let held = 32 ∷ held_text (held_as (take w (drop (l.j * w) vs)) (get_or cs l.j 0)) in
    let more = holdings_text (entries (n - (l.j + 1)) (l.j + 1) (held_entry n w vs cs)) in
    rw size
    (next_fits l.text _ a.text.now (holdings_text (held_in (group_of a.settings) vs cs)) held more 36974 l.invariant (holdings_next n w vs cs l.j (omega arith)) c.requires)

pub loop-j-preserved : goal.loop-j-preserved
loop-j-preserved c =
    let l = c.loop-j in
    let a = c.args in
    let w = c.size-w.result in
    let size : l.j * w + w - l.j * w ≡ w = omega arith in
    rw (c.put_held.ensures, size)
    (more_put l.text _ _ _ _ l.invariant (holdings_next c.columns-n.result w a.values.now a.confidences.now l.j (omega arith)))

pub returns : goal.returns
returns c =
    let l = c.loop-j in
    let a = c.args in
    let n = c.columns-n.result in
    let f = held_entry n c.size-w.result a.values.now a.confidences.now in
    let none : n - l.j ≡ 0 = omega arith in
    all_put l.text _ _ l.invariant (ap (λ (k : ℕ). holdings_text (entries k l.j f)) none ∙ holdings_none f l.j)
