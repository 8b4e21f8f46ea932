-- `Coded::new` meets its contract: what `put_checks` wrote stands in front of the array. Assumes nothing.
use mathlib.Core.Path.{◌≡◌, refl, sym, ◌∙◌, ap}
use mathlib.Core.List.{List}
use Prim.Native.Nat.{ℕ, ◌*◌}
use native.Mathlib.Omega.{arith}
use lib.ListN.{length}
use lib.Seq.{length-take-le, take_at}
use borrow.Author.Rules.{rules}
use Rattle.code.specs.Settings.{settings, check_count, value_size}
use Rattle.record.specs.Frame.{operand_size, checks_in}
use Rattle.rounds.specs.Steps.Senders.{coded_settings, coded_vector}
use Rattle.code.specs.Vector.{has_checks}
use Rattle.code.specs.Entry.{values_in}
use Rattle.code.proofs.ValidSettings.{sizes}
use Rattle.rounds.proofs.coded.Coded.new.Goals as goal

pub operand_size-end-requires : goal.operand_size-end-requires
unfolding settings
operand_size-end-requires c = let few = sizes _ c.args.settings.allowed in (omega arith, few.few_bytes)

pub slice_bounds-put_checks-end-2 : goal.slice_bounds-put_checks-end-2
slice_bounds-put_checks-end-2 c = sym (length-take-le _ _ (search rules))

pub put_checks-requires : goal.put_checks-requires
unfolding operand_size settings check_count value_size
put_checks-requires c = (search rules, length-take-le _ _ (search rules) ∙ c.operand_size-end.ensures.0)

pub invariant_of-result : goal.invariant_of-result
unfolding operand_size settings check_count value_size
invariant_of-result c =
    let p = c.put_checks in
    let s = c.args.settings in
    let u = settings s.n s.t s.w in
    let long : length p.new.operand ≡ check_count u * value_size u =
    p.auto.operand ∙ length-take-le _ _ (search rules) ∙ c.operand_size-end.ensures.0 in
    let front = take_at p.new.operand _ _ long in
    record { checked = ap (λ (bs : List ℕ). has_checks u (values_in u s.n c.args.vector) (checks_in u bs)) front ∙ p.ensures }

pub returns : goal.returns
unfolding coded_settings coded_vector
returns c = (refl, refl)
