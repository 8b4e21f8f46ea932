-- `put_value` meets its contract: blank or not. Assumes nothing.
use mathlib.Core.Path.{sym, ◌∙◌, ap}
use mathlib.Core.List.{◌++◌}
use native.Mathlib.Omega.{arith}
use lib.ListN.{length}
use Rattle.bench.proofs.Listing.Wording.{blank_text, filled_text}
use Rattle.grading.proofs.Value.{all_zero_blank}
use Rattle.bench.proofs.lines.put_value.Goals as goal

pub put_byte-requires : goal.put_byte-requires
put_byte-requires c =
    omega (arith, c.requires, ap length (blank_text c.args.value.now (sym (c.is_zero.ensures ∙ all_zero_blank c.args.value.now) ∙ c.if-is_zero.true)))

pub returns-then-is_zero : goal.returns-then-is_zero
returns-then-is_zero c =
    let value = c.args.value.now in
    c.put_byte.ensures ∙ ap (◌++◌ c.args.text.now) (sym (blank_text value (sym (c.is_zero.ensures ∙ all_zero_blank value) ∙ c.if-is_zero.true)))

pub put_joined-requires : goal.put_joined-requires
put_joined-requires c =
    omega (arith, c.requires, ap length (filled_text c.args.value.now (sym (c.is_zero.ensures ∙ all_zero_blank c.args.value.now) ∙ c.if-is_zero.false)))

pub returns : goal.returns
returns c =
    let value = c.args.value.now in
    c.put_joined.ensures ∙ ap (◌++◌ c.args.text.now) (sym (filled_text value (sym (c.is_zero.ensures ∙ all_zero_blank value) ∙ c.if-is_zero.false)))
