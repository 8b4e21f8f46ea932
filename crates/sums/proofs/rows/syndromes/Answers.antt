-- `syndromes` meets its contract: each turn goes one power of the roots down and adds the terms of one more check. Assumes nothing.
use mathlib.Core.Path.{◌≡◌, refl, ◌∙◌, subst}
use mathlib.Core.List.{List}
use Prim.Native.Nat.{ℕ, ◌+◌, ◌-◌}
use native.Mathlib.Omega.{arith}
use lib.ListN.{take}
use Rattle.arrays.specs.Array.{Filled}
use Rattle.field.specs.Field.{power}
use Rattle.code.specs.Polynomial.{root}
use Rattle.sums.specs.Rows.{RootExponents}
use Rattle.lanes.proofs.Lane.{row_at}
use Rattle.arrays.proofs.Written.{written_filled}
use Rattle.sums.proofs.Sums.Exponents.{exponents_below}
use Rattle.sums.proofs.Sums.Terms.{filled_prefix, terms_of_products}
use Rattle.sums.proofs.Sums.CheckSums.{check_sums_none, check_sums_more}
use Rattle.sums.proofs.rows.syndromes.Goals as goal
use Rattle.sums.proofs.rows.syndromes.Goals.{After-lower, After-put_root_powers}

exponents_of : {many d e : ℕ} {bytes : List ℕ} → d ≡ e → RootExponents many d bytes → RootExponents many e bytes
exponents_of {many = many} {bytes = bytes} q r = subst (λ (k : ℕ). RootExponents many k bytes) q r

-- the exponents of a turn, and the constants that they make
lowered : (c : After-lower) → RootExponents c.args.count (c.args.count - (c.loop-c.c + 1)) c.lower.new.exponents
lowered c = exponents_below _ _ _ _ c.requires.0 c.lower.ensures (exponents_of (omega arith) c.loop-c.invariant.0)

constants :
    (c : After-put_root_powers) → let count = c.args.count in
    Filled count count (λ i. power (root i) (count - (c.loop-c.c + 1))) (take count c.put_root_powers.new.constants)
constants c =
    filled_prefix _ _ _ (rw c.loop-c.invariant.1 c.requires.0) (lowered (goal.at.After-put_root_powers c).After-lower).same (written_filled c.put_root_powers.ensures)

pub loop-c-init : goal.loop-c-init
loop-c-init c = (exponents_of (omega arith) c.root_exponents-exponents.ensures, refl, check_sums_none _ _ _ refl refl)

pub loop-c-preserved : goal.loop-c-preserved
loop-c-preserved c =
    let d = c.args.difference.now in (
      lowered (goal.at.loop-c-preserved c).After-lower,
      c.put_root_powers.ensures.long ∙ c.loop-c.invariant.1,
      check_sums_more c.loop-c.c _ _ d _ _ _ (omega arith) c.loop-c.invariant.2 (row_at d c.loop-c.c) (terms_of_products _ _ _ _ _ _ (constants (goal.at.loop-c-preserved c).After-put_root_powers) c.add_row.ensures),
    )
