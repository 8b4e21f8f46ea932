-- The best so far and one more value, by how often each is found. A value that is blank, or found less often than a best that is none,
-- changes nothing; one found more often goes before it, and the bytes break a tie. Assumes nothing.
use mathlib.Core.Path.{◌≡◌, refl, sym}
use mathlib.Core.Bool.{Bool, true, false, cond, not, and-false, or-true}
use Prim.Native.Nat.{ℕ, ◌<◌}
use native.Mathlib.Omega.{arith}
use borrow.Author.Tests.{lt-ltb, le-ltb, eq-eqb, ne_eqb}
use Rattle.grading.specs.Value.{Value, Rows, is_blank, bytes_before}
use Rattle.grading.specs.Count.{found, better_by, better, next_best}
use Rattle.counting.specs.Steps.Tally.{counted}

module _ (c d : ℕ) (v b : Value) where
  pub better_fewer : c < d → is_blank b ≡ false → better_by c d v b ≡ false
  unfolding better_by
  better_fewer h e = rw (e, le-ltb d c (omega arith), ne_eqb d c (λ f. absurd (omega arith))) (and-false (not (is_blank v)))

  pub better_blank : is_blank v ≡ true → better_by c d v b ≡ false
  unfolding better_by
  better_blank e = rw e

  pub better_more : d < c → is_blank v ≡ false → better_by c d v b ≡ true
  unfolding better_by
  better_more h e = rw (e, lt-ltb d c h) (or-true (is_blank b))

  pub better_tie : c ≡ d → is_blank v ≡ false → is_blank b ≡ false → better_by c d v b ≡ bytes_before v b
  unfolding better_by
  better_tie h e f = rw (e, f, le-ltb d c (omega arith), eq-eqb d c (sym h))

module _ (j : ℕ) (rows : Rows) where
  -- by counts: that of the best counts only where it is no blank
  pub better_counted : (v b : Value) (c d : ℕ) → c ≡ found j v rows → d ≡ counted j b rows → better_by c d v b ≡ better j rows v b
  unfolding better_by better counted
  better_counted v b c d e f = rw (e, f) (go (is_blank b) refl)
    where
      go : (q : Bool) → is_blank b ≡ q → better_by (found j v rows) (cond q 0 (found j b rows)) v b ≡ better_by (found j v rows) (found j b rows) v b
      go true g = rw g
      go false g = refl

  pub next_by : (v b : Value) (q : Bool) → q ≡ better j rows v b → next_best j rows v b ≡ cond q v b
  unfolding next_best
  next_by v b q e = rw e
