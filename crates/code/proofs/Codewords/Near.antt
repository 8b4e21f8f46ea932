-- No two codewords are within t places of the same bytes. Such two differ in at most 2t places, by the triangle inequality,
-- and as codewords their 2t syndromes are zero, so that 2t power sums of at most 2t wrong places vanish: none is wrong. For the
-- same reason the bytes of a plane have at most one list of checks. Assumes nothing.
use mathlib.Core.Path.{◌≡◌, refl, sym, ◌∙◌, ap₂}
use mathlib.Core.Bool.{Bool, true, false, cond}
use mathlib.Core.List.{List, [], ◌∷◌}
use Prim.Native.Nat.{ℕ, ◌+◌, ◌≤◌}
use native.Mathlib.Omega.{arith}
use lib.Dec.{eqb}
use lib.ListN.{length}
use borrow.Author.Tests.{eqb-true, eq-eqb}
use Rattle.arrays.proofs.Bool.{count_le_one, count_le}
use Rattle.field.specs.Field.{plus}
use Rattle.field.proofs.Xor.{plus_self}
use Rattle.code.specs.Settings.{Settings, settings_refusal, check_count}
use Rattle.code.specs.Plane.{is_codeword, differ}
use Rattle.code.specs.Promise.{OneNear}
use Rattle.code.proofs.Codewords.PowerSum.{few_nonzero}
use Rattle.code.proofs.ValidSettings.{sizes}
use Rattle.code.proofs.Codewords.Word.{Word, word_of, word_errors, word_errors_bytes, word_errors_count, word_errors_different, word_errors_sum, equal_of_word_errors_zero}

-- how many places differ
pub differ_self : (us : List ℕ) → differ us us ≡ 0
unfolding differ
differ_self [] = refl
differ_self (u ∷ us) = rw (eq-eqb u u refl) (omega (arith, differ_self us))

pub differ_le_length : (us vs : List ℕ) → differ us vs ≤ length us
unfolding differ
differ_le_length [] vs = omega arith
differ_le_length (u ∷ us) [] = omega arith
differ_le_length (u ∷ us) (v ∷ vs) = omega (arith, count_le_one (eqb u v), differ_le_length us vs)

byte_triangle : (b u v : ℕ) → cond (eqb u v) 0 1 ≤ cond (eqb b u) 0 1 + cond (eqb b v) 0 1
byte_triangle b u v = go (eqb b u) refl
  where
    go : (t : Bool) → eqb b u ≡ t → cond (eqb u v) 0 1 ≤ cond t 0 1 + cond (eqb b v) 0 1
    go true e = omega (arith, count_le (eqb u v) (eqb b v) (λ f. eq-eqb u v (sym (eqb-true b u e) ∙ eqb-true b v f)))
    go false e = omega (arith, count_le_one (eqb u v))

pub differ_triangle : (bs us vs : List ℕ) → length bs ≡ length us → differ us vs ≤ differ bs us + differ bs vs
unfolding differ
differ_triangle bs [] vs e = omega arith
differ_triangle bs (u ∷ us) [] e = omega arith
differ_triangle [] (u ∷ us) (v ∷ vs) e = absurd (omega arith)
differ_triangle (b ∷ bs) (u ∷ us) (v ∷ vs) e = omega (arith, byte_triangle b u v, differ_triangle bs us vs (omega arith))

-- codewords that differ in at most 2t places are the same
pub same_word :
    (s : Settings) (us ds vs es : List ℕ) → settings_refusal s ≡ 0 → Word s us ds → Word s vs es → differ us vs + differ ds es ≤ check_count s →
    (us ≡ vs) × (ds ≡ es)
same_word s us ds vs es r v w c =
    let z = sizes s r in
    equal_of_word_errors_zero s us ds vs es z v.shape w.shape
    (few_nonzero (check_count s) (word_errors s us ds vs es) (word_errors_bytes s us ds vs es)
    (word_errors_different s us ds vs es z v.shape.many) (omega (arith, word_errors_count s us ds vs es))
    (λ i h. word_errors_sum s us ds vs es i z v.shape w.shape ∙ ap₂ plus (v.roots i h) (w.roots i h) ∙ plus_self 0))

pub one_near : OneNear
unfolding OneNear check_count
one_near s bs cs us ds vs es r e f first second =
    let v = word_of s us ds first.codeword in
    let w = word_of s vs es second.codeword in
    same_word s us ds vs es r v w
    (omega (arith, differ_triangle bs us vs (e ∙ sym v.shape.many), differ_triangle cs ds es (f ∙ sym v.shape.many_checks), first.within, second.within))

-- one list of checks for the bytes of a plane
pub plane_unique : (s : Settings) (bs ds es : List ℕ) → settings_refusal s ≡ 0 → is_codeword s bs ds ≡ true → is_codeword s bs es ≡ true → ds ≡ es
plane_unique s bs ds es r e f =
    let v = word_of s bs ds e in
    (same_word s bs ds bs es r v (word_of s bs es f) (omega (arith, differ_self bs, differ_le_length ds es, v.shape.many_checks))).1
