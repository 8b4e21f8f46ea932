-- The code is linear: the sum of two codewords is a codeword. So a word and a codeword near it may be moved by one more
-- codeword, and stay near. Assumes nothing.
use mathlib.Core.Path.{◌≡◌, sym, ◌∙◌, ap, ap₂}
use mathlib.Core.Bool.{true}
use mathlib.Core.List.{List, [], ◌∷◌}
use Prim.Native.Nat.{ℕ, ◌-◌, ◌<◌, ◌≤◌}
use native.Mathlib.Omega.{arith}
use lib.Dec.{eqb}
use lib.ListN.{length}
use borrow.Author.Tests.{eqb-true, eq-eqb}
use Rattle.arrays.proofs.Bool.{count_le}
use Rattle.field.specs.Field.{plus, power}
use Rattle.field.proofs.Xor.{plus_self, plus_lt, plus_swap}
use Rattle.field.proofs.Power.{power_lt}
use Rattle.field.proofs.Logarithm.{plus_times}
use Rattle.code.specs.Settings.{Settings, check_count}
use Rattle.code.specs.Polynomial.{root, added}
use Rattle.code.specs.Plane.{summed, syndrome, is_codeword, differ}
use Rattle.code.specs.Repair.{Near}
use Rattle.arrays.proofs.Bytes.{Bytes}
use Rattle.code.proofs.Polynomials.Arithmetic.{length_added, bytes_added}
use Rattle.code.proofs.Codewords.Word.{Shape, word_of, word_back}

pub syndrome_lt : (s : Settings) (i : ℕ) (bs cs : List ℕ) → syndrome s i bs cs < 256
unfolding syndrome
syndrome_lt s i bs cs = plus_lt _ _

-- the sum of two words
summed_plus :
    (x k : ℕ) (us vs : List ℕ) → length us ≡ length vs → Bytes us → Bytes vs → summed x k (added us vs) ≡ plus (summed x k us) (summed x k vs)
unfolding summed added
summed_plus x k [] [] e b c = sym (plus_self 0)
summed_plus x k [] (v ∷ vs) e b c = absurd (omega arith)
summed_plus x k (u ∷ us) [] e b c = absurd (omega arith)
summed_plus x k (u ∷ us) (v ∷ vs) e b c =
    ap₂ plus (plus_times u v (power x k) b.0 c.0 (power_lt x k)) (summed_plus x (k - 1) us vs (omega arith) b.1 c.1) ∙ plus_swap _ _ _ _

module _ (s : Settings) (us ds vs es : List ℕ) where
  pub syndrome_plus :
      (i : ℕ) → Shape s us ds → Shape s vs es → syndrome s i (added us vs) (added ds es) ≡ plus (syndrome s i us ds) (syndrome s i vs es)
  unfolding syndrome
  syndrome_plus i v w =
      ap₂ plus (summed_plus (root i) 254 us vs (v.many ∙ sym w.many) v.bytes w.bytes)
      (summed_plus (root i) (check_count s - 1) ds es (v.many_checks ∙ sym w.many_checks) v.check_bytes w.check_bytes)
      ∙ plus_swap _ _ _ _

  pub codeword_plus : is_codeword s us ds ≡ true → is_codeword s vs es ≡ true → is_codeword s (added us vs) (added ds es) ≡ true
  codeword_plus e f =
      let v = word_of s us ds e in
      let w = word_of s vs es f in
      let a = v.shape in
      let b = w.shape in
      word_back s (added us vs) (added ds es)
      (record {
        shape = record {
          many = length_added us vs (omega arith) ∙ a.many;
          many_checks = length_added ds es (omega arith) ∙ a.many_checks;
          bytes = bytes_added us vs a.bytes b.bytes;
          check_bytes = bytes_added ds es a.check_bytes b.check_bytes;
        };
        roots = λ i h. syndrome_plus i a b ∙ ap₂ plus (v.roots i h) (w.roots i h) ∙ plus_self 0;
      })

-- moved by a codeword
differ_plus : (vs bs us : List ℕ) → length bs ≡ length vs → length us ≡ length vs → differ (added vs bs) (added vs us) ≤ differ bs us
unfolding differ added
differ_plus [] [] us e f = omega arith
differ_plus [] (b ∷ bs) us e f = absurd (omega arith)
differ_plus (v ∷ vs) [] us e f = absurd (omega arith)
differ_plus (v ∷ vs) (b ∷ bs) [] e f = absurd (omega arith)
differ_plus (v ∷ vs) (b ∷ bs) (u ∷ us) e f =
    omega (arith, count_le (eqb (plus v b) (plus v u)) (eqb b u) (λ q. eq-eqb _ _ (ap (plus v) (eqb-true b u q))), differ_plus vs bs us (omega arith) (omega arith))

pub near_plus :
    (s : Settings) (vs es bs cs us ds : List ℕ) → is_codeword s vs es ≡ true → length bs ≡ s.n → length cs ≡ check_count s → Near s bs cs us ds →
    Near s (added vs bs) (added es cs) (added vs us) (added es ds)
near_plus s vs es bs cs us ds e f g near =
    let v = (word_of s vs es e).shape in
    let u = (word_of s us ds near.codeword).shape in
    record {
      codeword = codeword_plus s vs es us ds e near.codeword;
      within = omega (arith, differ_plus vs bs us (f ∙ sym v.many) (omega arith), differ_plus es cs ds (g ∙ sym v.many_checks) (omega arith), near.within);
    }
