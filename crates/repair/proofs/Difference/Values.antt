-- Values added byte by byte: with zeros, with themselves, twice with the same bytes; a plane of the sum is the sum of the planes, and
-- values to which the same are added differ where they did before, and so do words.
-- Assumes nothing.
use mathlib.Core.Path.{◌≡◌, refl, sym, ◌∙◌, ap, ap₂}
use mathlib.Core.Bool.{Bool, true, false, ◌&&◌, cond}
use mathlib.Core.List.{List, [], ◌∷◌, ◌++◌}
use Prim.Native.Nat.{ℕ, zero, suc, ◌+◌, ◌*◌, ◌<◌}
use native.Mathlib.Omega.{arith}
use lib.Dec.{eqb}
use lib.ListN.{length, replicate, length-replicate, length-append}
use borrow.Author.Tests.{eqb-true, eqb-false, eq-eqb, ne_eqb}
use Rattle.field.specs.Field.{plus}
use Rattle.field.proofs.Xor.{plus_self, plus_zero, plus_again}
use Rattle.code.specs.Settings.{Settings, check_count, value_size}
use Rattle.code.specs.Polynomial.{added}
use Rattle.code.specs.Vector.{plane, same, differ_values, cut}
use Rattle.code.specs.Repair.{last_difference}
use Rattle.arrays.proofs.Bytes.{Bytes, bytes_zeros, bytes_append}
use Rattle.arrays.proofs.Zeros.{zeros_at}
use Rattle.code.proofs.Polynomials.Arithmetic.{length_added, bytes_added, get_or_added}
use Rattle.code.proofs.Codewords.Word.{Shape}
use Rattle.code.proofs.Vectors.Planes.{Values}
use Rattle.repair.specs.Difference.{plus_values, zeros}
use Rattle.code.proofs.Vectors.Cut.{cut_length, cut_values}

-- sums of bytes with zeros, with themselves, and twice with the same bytes
pub added_zeros : (n : ℕ) (vs : List ℕ) → length vs ≡ n → Bytes vs → added vs (replicate n 0) ≡ vs
unfolding added
added_zeros zero [] e b = refl
added_zeros (suc n) [] e b = absurd (omega arith)
added_zeros zero (v ∷ vs) e b = absurd (omega arith)
added_zeros (suc n) (v ∷ vs) e b = ap₂ ◌∷◌ (plus_zero v b.0) (added_zeros n vs (omega arith) b.1)

pub added_self : (vs : List ℕ) → added vs vs ≡ replicate (length vs) 0
unfolding added
added_self [] = refl
added_self (v ∷ vs) = ap₂ ◌∷◌ (plus_self v) (added_self vs)

pub added_again : (vs cs : List ℕ) → length vs ≡ length cs → Bytes cs → added vs (added vs cs) ≡ cs
unfolding added
added_again [] [] e b = refl
added_again [] (c ∷ cs) e b = absurd (omega arith)
added_again (v ∷ vs) [] e b = absurd (omega arith)
added_again (v ∷ vs) (c ∷ cs) e b =
    ap₂ ◌∷◌ (plus_again v c b.0) (added_again vs cs (omega arith) b.1)

-- bytes added alike on both sides are the same where they were before
byte_alike : (v a b : ℕ) → a < 256 → b < 256 → eqb (plus v a) (plus v b) ≡ eqb a b
byte_alike v a b h l = go (eqb a b) refl
  where
    go : (q : Bool) → eqb a b ≡ q → eqb (plus v a) (plus v b) ≡ q
    go true e = eq-eqb _ _ (ap (plus v) (eqb-true a b e))
    go false e = ne_eqb _ _ (λ f. eqb-false a b e (sym (plus_again v a h) ∙ ap (plus v) f ∙ plus_again v b l))

added_alike : (vs us bs : List ℕ) → length vs ≡ length us → length vs ≡ length bs → Bytes us → Bytes bs → same (added vs us) (added vs bs) ≡ same us bs
unfolding added same
added_alike [] [] [] e f x y = refl
added_alike [] [] (b ∷ bs) e f x y = absurd (omega arith)
added_alike [] (a ∷ us) bs e f x y = absurd (omega arith)
added_alike (v ∷ vs) [] bs e f x y = absurd (omega arith)
added_alike (v ∷ vs) (a ∷ us) [] e f x y = absurd (omega arith)
added_alike (v ∷ vs) (a ∷ us) (b ∷ bs) e f x y =
    ap₂ ◌&&◌ (byte_alike v a b x.0 y.0) (added_alike vs us bs (omega arith) (omega arith) x.1 y.1)

last_alike :
    (vs us bs : List ℕ) → length vs ≡ length us → length vs ≡ length bs → Bytes us → Bytes bs → last_difference (added vs us) (added vs bs) ≡ last_difference us bs
unfolding added last_difference
last_alike [] [] [] e f x y = refl
last_alike [] [] (b ∷ bs) e f x y = absurd (omega arith)
last_alike [] (a ∷ us) bs e f x y = absurd (omega arith)
last_alike (v ∷ vs) [] bs e f x y = absurd (omega arith)
last_alike (v ∷ vs) (a ∷ us) [] e f x y = absurd (omega arith)
last_alike (v ∷ vs) (a ∷ us) (b ∷ bs) e f x y =
    ap₂ (λ (q : Bool) (k : ℕ). cond (eqb k 0) (cond q 0 1) (suc k)) (byte_alike v a b x.0 y.0)
    (last_alike vs us bs (omega arith) (omega arith) x.1 y.1)

added_append : (vs us es ds : List ℕ) → length vs ≡ length us → added (vs ++ es) (us ++ ds) ≡ added vs us ++ added es ds
unfolding added
added_append [] [] es ds e = refl
added_append [] (u ∷ us) es ds e = absurd (omega arith)
added_append (v ∷ vs) [] es ds e = absurd (omega arith)
added_append (v ∷ vs) (u ∷ us) es ds e = ap (λ (xs : List ℕ). plus v u ∷ xs) (added_append vs us es ds (omega arith))

-- words, bytes and then checks, to which the same is added: their last difference stays
pub last_plus :
    (s : Settings) (vs es bs cs us ds : List ℕ) → Shape s vs es → Shape s bs cs → Shape s us ds →
    last_difference (added vs bs ++ added es cs) (added vs us ++ added es ds) ≡ last_difference (bs ++ cs) (us ++ ds)
last_plus s vs es bs cs us ds v b u =
    ap₂ last_difference (sym (added_append vs bs es cs (v.many ∙ sym b.many))) (sym (added_append vs us es ds (v.many ∙ sym u.many)))
    ∙ last_alike (vs ++ es) (bs ++ cs) (us ++ ds) (omega (arith, long, length-append bs cs, b.many, b.many_checks))
    (omega (arith, long, length-append us ds, u.many, u.many_checks)) (bytes_append bs cs b.bytes b.check_bytes) (bytes_append us ds u.bytes u.check_bytes)
  where
    long : length (vs ++ es) ≡ s.n + check_count s
    long = omega (arith, length-append vs es, v.many, v.many_checks)

pub plus_differ :
    (w : ℕ) (vs us bs : List (List ℕ)) → length vs ≡ length us → length vs ≡ length bs → Values w vs → Values w us → Values w bs →
    differ_values (plus_values vs us) (plus_values vs bs) ≡ differ_values us bs
unfolding plus_values differ_values
plus_differ w [] [] [] e f x y z = refl
plus_differ w [] [] (b ∷ bs) e f x y z = absurd (omega arith)
plus_differ w [] (a ∷ us) bs e f x y z = absurd (omega arith)
plus_differ w (v ∷ vs) [] bs e f x y z = absurd (omega arith)
plus_differ w (v ∷ vs) (a ∷ us) [] e f x y z = absurd (omega arith)
plus_differ w (v ∷ vs) (a ∷ us) (b ∷ bs) e f x y z =
    ap₂ (λ (q : Bool) (i : ℕ). cond q 0 1 + i) (added_alike v a b (x.0 ∙ sym y.0) (x.0 ∙ sym z.0) y.1 z.1)
    (plus_differ w vs us bs (omega arith) (omega arith) x.2 y.2 z.2)

pub plus_values_again : (w : ℕ) (vs cs : List (List ℕ)) → length vs ≡ length cs → Values w vs → Values w cs → plus_values vs (plus_values vs cs) ≡ cs
unfolding plus_values
plus_values_again w [] [] e x y = refl
plus_values_again w [] (c ∷ cs) e x y = absurd (omega arith)
plus_values_again w (v ∷ vs) [] e x y = absurd (omega arith)
plus_values_again w (v ∷ vs) (c ∷ cs) e x y =
    ap₂ ◌∷◌ (added_again v c (x.0 ∙ sym y.0) y.1) (plus_values_again w vs cs (omega arith) x.2 y.2)

-- values and their planes
pub plus_values_length : (vs us : List (List ℕ)) → length vs ≡ length us → length (plus_values vs us) ≡ length vs
unfolding plus_values
plus_values_length [] [] e = refl
plus_values_length [] (u ∷ us) e = absurd (omega arith)
plus_values_length (v ∷ vs) [] e = refl
plus_values_length (v ∷ vs) (u ∷ us) e = ap suc (plus_values_length vs us (omega arith))

pub plus_values_values : (w : ℕ) (vs us : List (List ℕ)) → Values w vs → Values w us → Values w (plus_values vs us)
unfolding plus_values
plus_values_values w [] us a b = b
plus_values_values w (v ∷ vs) [] a b = a
plus_values_values w (v ∷ vs) (u ∷ us) a b =
    (length_added v u (omega arith) ∙ a.0, bytes_added v u a.1 b.1, plus_values_values w vs us a.2 b.2)

pub plane_plus : (p w : ℕ) (vs us : List (List ℕ)) → Values w vs → Values w us → plane p (plus_values vs us) ≡ added (plane p vs) (plane p us)
unfolding plane plus_values added
plane_plus p w [] us a b = refl
plane_plus p w (v ∷ vs) [] a b = refl
plane_plus p w (v ∷ vs) (u ∷ us) a b = ap₂ ◌∷◌ (get_or_added v u p a.1 b.1) (plane_plus p w vs us a.2 b.2)

plane_replicate : (p n w : ℕ) → plane p (replicate n (replicate w 0)) ≡ replicate n 0
unfolding plane
plane_replicate p zero w = refl
plane_replicate p (suc n) w = ap₂ ◌∷◌ (zeros_at w p) (plane_replicate p n w)

pub plane_zeros : (s : Settings) (p : ℕ) → plane p (zeros s) ≡ replicate s.n 0
unfolding zeros
plane_zeros s p = plane_replicate p s.n (value_size s)

-- values of zero bytes, added to a vector
pub zero_values : (n w : ℕ) → Values w (replicate n (replicate w 0))
zero_values zero w = tt
zero_values (suc n) w = (length-replicate w 0, bytes_zeros w, zero_values n w)

pub plus_zero_values : (n w : ℕ) (vs : List (List ℕ)) → length vs ≡ n → Values w vs → plus_values vs (replicate n (replicate w 0)) ≡ vs
unfolding plus_values
plus_zero_values zero w [] e v = refl
plus_zero_values zero w (x ∷ vs) e v = absurd (omega arith)
plus_zero_values (suc n) w [] e v = absurd (omega arith)
plus_zero_values (suc n) w (x ∷ vs) e v = ap₂ ◌∷◌ (added_zeros w x v.0 v.1) (plus_zero_values n w vs (omega arith) v.2)

pub plus_zeros : (n w : ℕ) (vector : List ℕ) → length vector ≡ n * w → Bytes vector → plus_values (cut n w vector) (replicate n (replicate w 0)) ≡ cut n w vector
plus_zeros n w vector l b = plus_zero_values n w (cut n w vector) (cut_length n w vector) (cut_values n w vector (omega arith) b)
