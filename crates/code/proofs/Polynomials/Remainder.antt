-- The checks of a plane are the remainder of its polynomial by the generator. Division by a polynomial whose highest
-- coefficient is 1 takes one coefficient of the dividend at a time. A remainder's checks make a codeword, because at a root
-- the generator is 0, so that dividend and remainder have the same value there; and a codeword's checks are the remainder,
-- because a plane has only one list of checks. Assumes nothing.
use mathlib.Core.Path.{◌≡◌, sym, ◌∙◌, ap, ap₂}
use mathlib.Core.Bool.{true}
use mathlib.Core.List.{List, [], ◌∷◌, ◌++◌, reverse, reverse-cons, reverse-reverse, append-nil, append_assoc}
use Prim.Native.Nat.{ℕ, zero, suc, ◌+◌, ◌-◌, ◌≤◌, ◌<◌}
use native.Mathlib.Omega.{arith}
use native.Mathlib.Decide.{ℕ_discrete, dec_lt}
use lib.ListN.{length, get_or, take, replicate, length-append, length-reverse, length-replicate, get_or-eq_default}
use lib.Seq.{get_or-take, length-take-le}
use Rattle.field.specs.Field.{plus, times, power}
use Rattle.field.proofs.Xor.{plus_comm, plus_self, plus_lt, plus_zero, zero_plus, plus_swap}
use Rattle.field.proofs.Times.{times_zero}
use Rattle.field.proofs.Power.{power_lt}
use Rattle.field.proofs.Logarithm.{times_comm, times_one}
use Rattle.code.specs.Settings.{Settings, settings_refusal, check_count}
use Rattle.code.specs.Polynomial.{eval, added, scaled, multiplied, root, generator, Remainder}
use Rattle.code.specs.Plane.{summed, syndrome, is_codeword, data_polynomial, check_polynomial}
use Rattle.code.specs.Promise.{ChecksRemain}
use Rattle.arrays.proofs.Bytes.{Bytes, byte_at, bytes_every, bytes_take, bytes_zeros, bytes_append, bytes_reverse}
use Rattle.code.proofs.Tests.{bytes_of}
use Rattle.arrays.proofs.Zeros.{zeros_at}
use Rattle.code.proofs.Polynomials.Arithmetic.{eval_lt, eval_added, eval_multiplied, eval_append, eval_single, eval_zeros, eval_ext, get_or_added, get_or_scaled, get_or_multiplied, bytes_added, bytes_scaled, bytes_multiplied, length_added, length_scaled}
use Rattle.code.proofs.Polynomials.Generator.{root_lt, generator_length, generator_root, generator_leading}
use Rattle.code.proofs.ValidSettings.{Sizes, sizes}
use Rattle.code.proofs.Codewords.Word.{Shape, word_back}
use Rattle.code.proofs.Codewords.Near.{plane_unique}

-- one coefficient more than the remainder has room for: a multiple of the divisor takes the highest away
reduced : (m : ℕ) (divisor ds : List ℕ) → List ℕ
reduced m g ds = take m (added ds (scaled (get_or ds m 0) g))

-- what a division by m + 1 coefficients, the highest of them 1, comes to: a remainder of m bytes
pub record Divided (m : ℕ) (divisor dividend : List ℕ) : Type 0 where
  pub rest : List ℕ
  pub long : length rest ≡ m
  pub rest_bytes : Bytes rest
  pub remains : Remainder divisor dividend rest

plus_cancel : (a b c : ℕ) → plus (plus a b) (plus c a) ≡ plus b c
plus_cancel a b c = ap (λ (z : ℕ). plus z (plus c a)) (plus_comm a b) ∙ plus_swap b a c a ∙ ap (plus (plus b c)) (plus_self a) ∙ plus_zero _ (plus_lt b c)

module _ (m : ℕ) (g : List ℕ) (long : length g ≡ suc m) (leading : get_or g m 0 ≡ 1) where
  reduced_length : (ds : List ℕ) → length ds ≡ suc m → length (reduced m g ds) ≡ m
  unfolding reduced
  reduced_length ds e =
      length-take-le m _ (omega (arith, length_added ds (scaled (get_or ds m 0) g) (omega (arith, length_scaled (get_or ds m 0) g))))

  reduced_bytes : (ds : List ℕ) → Bytes ds → Bytes (reduced m g ds)
  unfolding reduced
  reduced_bytes ds b = bytes_take m _ (bytes_added ds (scaled (get_or ds m 0) g) b (bytes_scaled (get_or ds m 0) g))

  reduced_at : (ds : List ℕ) → length ds ≡ suc m → Bytes ds → (i : ℕ) → get_or (reduced m g ds) i 0 ≡ plus (get_or ds i 0) (times (get_or ds m 0) (get_or g i 0))
  unfolding reduced
  reduced_at ds e b i = go (dec_lt i m) (ℕ_discrete i m)
    where
      c : ℕ
      c = get_or ds m 0

      beyond : m ≤ i → get_or (reduced m g ds) i 0 ≡ 0
      beyond h = get_or-eq_default (reduced m g ds) 0 (omega (arith, reduced_length ds e))

      go : Dec (i < m) → Dec (i ≡ m) → get_or (reduced m g ds) i 0 ≡ plus (get_or ds i 0) (times c (get_or g i 0))
      go (yes h) d =
          get_or-take m (added ds (scaled c g)) i 0 h ∙ get_or_added ds (scaled c g) i b (bytes_scaled c g)
          ∙ ap (plus (get_or ds i 0)) (get_or_scaled c g i (byte_at ds m b))
      go (no h) (yes q) =
          beyond (omega arith) ∙ sym
          (ap (λ (j : ℕ). plus (get_or ds j 0) (times c (get_or g j 0))) q ∙ ap (plus c) (ap (times c) leading ∙ times_one c (byte_at ds m b)) ∙ plus_self c)
      go (no h) (no q) =
          beyond (omega arith) ∙ sym
          (ap₂ (λ (x y : ℕ). plus x (times c y)) (get_or-eq_default ds 0 (omega arith)) (get_or-eq_default g 0 (omega arith))
          ∙ ap (plus 0) (times_zero c (byte_at ds m b)) ∙ plus_self 0)

  divided_cons : (d : ℕ) (ds : List ℕ) → d < 256 → Divided m g ds → Divided m g (d ∷ ds)
  divided_cons d ds h v = record {
    rest = reduced m g (d ∷ v.rest);
    long = reduced_length (d ∷ v.rest) (ap suc v.long);
    rest_bytes = reduced_bytes (d ∷ v.rest) (h, v.rest_bytes);
    remains = record {
      quotient = c ∷ q;
      quotient_bytes = λ i. byte_at (c ∷ q) i (c_lt, bytes_every q v.remains.quotient_bytes);
      shorter = omega (arith, reduced_length (d ∷ v.rest) (ap suc v.long));
      adds_up = λ i.
          get_or_added (multiplied (c ∷ q) g) (reduced m g (d ∷ v.rest)) i (bytes_multiplied (c ∷ q) g) (reduced_bytes (d ∷ v.rest) (h, v.rest_bytes))
          ∙ ap₂ plus (get_or_multiplied c q g i c_lt) (reduced_at (d ∷ v.rest) (ap suc v.long) (h, v.rest_bytes) i)
          ∙ plus_cancel _ _ _ ∙ shifted i;
    };
  }
    where
      c : ℕ
      c = get_or (d ∷ v.rest) m 0

      q : List ℕ
      q = v.remains.quotient

      c_lt : c < 256
      c_lt = byte_at (d ∷ v.rest) m (h, v.rest_bytes)

      shifted : (i : ℕ) → plus (get_or (0 ∷ multiplied q g) i 0) (get_or (d ∷ v.rest) i 0) ≡ get_or (d ∷ ds) i 0
      shifted zero = zero_plus d h
      shifted (suc i) = sym (get_or_added (multiplied q g) v.rest i (bytes_multiplied q g) v.rest_bytes) ∙ v.remains.adds_up i

  pub divided : (ds : List ℕ) → Bytes ds → Divided m g ds
  unfolding multiplied added
  divided [] b = record {
    rest = replicate m 0;
    long = length-replicate m 0;
    rest_bytes = bytes_zeros m;
    remains = record { quotient = []; quotient_bytes = λ i. omega arith; shorter = omega (arith, length-replicate {A = ℕ} m 0); adds_up = zeros_at m };
  }
  divided (d ∷ ds) b = divided_cons d ds b.0 (divided ds b.1)

-- bytes times falling powers are the value of the bytes in reverse with zeros below them, so a syndrome is a sum of two values
eval_reverse_cons : (zs bs : List ℕ) (b x : ℕ) → b < 256 → x < 256 →
    eval (zs ++ reverse (b ∷ bs)) x ≡ plus (times b (power x (length zs + length bs))) (eval (zs ++ reverse bs) x)
eval_reverse_cons zs bs b x h l =
    ap (λ (ps : List ℕ). eval ps x) (ap (λ (ps : List ℕ). zs ++ ps) (reverse-cons b bs) ∙ sym (append_assoc zs (reverse bs) (b ∷ [])))
    ∙ eval_append (zs ++ reverse bs) (b ∷ []) x l ∙ plus_comm _ _
    ∙ ap (λ (z : ℕ). plus z (eval (zs ++ reverse bs) x))
    (ap₂ (λ (y k : ℕ). times (power x k) y) (eval_single b x h l) (length-append zs (reverse bs) ∙ ap (λ (k : ℕ). length zs + k) (length-reverse bs))
    ∙ times_comm (power x (length zs + length bs)) b (power_lt x (length zs + length bs)) h)

summed_eval : (z m x : ℕ) (bs : List ℕ) → x < 256 → Bytes bs → z + length bs ≡ m → summed x (m - 1) bs ≡ eval (replicate z 0 ++ reverse bs) x
unfolding summed
summed_eval z m x [] h b e = sym (ap (λ (ps : List ℕ). eval ps x) (append-nil (replicate z 0)) ∙ eval_zeros z x h)
summed_eval z m x (c ∷ bs) h b e =
    ap₂ (λ (k v : ℕ). plus (times c (power x k)) v) (omega (arith, length-replicate {A = ℕ} z 0)) (summed_eval z (m - 1) x bs h b.1 (omega arith))
    ∙ sym (eval_reverse_cons (replicate z 0) bs c x b.0 h)

pub syndrome_eval :
    (s : Settings) (i : ℕ) (bs cs : List ℕ) → Sizes s → Shape s bs cs →
    syndrome s i bs cs ≡ plus (eval (data_polynomial bs) (root i)) (eval (check_polynomial cs) (root i))
unfolding syndrome data_polynomial check_polynomial
syndrome_eval s i bs cs z v =
    ap₂ plus (summed_eval (255 - length bs) 255 (root i) bs (root_lt i) v.bytes (omega arith))
    (summed_eval 0 (check_count s) (root i) cs (root_lt i) v.check_bytes (omega arith))

-- at a root of the divisor the dividend has the remainder's value, so the syndromes of a plane and its remainder are 0
pub remainder_eval :
    (g ps rs : List ℕ) (x : ℕ) → x < 256 → eval g x ≡ 0 → Remainder g ps rs → eval ps x ≡ eval rs x
remainder_eval g ps rs x h z v =
    sym (eval_ext (added (multiplied v.quotient g) rs) ps x h v.adds_up) ∙ eval_added (multiplied v.quotient g) rs x h
    ∙ ap (λ (y : ℕ). plus y (eval rs x))
    (eval_multiplied v.quotient g x (bytes_every v.quotient v.quotient_bytes) h ∙ ap (times (eval v.quotient x)) z ∙ times_zero _ (eval_lt v.quotient x))
    ∙ zero_plus _ (eval_lt rs x)

pub remainder_codeword :
    (s : Settings) (bs cs : List ℕ) → settings_refusal s ≡ 0 → Shape s bs cs →
    Remainder (generator (check_count s)) (data_polynomial bs) (check_polynomial cs) → is_codeword s bs cs ≡ true
remainder_codeword s bs cs r v q = word_back s bs cs record { shape = v; roots = zero_at }
  where
    zero_at : (i : ℕ) → i < check_count s → syndrome s i bs cs ≡ 0
    zero_at i h =
        syndrome_eval s i bs cs (sizes s r) v
        ∙ ap (λ (y : ℕ). plus y (eval (check_polynomial cs) (root i)))
        (remainder_eval (generator (check_count s)) (data_polynomial bs) (check_polynomial cs) (root i) (root_lt i) (generator_root (check_count s) i h) q)
        ∙ plus_self _

-- every plane has checks that are its remainder, and no others
data_bytes : (bs : List ℕ) → Bytes bs → Bytes (data_polynomial bs)
unfolding data_polynomial
data_bytes bs b = bytes_append (replicate (255 - length bs) 0) (reverse bs) (bytes_zeros (255 - length bs)) (bytes_reverse bs b)

pub plane_remainder :
    (s : Settings) (bs : List ℕ) → length bs ≡ s.n → Bytes bs →
    (cs : List ℕ) × Shape s bs cs × Remainder (generator (check_count s)) (data_polynomial bs) (check_polynomial cs)
unfolding check_polynomial
plane_remainder s bs e b =
    let m = check_count s in
    let v = divided m (generator m) (generator_length m) (generator_leading m) (data_polynomial bs) (data_bytes bs b) in (
      reverse v.rest,
      record { many = e; many_checks = length-reverse v.rest ∙ v.long; bytes = b; check_bytes = bytes_reverse v.rest v.rest_bytes },
      rw reverse-reverse v.remains,
    )

pub plane_checks : (s : Settings) (bs : List ℕ) → settings_refusal s ≡ 0 → length bs ≡ s.n → Bytes bs → (ds : List ℕ) × (is_codeword s bs ds ≡ true)
plane_checks s bs r e b = let v = plane_remainder s bs e b in (v.0, remainder_codeword s bs v.0 r v.1 v.2)

pub checks_remain : ChecksRemain
unfolding ChecksRemain
checks_remain s bs cs r e f b d = (
  λ c. let v = plane_remainder s bs e (bytes_of bs b) in rw (plane_unique s bs cs v.0 r c (remainder_codeword s bs v.0 r v.1 v.2)) v.2,
  remainder_codeword s bs cs r record { many = e; many_checks = f; bytes = bytes_of bs b; check_bytes = bytes_of cs d },
)
