-- The generator and its feedback in arrays. A product by one more factor is written over the polynomial from the highest
-- coefficient on, since each needs that place's old byte and the one below it; from the generator for one root fewer it makes
-- the next; and the feedback is the generator over its lowest coefficient, without that one, so that a root times its value
-- there is 1. Assumes nothing.
use mathlib.Core.Path.{◌≡◌, refl, sym, ◌∙◌, ap, ap₂, subst}
use mathlib.Core.Bool.{true}
use mathlib.Core.List.{List, [], ◌∷◌}
use Prim.Native.Nat.{ℕ, zero, suc, ◌+◌, ◌-◌, ◌≤◌, ◌<◌}
use native.Mathlib.Omega.{arith}
use native.Mathlib.Decide.{dec_lt}
use lib.ListN.{length, get_or, set, replicate, length-set, get_or-replicate, get_or-eq_default}
use lib.Seq.{ext_get_or, get_or-set_same, get_or-set_other}
use borrow.Author.Count.{below_more}
use Rattle.arrays.specs.Array.{all_zero, Filled}
use Rattle.arrays.proofs.Zeros.{zero_at}
use Rattle.field.specs.Field.{plus, times, inverse}
use Rattle.field.proofs.Xor.{plus_self, zero_plus, equal_of_plus_zero}
use Rattle.field.proofs.Times.{times_lt, times_zero}
use Rattle.field.proofs.Logarithm.{times_comm, times_left_comm}
use Rattle.field.proofs.Division.{inverse_lt, times_inverse}
use Rattle.code.specs.Size.{most_checks, generator_room, feedback_room}
use Rattle.code.specs.Polynomial.{eval, scaled, root, generator}
use Rattle.code.specs.Steps.Windows.{Feedback, FeedbackOf}
use Rattle.arrays.proofs.Bytes.{Bytes, byte_at}
use Rattle.code.proofs.Polynomials.Arithmetic.{eval_scaled, get_or_scaled, length_scaled}
use Rattle.code.proofs.Polynomials.Generator.{root_lt, get_or_factor, generator_length, generator_bytes, generator_root, generator_constant}

-- the generator in an array: a coefficient of the product by one more factor
abbrev pub factor_at : (c : ℕ) (fewer : List ℕ) (i : ℕ) → ℕ
factor_at c fewer i = plus (get_or (0 ∷ fewer) i 0) (times c (get_or fewer i 0))

below_at : (fewer : List ℕ) (i : ℕ) → 1 ≤ i → get_or (0 ∷ fewer) i 0 ≡ get_or fewer (i - 1) 0
below_at fewer zero h = absurd (omega arith)
below_at fewer (suc i) h = ap (λ (k : ℕ). get_or fewer k 0) (let e : i ≡ suc i - 1 = omega arith in e)

-- the product's coefficients above i, and up to i still the polynomial's
pub record Factored (c i : ℕ) (fewer product : List ℕ) : Type 0 where
  pub long : length product ≡ generator_room
  pub old : (k : ℕ) → k ≤ i → get_or product k 0 ≡ get_or fewer k 0
  pub new : (k : ℕ) → i < k → get_or product k 0 ≡ factor_at c fewer k

-- above its highest coefficient the product is zeros, as the polynomial is from there on
pub factored_none :
    (c many : ℕ) (fewer : List ℕ) → c < 256 → length fewer ≡ generator_room → ((k : ℕ) → many ≤ k → get_or fewer k 0 ≡ 0) → Factored c many fewer fewer
factored_none c many fewer h l z = record { long = l; old = λ k b. refl; new = above }
  where
    above : (k : ℕ) → many < k → get_or fewer k 0 ≡ factor_at c fewer k
    above k b =
        z k (omega arith)
        ∙ sym (ap₂ plus (below_at fewer k (omega arith) ∙ z (k - 1) (omega arith)) (ap (times c) (z k (omega arith)) ∙ times_zero c h) ∙ plus_self 0)

pub factored_more :
    (c i v : ℕ) (fewer product : List ℕ) → Factored c i fewer product → 1 ≤ i → i < generator_room →
    v ≡ plus (get_or product (i - 1) 0) (times c (get_or product i 0)) → Factored c (i - 1) fewer (set product i v)
factored_more c i v fewer product w h b e =
    record {
      long = length-set product i v ∙ w.long;
      old = λ k l. get_or-set_other product i k v 0 (omega arith) ∙ w.old k (omega arith);
      new = λ k l. go k l (dec_lt i k);
    }
  where
    here : get_or (set product i v) i 0 ≡ factor_at c fewer i
    here =
        get_or-set_same product i v 0 (omega (arith, w.long)) ∙ e
        ∙ ap₂ plus (w.old (i - 1) (omega arith) ∙ sym (below_at fewer i h)) (ap (times c) (w.old i (omega arith)))

    go : (k : ℕ) → i - 1 < k → Dec (i < k) → get_or (set product i v) k 0 ≡ factor_at c fewer k
    go k l (yes m) = get_or-set_other product i k v 0 (omega arith) ∙ w.new k m
    go k l (no m) = subst (λ (j : ℕ). get_or (set product i v) j 0 ≡ factor_at c fewer j) (let q : i ≡ k = omega arith in q) here

-- the lowest coefficient has none below it
pub factored_whole :
    (c i v : ℕ) (fewer product : List ℕ) → Factored c i fewer product → i ≡ 0 → v ≡ times c (get_or product 0 0) →
    Filled generator_room generator_room (factor_at c fewer) (set product 0 v)
factored_whole c i v fewer product w q e = record { long = length-set product 0 v ∙ w.long; new = λ k l. at k }
  where
    at : (k : ℕ) → get_or (set product 0 v) k 0 ≡ factor_at c fewer k
    at zero = get_or-set_same product 0 v 0 (omega (arith, w.long)) ∙ e ∙ ap (times c) (w.old 0 (omega arith)) ∙ sym (zero_plus _ (times_lt _ _))
    at (suc k) = get_or-set_other product 0 (suc k) v 0 (omega arith) ∙ w.new (suc k) (omega arith)

-- an array that holds a list holds it everywhere
pub filled_everywhere :
    (size : ℕ) (ps array : List ℕ) → length ps ≤ size → Filled size size (λ i. get_or ps i 0) array → (i : ℕ) → get_or array i 0 ≡ get_or ps i 0
filled_everywhere size ps array h w i = go (dec_lt i size)
  where
    go : Dec (i < size) → get_or array i 0 ≡ get_or ps i 0
    go (yes l) = w.new i l
    go (no l) = get_or-eq_default array 0 (omega (arith, w.long)) ∙ sym (get_or-eq_default ps 0 (omega arith))

pub generator_none :
    (many : ℕ) (zeros : List ℕ) → many ≡ 0 → zeros ≡ replicate generator_room 0 → Filled generator_room generator_room (λ i. get_or (generator many) i 0) (set zeros 0 1)
unfolding generator
generator_none (suc k) zeros q e = absurd (omega arith)
generator_none zero zeros q e = record { long = length-set zeros 0 1 ∙ ap length e; new = at }
  where
    at : (i : ℕ) → i < generator_room → get_or (set zeros 0 1) i 0 ≡ get_or (1 ∷ []) i 0
    at zero h = get_or-set_same zeros 0 1 0 (omega (arith, ap length e))
    at (suc i) h =
        get_or-set_other zeros 0 (suc i) 1 0 (omega arith) ∙ ap (λ (bytes : List ℕ). get_or bytes (suc i) 0) e ∙ get_or-replicate generator_room (suc i) 0 0 h

-- one root fewer, in an array
module _ (k : ℕ) (fewer : List ℕ) (h : k < most_checks) (f : Filled generator_room generator_room (λ i. get_or (generator k) i 0) fewer) where
  fewer_at : (i : ℕ) → get_or fewer i 0 ≡ get_or (generator k) i 0
  fewer_at = filled_everywhere generator_room (generator k) fewer (omega (arith, generator_length k)) f

  pub fewer_above : (i : ℕ) → k < i → get_or fewer i 0 ≡ 0
  fewer_above i l = fewer_at i ∙ get_or-eq_default (generator k) 0 (omega (arith, generator_length k))

  one_more : (c : ℕ) (product : List ℕ) → c ≡ root k → Filled generator_room generator_room (factor_at c fewer) product → Filled generator_room generator_room (λ i. get_or (generator (suc k)) i 0) product
  unfolding generator
  one_more c product e w = record { long = w.long; new = λ i l. w.new i l ∙ coefficient i }
    where
      below : (i : ℕ) → get_or (0 ∷ fewer) i 0 ≡ get_or (0 ∷ generator k) i 0
      below zero = refl
      below (suc i) = fewer_at i

      coefficient : (i : ℕ) → factor_at c fewer i ≡ get_or (generator (suc k)) i 0
      coefficient i =
          ap₂ plus (below i) (ap₂ times e (fewer_at i)) ∙ sym (get_or_factor (root k) (generator k) i (root_lt k) (generator_bytes k))

pub generator_more :
    (k many c : ℕ) (fewer product : List ℕ) → many ≡ suc k → many ≤ most_checks → c ≡ root k → Filled generator_room generator_room (λ i. get_or (generator k) i 0) fewer →
    Filled generator_room generator_room (factor_at c fewer) product → Filled generator_room generator_room (λ i. get_or (generator many) i 0) product
generator_more k many c fewer product q h e f w =
    subst (λ (m : ℕ). Filled generator_room generator_room (λ i. get_or (generator m) i 0) product) (sym q) (one_more k fewer (omega arith) f c product e w)

-- the feedback, the generator less its lowest coefficient and over it: a root times its value there is 1
pub feedback_root :
    (many i : ℕ) (hs : List ℕ) → i < many → length hs ≡ many →
    ((j : ℕ) → j < many → get_or hs j 0 ≡ times (get_or (generator many) (j + 1) 0) (inverse (get_or (generator many) 0 0))) → times (root i) (eval hs (root i)) ≡ 1
unfolding eval
feedback_root many i hs h e at = go (generator many) (generator_length many) (generator_bytes many) (generator_root many i h) (generator_constant many) at
  where
    r : ℕ
    r = root i

    go :
        (g : List ℕ) → length g ≡ suc many → Bytes g → eval g r ≡ 0 → (get_or g 0 0 ≡ 0 → ⊥) →
        ((j : ℕ) → j < many → get_or hs j 0 ≡ times (get_or g (j + 1) 0) (inverse (get_or g 0 0))) → times r (eval hs r) ≡ 1
    go [] l b z n a = absurd (omega arith)
    go (g ∷ gs) l b z n a =
        ap (λ (ps : List ℕ). times r (eval ps r)) same ∙ ap (times r) (eval_scaled (inverse g) gs r (inverse_lt g) (root_lt i))
        ∙ times_left_comm r (inverse g) (eval gs r) (root_lt i) (inverse_lt g)
        ∙ ap (times (inverse g)) (sym (equal_of_plus_zero g (times r (eval gs r)) b.0 (times_lt _ _) z))
        ∙ times_comm (inverse g) g (inverse_lt g) b.0 ∙ times_inverse g b.0 n
      where
        same : hs ≡ scaled (inverse g) gs
        same =
            ext_get_or 0 hs (scaled (inverse g) gs) (e ∙ sym (length_scaled (inverse g) gs ∙ (let q : length gs ≡ many = omega arith in q)))
            (λ j k.
            a j (rw e at k) ∙ ap (λ (m : ℕ). times (get_or (g ∷ gs) m 0) (inverse g)) (let q : j + 1 ≡ suc j = omega arith in q)
            ∙ times_comm (get_or gs j 0) (inverse g) (byte_at gs j b.1) (inverse_lt g) ∙ sym (get_or_scaled (inverse g) gs j (inverse_lt g)))

pub feedback_of :
    (many : ℕ) (g hs : List ℕ) → many ≤ most_checks → Filled generator_room generator_room (λ i. get_or (generator many) i 0) g → FeedbackOf many g hs →
    FeedbackOf many (generator many) hs
feedback_of many g hs h f w =
    record {
      long = w.long;
      each = λ j l. w.each j l ∙ ap₂ (λ (a b : ℕ). times a (inverse b)) (f.new (j + 1) (omega arith)) (f.new 0 (omega arith));
      behind = w.behind;
    }

-- the feedback made byte by byte in zeros
pub feedback_none : (g bytes : List ℕ) → length bytes ≡ feedback_room → all_zero bytes ≡ true → FeedbackOf 0 g bytes
feedback_none g bytes e z = record { long = e; each = λ j h. absurd (omega arith); behind = λ j h. zero_at bytes z j }

pub feedback_more :
    (many v : ℕ) (g bytes : List ℕ) → many < feedback_room → FeedbackOf many g bytes → v ≡ times (get_or g (many + 1) 0) (inverse (get_or g 0 0)) →
    FeedbackOf (many + 1) g (set bytes many v)
feedback_more many v g bytes h w e =
    record {
      long = length-set bytes many v ∙ w.long;
      each = below_more _ many (λ j l. get_or-set_other bytes many j v 0 (omega arith) ∙ w.each j l) (get_or-set_same bytes many v 0 (omega (arith, w.long)) ∙ e);
      behind = λ j l. get_or-set_other bytes many j v 0 (omega arith) ∙ w.behind j (omega arith);
    }

pub feedback_to : {many k : ℕ} {g bytes : List ℕ} → many ≡ k → FeedbackOf many g bytes → FeedbackOf k g bytes
feedback_to {many} {k} {g} {bytes} e w = subst (λ (n : ℕ). FeedbackOf n g bytes) e w

-- what is fed back is bytes
pub feedback_bytes : (many : ℕ) (g bytes : List ℕ) → FeedbackOf many g bytes → Feedback many bytes
feedback_bytes many g bytes w = record { long = w.long; fits = λ j. go j (dec_lt j many); behind = w.behind }
  where
    go : (j : ℕ) → Dec (j < many) → get_or bytes j 0 < 256
    go j (yes a) = rw (w.each j a) (times_lt _ _)
    go j (no a) = rw (w.behind j (omega arith)) (omega arith)
