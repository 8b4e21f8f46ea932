-- What each plane looks for, and the rows of it. Power sums in geometric progression have a locator without steps, X and their ratio,
-- or 1 where they are zeros; a locator that is longer than t gives way to one root that is not there. A plane's coefficients go into
-- rows of zeros, where they change no other plane. Assumes nothing.
use mathlib.Core.Path.{◌≡◌, refl, sym, ◌∙◌, ap}
use mathlib.Core.Bool.{Bool, true, false}
use mathlib.Core.List.{List, [], ◌∷◌}
use Prim.Native.Nat.{ℕ, zero, suc, ◌+◌, ◌-◌, ◌≤◌, ◌<◌}
use native.Mathlib.Omega.{arith}
use native.Mathlib.Decide.{dec_lt, ℕ_discrete}
use lib.ListN.{length, get_or, set, length-set, get_or-eq_default}
use lib.Seq.{get_or-set_same, get_or-set_other}
use borrow.Author.Tests.{le-leb, lt-leb}
use Rattle.arrays.specs.Array.{all_zero}
use Rattle.arrays.proofs.Bool.{true_not_false}
use Rattle.arrays.proofs.Bytes.{byte_at}
use Rattle.arrays.proofs.Zeros.{zero_at}
use Rattle.field.specs.Field.{times}
use Rattle.field.proofs.Times.{times_zero}
use Rattle.lanes.specs.Lanes.{row_width, in_row, lane}
use Rattle.lanes.proofs.Lane.{lane_at, lane_bytes}
use Rattle.code.specs.Size.{value_room, locator_rows}
use Rattle.locator.specs.Locator.{State, massey}
use Rattle.locator.specs.Reached.{sums_of}
use Rattle.locator.specs.Plane.{GeometricAs}
use Rattle.locator.specs.Search.{sought, roots_sought}
use Rattle.locator.proofs.Locator.Shape.{massey_length, massey_same}
use Rattle.locator.proofs.Locator.Progression.{zero_locator, geometric_locator}
use Rattle.errors.specs.Roots.{Fits}
use Rattle.search.specs.Steps.{plane_sums, LanePut, ShortPut, FoundPut, Seeks, AllSought}

-- what is looked for, by the length of the locator
module _ (t : ℕ) (state : State) where
  pub short_sought : state.size ≤ t → (sought t state ≡ state.locator) × (roots_sought t state ≡ state.size)
  unfolding sought roots_sought
  short_sought h = rw (le-leb state.size t h) (refl, refl)

  pub long_sought : t < state.size → (sought t state ≡ 1 ∷ []) × (roots_sought t state ≡ 1)
  unfolding sought roots_sought
  long_sought h = rw (lt-leb state.size t h) (refl, refl)

  pub sought_length : length state.locator ≡ suc state.size → length (sought t state) ≤ suc (roots_sought t state)
  sought_length e = go (dec_lt t state.size)
    where
      go : Dec (t < state.size) → length (sought t state) ≤ suc (roots_sought t state)
      go (yes h) = let (s, r) = long_sought h in rw (s, r) (omega arith)
      go (no h) = let (s, r) = short_sought (omega arith) in rw (s, r) (omega arith)

-- what is put in keeps the length
pub short_long : (p first ratio roots : ℕ) (rows now : List ℕ) → ShortPut p first ratio roots rows now → length now ≡ length rows
short_long p first ratio roots rows now s = go (ℕ_discrete first 0)
  where
    go : Dec (first ≡ 0) → length now ≡ length rows
    go (yes z) = (s.none z).1.long
    go (no n) = (s.one n).1.long

-- what plane p looks for
module _ (p count t roots : ℕ) (sums rows now : List ℕ) (some : 1 ≤ t) where
  abbrev S : ℕ → ℕ
  S = plane_sums p count sums

  abbrev state : State
  state = massey S count

  seeks_as :
      (many : ℕ) (list : List ℕ) → (sought t state ≡ list) × (roots_sought t state ≡ many) → many ≤ t → (roots ≡ many) × LanePut p list rows now →
      Seeks p count t sums roots rows now
  seeks_as many list (s, r) h (e, w) = record { size = e ∙ sym r; small = omega (arith, e); put = rw s w }

  seeks_all :
      (many : ℕ) (list : List ℕ) → (state.locator ≡ list) × (state.size ≡ many) → many ≤ t → (roots ≡ many) × LanePut p list rows now →
      Seeks p count t sums roots rows now
  seeks_all many list (e, f) h = let (s, r) = short_sought t state (omega arith) in seeks_as many list (s ∙ e, r ∙ f) h

  -- the locator that was worked out
  pub seeks_found :
      (locator : List ℕ) → locator ≡ (massey (sums_of p sums) count).locator → FoundPut p t locator roots rows now → Seeks p count t sums roots rows now
  seeks_found locator e f = go (dec_lt (t + 1) (length locator))
    where
      same : massey (sums_of p sums) count ≡ state
      same = massey_same (sums_of p sums) S count (λ i h. sym (lane_at p count sums i h))

      is : locator ≡ state.locator
      is = e ∙ ap (λ (z : State). z.locator) same

      long : length locator ≡ suc state.size
      long = ap length is ∙ massey_length S count

      go : Dec (t + 1 < length locator) → Seeks p count t sums roots rows now
      go (yes h) = seeks_as 1 (1 ∷ []) (long_sought t state (omega (arith, long))) some (f.long h)
      go (no h) =
          let (r, w) = f.short (omega arith) in
          seeks_all state.size locator (sym is, refl) (omega (arith, long)) (omega (arith, long, r), w)

  -- power sums in geometric progression
  module _ (x : ℕ) (two : 2 ≤ count) (h : x < 256) (byte : (i : ℕ) → get_or sums i 0 < 256)
      (each : (i : ℕ) → 1 ≤ i → i < count → get_or sums (in_row i p) 0 ≡ times x (get_or sums (in_row i p - row_width) 0)) where
    first : S 0 ≡ get_or sums p 0
    first = lane_at p count sums 0 (omega arith) ∙ ap (λ (k : ℕ). get_or sums k 0) (let q : in_row 0 p ≡ p = omega arith in q)

    next : (i : ℕ) → 1 ≤ i → i < count → S i ≡ times x (S (i - 1))
    next i l m =
        lane_at p count sums i m ∙ each i l m
        ∙ ap (times x)
        (ap (λ (k : ℕ). get_or sums k 0) (let q : in_row i p - row_width ≡ in_row (i - 1) p = omega arith in q)
        ∙ sym (lane_at p count sums (i - 1) (omega arith)))

    zeros : get_or sums p 0 ≡ 0 → (i : ℕ) → i < count → S i ≡ 0
    zeros z zero l = first ∙ z
    zeros z (suc i) l =
        next (suc i) (omega arith) l ∙ ap (λ (k : ℕ). times x (S k)) (let q : suc i - 1 ≡ i = omega arith in q)
        ∙ ap (times x) (zeros z i (omega arith)) ∙ times_zero x h

    short_found : ShortPut p (get_or sums p 0) x roots rows now → Seeks p count t sums roots rows now
    short_found s = go (ℕ_discrete (get_or sums p 0) 0)
      where
        go : Dec (get_or sums p 0 ≡ 0) → Seeks p count t sums roots rows now
        go (yes z) = seeks_all 0 (1 ∷ []) (zero_locator S count (zeros z)) (omega arith) (s.none z)
        go (no n) =
            seeks_all 1 (x ∷ 1 ∷ [])
            (geometric_locator S x count (λ i. byte_at (lane p count sums) i (lane_bytes p count sums byte)) h (λ z. n (sym first ∙ z)) two next)
            some (s.one n)

pub seeks_geometric :
    (p count t roots : ℕ) (sums rows now : List ℕ) → 1 ≤ t → (answer : Bool) (x : ℕ) → answer ≡ true → 2 ≤ count → x < 256 →
    ((i : ℕ) → get_or sums i 0 < 256) → GeometricAs answer p x count sums → ShortPut p (get_or sums p 0) x roots rows now →
    Seeks p count t sums roots rows now
unfolding GeometricAs
seeks_geometric p count t roots sums rows now some false x e two h byte g s = true_not_false (sym e)
seeks_geometric p count t roots sums rows now some true x e two h byte g s = short_found p count t roots sums rows now some x two h byte g s

-- plane by plane: the rows of those to come are zeros
pub sought_none :
    (count t : ℕ) (sums roots rows : List ℕ) → length roots ≡ value_room → length rows ≡ locator_rows → all_zero roots ≡ true → all_zero rows ≡ true →
    AllSought 0 count t sums roots rows
sought_none count t sums roots rows e l y z =
    record {
      many = e;
      long = l;
      size = λ p h. absurd (omega arith);
      small = λ p h. absurd (omega arith);
      coefficient = λ p m h. absurd (omega arith);
      others = λ p h. zero_at roots y p;
      blank = λ p m h k. zero_at rows z (in_row m p);
    }

pub sought_more :
    (p count t v : ℕ) (sums roots rows now : List ℕ) → p < value_room → Seeks p count t sums v rows now → AllSought p count t sums roots rows →
    AllSought (p + 1) count t sums (set roots p v) now
sought_more p count t v sums roots rows now h s d =
    record {
      many = length-set roots p v ∙ d.many;
      long = s.put.long ∙ d.long;
      size = λ q l. sized q l (ℕ_discrete q p);
      small = λ q l. small q l (ℕ_discrete q p);
      coefficient = λ q m l. coefficient q m l (ℕ_discrete q p) (dec_lt m (length list));
      others = λ q l. get_or-set_other roots p q v 0 (omega arith) ∙ d.others q (omega arith);
      blank = λ q m l k. s.put.rest (in_row m q) (λ j g f. omega arith) ∙ d.blank q m (omega arith) k;
    }
  where
    list : List ℕ
    list = sought t (massey (plane_sums p count sums) count)

    here : get_or (set roots p v) p 0 ≡ v
    here = get_or-set_same roots p v 0 (omega (arith, d.many))

    sized : (q : ℕ) → q < p + 1 → Dec (q ≡ p) → get_or (set roots p v) q 0 ≡ roots_sought t (massey (plane_sums q count sums) count)
    sized q l (yes e) = rw e (here ∙ s.size)
    sized q l (no e) = get_or-set_other roots p q v 0 e ∙ d.size q (omega arith)

    small : (q : ℕ) → q < p + 1 → Dec (q ≡ p) → get_or (set roots p v) q 0 ≤ t
    small q l (yes e) = rw e (omega (arith, here, s.small))
    small q l (no e) = omega (arith, get_or-set_other roots p q v 0 e, d.small q (omega arith))

    coefficient :
        (q m : ℕ) → q < p + 1 → Dec (q ≡ p) → Dec (m < length list) →
        get_or now (in_row m q) 0 ≡ get_or (sought t (massey (plane_sums q count sums) count)) m 0
    coefficient q m l (no e) a = s.put.rest (in_row m q) (λ j g f. e (omega arith)) ∙ d.coefficient q m (omega arith)
    coefficient q m l (yes e) (yes a) = rw e (s.put.new m a)
    coefficient q m l (yes e) (no a) =
        rw e
        (s.put.rest (in_row m p) (λ j g f. a (omega arith)) ∙ d.blank p m (omega arith) (omega arith)
        ∙ sym (get_or-eq_default list 0 (omega arith)))

-- a plane that a value has not looks for no root of a polynomial that is 0
module _ (planes count t : ℕ) (sums roots rows : List ℕ) (q : AllSought planes count t sums roots rows) where
  pub fits : Fits t rows roots
  fits = record { many = q.many; small = λ p. small p (dec_lt p planes); past = λ p m h l. past p m h l (dec_lt p planes) }
    where
      small : (p : ℕ) → Dec (p < planes) → get_or roots p 0 ≤ t
      small p (yes h) = q.small p h
      small p (no h) = omega (arith, q.others p (omega arith))

      past : (p m : ℕ) → p < value_room → get_or roots p 0 < m → Dec (p < planes) → get_or rows (in_row m p) 0 ≡ 0
      past p m inside l (yes h) =
          q.coefficient p m h
          ∙ get_or-eq_default (sought t (massey (plane_sums p count sums) count)) 0
          (omega (arith, q.size p h, sought_length t (massey (plane_sums p count sums) count) (massey_length (plane_sums p count sums) count)))
      past p m inside l (no h) = q.blank p m (omega arith) (omega arith)
