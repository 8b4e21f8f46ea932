-- A loop that places values one after the other in an array of zeros: one more is placed where its bytes are written after the others,
-- and the zeros behind it are kept. n of them are the array read as n values, and the array is their bytes with zeros behind them.
-- Assumes nothing.
use mathlib.Core.Path.{◌≡◌, refl, sym, ◌∙◌, ap, ap₂, subst}
use mathlib.Core.List.{List, [], ◌∷◌}
use Prim.Native.Nat.{ℕ, zero, suc, ◌+◌, ◌*◌, ◌≤◌, ◌<◌}
use native.Mathlib.Omega.{arith}
use native.Mathlib.Nat.{suc-mul}
use lib.ListN.{length, get_or, take, drop, set, replicate, length-drop, length-replicate}
use lib.Seq.{get_or-take, get_or-drop, drop-drop, length-take-le, ext_get_or}
use borrow.Author.Count.{below_more}
use Rattle.arrays.specs.Array.{in_front, padded, Written}
use Rattle.arrays.proofs.Padded.{padded_at, padded_more}
use Rattle.arrays.proofs.Zeros.{zeros_at}
use Rattle.code.specs.Settings.{Settings, settings, value_size}
use Rattle.code.specs.Size.{most_columns, value_room, vector_room}
use Rattle.code.specs.Vector.{cut, glued}
use Rattle.code.specs.Entry.{values_in}
use Rattle.code.proofs.ValidSettings.{values_fit}
use Rattle.code.proofs.Vectors.Cut.{cut_length, value_fits, next_value, in_front_cut}
use Rattle.grading.specs.Value.{Value, entries}
use Rattle.grading.specs.Held.{Held, held_as, held_in, held_values, held_confidences}
use Rattle.counting.specs.Stored.{Stores, StoresHeld}
use Rattle.grading.proofs.Value.{entries_length, entries_of, entries_alike, entries_more}

-- a value's place is in the array of a vector
pub place_fits : (k w : ℕ) → k < most_columns → w ≤ value_room → k * w + w ≤ vector_room
place_fits k w h l = omega (arith, value_fits k most_columns w h, values_fit most_columns w (omega arith) l)

-- entries that are put in one after the other, zeros behind them
pub padded_entry : (room k v : ℕ) (f : ℕ → ℕ) → k < room → v ≡ f k → set (padded room (entries k 0 f)) k v ≡ padded room (entries (k + 1) 0 f)
padded_entry room k v f h e = padded_more room (entries k 0 f) k v (entries_length k 0 f) h ∙ rw (e, entries_more k f)

-- value j of an array of values
pub cut_at : (n w : ℕ) (bs : List ℕ) (j : ℕ) → j < n → get_or (cut n w bs) j [] ≡ take w (drop (j * w) bs)
unfolding cut
cut_at zero w bs j h = absurd (omega arith)
cut_at (suc n) w bs zero h = ap (λ (k : ℕ). take w (drop k bs)) (let e : 0 ≡ zero * w = omega arith in e)
cut_at (suc n) w bs (suc j) h =
    cut_at n w (drop w bs) j (omega arith)
    ∙ ap (take w) (drop-drop (j * w) w bs ∙ ap (λ (k : ℕ). drop k bs) (let e : w + j * w ≡ suc j * w = omega (arith, suc-mul j w) in e))

pub cut_entries : (n w : ℕ) (bs : List ℕ) → n * w ≤ length bs → cut n w bs ≡ entries n 0 (λ k. entries w 0 (λ p. get_or bs (k * w + p) 0))
cut_entries n w bs fits =
    ext_get_or [] (cut n w bs) (entries n 0 _) (cut_length n w bs ∙ sym (entries_length n 0 _))
    (λ j l. (let h : j < n = rw (cut_length n w bs) at l in cut_at n w bs j h ∙ value j h ∙ sym (entries_of n j _ [] h)))
  where
    value : (j : ℕ) → j < n → take w (drop (j * w) bs) ≡ entries w 0 (λ p. get_or bs (j * w + p) 0)
    value j h =
        let room = length-drop (j * w) bs in
        let long : length (take w (drop (j * w) bs)) ≡ w = length-take-le w (drop (j * w) bs) (omega (arith, room, value_fits j n w h)) in
        ext_get_or 0 (take w (drop (j * w) bs)) (entries w 0 _) (long ∙ sym (entries_length w 0 _))
        (λ p l. (let k : p < w = rw long at l in get_or-take w (drop (j * w) bs) p 0 k ∙ get_or-drop (j * w) bs p 0 ∙ sym (entries_of w p _ 0 k)))

-- the first values of an array with room for a vector, zeros behind them
pub record Placed (w many : ℕ) (f : ℕ → Value) (bytes : List ℕ) : Type 0 where
  pub long : length bytes ≡ vector_room
  pub sizes : (j : ℕ) → j < many → length (f j) ≡ w
  pub each : (j p : ℕ) → j < many → p < w → get_or bytes (j * w + p) 0 ≡ get_or (f j) p 0
  pub rest : (i : ℕ) → many * w ≤ i → get_or bytes i 0 ≡ 0

pub placed_none : (w : ℕ) (f : ℕ → Value) (bytes : List ℕ) → bytes ≡ replicate vector_room 0 → Placed w 0 f bytes
placed_none w f bytes e =
    record {
      long = ap length e;
      sizes = λ j h. absurd (omega arith);
      each = λ j p h l. absurd (omega arith);
      rest = λ i h. rw e (zeros_at vector_room i);
    }

-- one more by its bytes, where it is written
pub placed_next :
    (w many : ℕ) (f : ℕ → Value) (v : Value) (bytes now : List ℕ) → Placed w many f bytes → length v ≡ w → v ≡ f many →
    Written (many * w) w (λ p. get_or v p 0) bytes now → Placed w (many + 1) f now
placed_next w many f v bytes now a size e b =
    record {
      long = b.long ∙ a.long;
      sizes = below_more (λ j. length (f j) ≡ w) many a.sizes (ap length (sym e) ∙ size);
      each = λ j p h l. below_more (λ i. get_or now (i * w + p) 0 ≡ get_or (f i) p 0) many (passed p l) (b.new p l ∙ ap (λ (u : Value). get_or u p 0) e) j h;
      rest = λ i h. (let next = next_value many w in b.after i (omega arith) ∙ a.rest i (omega arith));
    }
  where
    passed : (p : ℕ) → p < w → (j : ℕ) → j < many → get_or now (j * w + p) 0 ≡ get_or (f j) p 0
    passed p l j d = b.before (j * w + p) (omega (arith, value_fits j many w d)) ∙ a.each j p d l

pub placed_more :
    (w many : ℕ) (f : ℕ → Value) (v : Value) (bytes now : List ℕ) → Placed w many f bytes → length v ≡ w → v ≡ f many →
    Written (many * length v) (length v) (λ p. get_or v p 0) bytes now → Placed w (many + 1) f now
placed_more w many f v bytes now a size e written =
    placed_next w many f v bytes now a size e (subst (λ (k : ℕ). Written (many * k) k (λ p. get_or v p 0) bytes now) size written)

-- zeros that are left as they are
pub placed_zeros : (w many : ℕ) (f : ℕ → Value) (bytes : List ℕ) → Placed w many f bytes → f many ≡ replicate w 0 → Placed w (many + 1) f bytes
placed_zeros w many f bytes a e =
    record {
      long = a.long;
      sizes = below_more (λ j. length (f j) ≡ w) many a.sizes (ap length e ∙ length-replicate w 0);
      each = λ j p h l. below_more (λ i. get_or bytes (i * w + p) 0 ≡ get_or (f i) p 0) many (λ i d. a.each i p d l)
          (a.rest (many * w + p) (omega arith) ∙ sym (ap (λ (u : Value). get_or u p 0) e ∙ zeros_at w p)) j h;
      rest = λ i h. (let next = next_value many w in a.rest i (omega arith));
    }

-- all n of them
module _ (w n : ℕ) (f : ℕ → Value) (bytes : List ℕ) (a : Placed w n f bytes) (fits : n * w ≤ vector_room) where
  pub placed_cut : cut n w bytes ≡ entries n 0 f
  placed_cut =
      cut_entries n w bytes (rw a.long fits)
      ∙ entries_alike n 0 _ f
      (λ j l. (let h : j < n = omega arith in
      ext_get_or 0 (entries w 0 _) (f j) (entries_length w 0 _ ∙ sym (a.sizes j h))
      (λ p m. (let k : p < w = rw (entries_length w 0 (λ q. get_or bytes (j * w + q) 0)) at m in entries_of w p _ 0 k ∙ a.each j p h k))))

  placed_bytes : bytes ≡ padded vector_room (glued (entries n 0 f))
  unfolding padded
  placed_bytes =
      in_front_cut n w (replicate vector_room 0) bytes a.long (rw a.long fits) (λ i h. a.rest i h ∙ sym (zeros_at vector_room i))
      ∙ ap (λ (vs : List Value). in_front (glued vs) (replicate vector_room 0)) placed_cut

pub placed_stores :
    (s : Settings) (f : ℕ → Value) (bytes : List ℕ) → Placed (value_size s) s.n f bytes → s.n * value_size s ≤ vector_room →
    Stores s (entries s.n 0 f) bytes
unfolding values_in
placed_stores s f bytes a fits =
    record { bytes = placed_bytes (value_size s) s.n f bytes a fits; reads = placed_cut (value_size s) s.n f bytes a fits }

-- the same values of other settings with values of that size
pub stores_as :
    (n t w : ℕ) (f g : ℕ → Value) (bytes : List ℕ) → ((j : ℕ) → j < n → f j ≡ g j) → Stores (settings n 0 w) (entries n 0 f) bytes →
    Stores (settings n t w) (entries n 0 g) bytes
unfolding settings value_size values_in
stores_as n t w f g bytes e a =
    let alike = entries_alike n 0 f g (λ j l. e j (omega arith)) in
    record { bytes = a.bytes ∙ ap (λ (vs : List Value). padded vector_room (glued vs)) alike; reads = a.reads ∙ alike }

-- values with their confidences
pub held_values_entries : (n i : ℕ) (h : ℕ → Held) → held_values (entries n i h) ≡ entries n i (λ j. (h j).value)
unfolding held_values entries
held_values_entries zero i h = refl
held_values_entries (suc n) i h = ap (◌∷◌ (h i).value) (held_values_entries n (suc i) h)

pub held_confidences_entries : (n i : ℕ) (h : ℕ → Held) → held_confidences (entries n i h) ≡ entries n i (λ j. (h j).confidence)
unfolding held_confidences entries
held_confidences_entries zero i h = refl
held_confidences_entries (suc n) i h = ap (◌∷◌ (h i).confidence) (held_confidences_entries n (suc i) h)

pub stores_held :
    (s : Settings) (h : ℕ → Held) (values confidences : List ℕ) → Stores s (entries s.n 0 (λ j. (h j).value)) values →
    confidences ≡ padded most_columns (entries s.n 0 (λ j. (h j).confidence)) → StoresHeld s (entries s.n 0 h) values confidences
unfolding held_in held_as values_in
stores_held s h values confidences a e =
    record {
      value_bytes = a.bytes ∙ ap (λ (vs : List Value). padded vector_room (glued vs)) (sym (held_values_entries s.n 0 h));
      confidence_bytes = e ∙ ap (padded most_columns) (sym (held_confidences_entries s.n 0 h));
      reads = entries_alike s.n 0 _ h (λ j l. (let k : j < s.n = omega arith in ap₂ held_as (value j k) (confidence j k)));
    }
  where
    value : (j : ℕ) → j < s.n → get_or (cut s.n (value_size s) values) j [] ≡ (h j).value
    value j k = ap (λ (vs : List Value). get_or vs j []) a.reads ∙ entries_of s.n j _ [] k

    confidence : (j : ℕ) → j < s.n → get_or confidences j 0 ≡ (h j).confidence
    confidence j k = ap (λ (cs : List ℕ). get_or cs j 0) e ∙ padded_at most_columns _ j ∙ entries_of s.n j _ 0 k
