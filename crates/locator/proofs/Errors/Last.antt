-- The search of a plane. It goes on while roots are left to find, so a place before a root is tried and so is the root; and it
-- ends with the last root. Where just the roots have a weighted error that is not 0, that is the last error. Assumes nothing.
use mathlib.Core.Path.{◌≡◌, refl, sym, ◌∙◌, ap}
use mathlib.Core.Bool.{Bool, true, false, cond}
use mathlib.Core.List.{List, [], ◌∷◌}
use Prim.Native.Nat.{ℕ, zero, suc, ◌<◌, ◌≤◌}
use native.Mathlib.Omega.{arith}
use native.Mathlib.Decide.{ℕ_discrete, dec_le}
use lib.ListN.{length, get_or}
use borrow.Author.Tests.{eq-eqb, ne_eqb, lt-ltb, le-ltb}
use Rattle.locator.specs.Search.{roots_below, tries, turns, last_wrong}

-- the roots so far
pub roots_below_root : (v : ℕ → ℕ) (k : ℕ) → v k ≡ 0 → roots_below v (suc k) ≡ suc (roots_below v k)
unfolding roots_below
roots_below_root v k e = rw (eq-eqb (v k) 0 e) (omega arith)

roots_below_else : (v : ℕ → ℕ) (k : ℕ) → (v k ≡ 0 → ⊥) → roots_below v (suc k) ≡ roots_below v k
unfolding roots_below
roots_below_else v k e = rw (ne_eqb (v k) 0 e) (omega arith)

roots_below_next : (v : ℕ → ℕ) (k : ℕ) → roots_below v k ≤ roots_below v (suc k)
unfolding roots_below
roots_below_next v k = omega arith

pub roots_below_mono : (v : ℕ → ℕ) (i k : ℕ) → i ≤ k → roots_below v i ≤ roots_below v k
roots_below_mono v i zero h = rw (let e : i ≡ 0 = omega arith in e) (omega arith)
roots_below_mono v i (suc k) h = go (dec_le i k) (roots_below_mono v i k)
  where
    go : Dec (i ≤ k) → (i ≤ k → roots_below v i ≤ roots_below v k) → roots_below v i ≤ roots_below v (suc k)
    go (yes l) below = omega (arith, below l, roots_below_next v k)
    go (no l) below = rw (let e : i ≡ suc k = omega arith in e) (omega arith)

-- none from place i on
roots_below_same : (v : ℕ → ℕ) (i k : ℕ) → i ≤ k → ((j : ℕ) → i ≤ j → j < k → v j ≡ 0 → ⊥) → roots_below v k ≡ roots_below v i
roots_below_same v i zero h none = ap (roots_below v) (let e : 0 ≡ i = omega arith in e)
roots_below_same v i (suc k) h none = go (dec_le i k) (λ l. roots_below_same v i k l (λ j a b. none j a (omega arith)))
  where
    go : Dec (i ≤ k) → (i ≤ k → roots_below v k ≡ roots_below v i) → roots_below v (suc k) ≡ roots_below v i
    go (yes l) below = roots_below_else v k (none k l (omega arith)) ∙ below l
    go (no l) below = ap (roots_below v) (let e : suc k ≡ i = omega arith in e)

-- a place is tried where a root is left, and not where none is
pub tries_left : (many : ℕ) (v : ℕ → ℕ) (j : ℕ) → roots_below v j < many → tries many v j ≡ true
unfolding tries
tries_left many v j h = lt-ltb _ many h

pub tries_none : (many : ℕ) (v : ℕ → ℕ) (j : ℕ) → many ≤ roots_below v j → tries many v j ≡ false
unfolding tries
tries_none many v j h = le-ltb _ many h

pub tries_root : (many : ℕ) (v : ℕ → ℕ) (j places : ℕ) → j < places → roots_below v places ≤ many → v j ≡ 0 → tries many v j ≡ true
tries_root many v j places h l e =
    tries_left many v j (omega (arith, roots_below_root v j e, roots_below_mono v (suc j) places (omega arith)))

pub turns_tried : (many : ℕ) (v : ℕ → ℕ) (k : ℕ) → tries many v k ≡ true → turns many v (suc k) ≡ suc (turns many v k)
unfolding turns
turns_tried many v k e = rw e (omega arith)

turns_else : (many : ℕ) (v : ℕ → ℕ) (k : ℕ) → tries many v k ≡ false → turns many v (suc k) ≡ turns many v k
unfolding turns
turns_else many v k e = rw e (omega arith)

pub turns_few : (many : ℕ) (v : ℕ → ℕ) (k : ℕ) → turns many v k ≤ k
unfolding turns
turns_few many v zero = omega arith
turns_few many v (suc k) = omega (arith, turns_few many v k, count_one (tries many v k))
  where
    count_one : (b : Bool) → cond b 1 0 ≤ 1
    count_one true = omega arith
    count_one false = omega arith

-- roots left to find: every place was tried
pub turns_all : (many : ℕ) (v : ℕ → ℕ) (k : ℕ) → roots_below v k < many → turns many v k ≡ k
unfolding turns
turns_all many v zero h = refl
turns_all many v (suc k) h =
    let l : roots_below v k < many = omega (arith, roots_below_next v k) in
    turns_tried many v k (tries_left many v k l) ∙ ap suc (turns_all many v k l)

-- all found: no place more is
pub turns_end : (many : ℕ) (v : ℕ → ℕ) (i k : ℕ) → i ≤ k → many ≤ roots_below v i → turns many v k ≡ turns many v i
turns_end many v i zero h l = ap (turns many v) (let e : 0 ≡ i = omega arith in e)
turns_end many v i (suc k) h l = go (dec_le i k) (λ o. turns_end many v i k o l)
  where
    go : Dec (i ≤ k) → (i ≤ k → turns many v k ≡ turns many v i) → turns many v (suc k) ≡ turns many v i
    go (yes o) ended = turns_else many v k (tries_none many v k (omega (arith, roots_below_mono v i k o))) ∙ ended o
    go (no o) ended = ap (turns many v) (let e : suc k ≡ i = omega arith in e)

-- the last error
last_none : (y : ℕ) (ys : List ℕ) → last_wrong ys ≡ 0 → y ≡ 0 → last_wrong (y ∷ ys) ≡ 0
unfolding last_wrong
last_none y ys e f = rw (eq-eqb _ 0 e, eq-eqb y 0 f)

last_first : (y : ℕ) (ys : List ℕ) → last_wrong ys ≡ 0 → (y ≡ 0 → ⊥) → last_wrong (y ∷ ys) ≡ 1
unfolding last_wrong
last_first y ys e f = rw (eq-eqb _ 0 e, ne_eqb y 0 f)

last_later : (y : ℕ) (ys : List ℕ) → (last_wrong ys ≡ 0 → ⊥) → last_wrong (y ∷ ys) ≡ suc (last_wrong ys)
unfolding last_wrong
last_later y ys e = rw (ne_eqb _ 0 e)

-- what it is: no error follows, and it is one
pub record Last (last : ℕ) (ys : List ℕ) : Type 0 where
  pub inside : last ≤ length ys
  pub after : (j : ℕ) → last ≤ j → get_or ys j 0 ≡ 0
  pub wrong : (j : ℕ) → suc j ≡ last → get_or ys j 0 ≡ 0 → ⊥

last_cons : (y : ℕ) (ys : List ℕ) → Last (last_wrong ys) ys → Last (last_wrong (y ∷ ys)) (y ∷ ys)
last_cons y ys h = go (ℕ_discrete (last_wrong ys) 0) (ℕ_discrete y 0)
  where
    after_first : last_wrong ys ≡ 0 → (j : ℕ) → 1 ≤ j → get_or (y ∷ ys) j 0 ≡ 0
    after_first e zero l = absurd (omega arith)
    after_first e (suc j) l = h.after j (omega arith)

    after_none : last_wrong ys ≡ 0 → y ≡ 0 → (j : ℕ) → get_or (y ∷ ys) j 0 ≡ 0
    after_none e f zero = f
    after_none e f (suc j) = after_first e (suc j) (omega arith)

    first_wrong : (y ≡ 0 → ⊥) → (j : ℕ) → ◌≡◌ {A = ℕ} (suc j) 1 → get_or (y ∷ ys) j 0 ≡ 0 → ⊥
    first_wrong f zero l = f
    first_wrong f (suc j) l = absurd (omega arith)

    after_later : (j : ℕ) → suc (last_wrong ys) ≤ j → get_or (y ∷ ys) j 0 ≡ 0
    after_later zero l = absurd (omega arith)
    after_later (suc j) l = h.after j (omega arith)

    later_wrong : (last_wrong ys ≡ 0 → ⊥) → (j : ℕ) → suc j ≡ suc (last_wrong ys) → get_or (y ∷ ys) j 0 ≡ 0 → ⊥
    later_wrong e zero l = absurd (e (omega arith))
    later_wrong e (suc j) l = h.wrong j (omega arith)

    go : Dec (last_wrong ys ≡ 0) → Dec (y ≡ 0) → Last (last_wrong (y ∷ ys)) (y ∷ ys)
    go (yes e) (yes f) =
        rw (last_none y ys e f) (record { inside = omega arith; after = λ j l. after_none e f j; wrong = λ j l. absurd (omega arith) })
    go (yes e) (no f) = rw (last_first y ys e f) (record { inside = omega arith; after = after_first e; wrong = first_wrong f })
    go (no e) f = rw (last_later y ys e) (record { inside = omega (arith, h.inside); after = after_later; wrong = later_wrong e })

pub last_is : (ys : List ℕ) → Last (last_wrong ys) ys
unfolding last_wrong
last_is [] = record { inside = omega arith; after = λ j l. refl; wrong = λ j l. absurd (omega arith) }
last_is (y ∷ ys) = last_cons y ys (last_is ys)

-- the search for all roots ends at the last error
module _ (many : ℕ) (v : ℕ → ℕ) (places : ℕ) (ys : List ℕ) (long : length ys ≡ places) (all : roots_below v places ≡ many) (roots : (j : ℕ) → j < places → v j ≡ 0 → get_or ys j 0 ≡ 0 → ⊥) (others : (j : ℕ) → j < places → (v j ≡ 0 → ⊥) → get_or ys j 0 ≡ 0) where
  turns_last : (last : ℕ) → Last last ys → turns many v last ≡ last
  unfolding turns
  turns_last zero h = refl
  turns_last (suc m) h = go (ℕ_discrete (v m) 0)
    where
      inside : m < places
      inside = omega (arith, h.inside)

      found : roots_below v (suc m) ≡ many
      found =
          sym (roots_below_same v (suc m) places inside (λ j l b e. roots j b e (h.after j l))) ∙ all

      go : Dec (v m ≡ 0) → turns many v (suc m) ≡ suc m
      go (yes e) =
          let l : roots_below v m < many = omega (arith, roots_below_root v m e, found) in
          turns_tried many v m (tries_left many v m l) ∙ ap suc (turns_all many v m l)
      go (no e) = absurd (h.wrong m refl (others m inside e))

  pub tried_last : turns many v places ≡ last_wrong ys
  tried_last = go (last_is ys)
    where
      go : Last (last_wrong ys) ys → turns many v places ≡ last_wrong ys
      go h =
          let i : last_wrong ys ≤ places = omega (arith, h.inside) in
          turns_end many v (last_wrong ys) places i
          (omega (arith, all, roots_below_same v (last_wrong ys) places i (λ j l b e. roots j b e (h.after j l))))
          ∙ turns_last (last_wrong ys) h
