-- The texts of the listing piece by piece, as they are put, and how long they are at most: 31 bytes for a value of eight, 36 for a column's
-- holdings, 1,155 for a line. Assumes nothing.
use mathlib.Core.Path.{◌≡◌, refl, ap, ap₂}
use mathlib.Core.Bool.{Bool, true, false, cond}
use mathlib.Core.List.{List, [], ◌∷◌, ◌++◌}
use Prim.Native.Nat.{ℕ, zero, suc, ◌+◌, ◌*◌, ◌-◌, ◌≤◌, ◌<◌}
use native.Mathlib.Numerals.{add-one}
use native.Mathlib.Omega.{arith}
use lib.ListN.{length, get_or, take, drop, length-append, length-take}
use lib.Seq.{drop-cons}
use Rattle.code.specs.Settings.{Settings, settings, value_size}
use Rattle.code.specs.Size.{most_columns, value_room, vector_room}
use Rattle.code.specs.Vector.{cut}
use Rattle.code.specs.Entry.{values_in}
use Rattle.code.proofs.Vectors.Cut.{value_fits}
use Rattle.code.proofs.ValidSettings.{values_fit}
use Rattle.grading.specs.Value.{Value, is_blank, entries}
use Rattle.grading.specs.Held.{Held, held_as, held_in}
use Rattle.counting.proofs.Placed.{cut_at}
use Rattle.bench_file.specs.Scenario.{Scenario, is_good}
use Rattle.bench.specs.Listing.{decimal, pointed, joined, value_text, held_text, holdings_text, column_line, column_lines}
use Rattle.bench.specs.Entry.{line_room}
use Rattle.bench.proofs.Listing.Decimal.{decimal_short, two_short}

-- bytes joined by a point
pub joined_first : (bs : List ℕ) → 0 < length bs → joined bs ≡ decimal (get_or bs 0 0) ++ pointed (drop 1 bs)
unfolding joined
joined_first [] h = absurd (omega arith)
joined_first (b ∷ bs) h = refl

pub pointed_next : (bs : List ℕ) (i : ℕ) → i < length bs → pointed (drop i bs) ≡ (46 ∷ decimal (get_or bs i 0)) ++ pointed (drop (i + 1) bs)
unfolding pointed
pointed_next bs i h = rw (add-one, drop-cons bs i 0 h) refl

-- lengths
pointed_short : (bs : List ℕ) → length (pointed bs) ≤ 4 * length bs
unfolding pointed
pointed_short [] = omega arith
pointed_short (b ∷ bs) = simp length-append (omega (arith, decimal_short b, pointed_short bs))

joined_short : (bs : List ℕ) → length (joined bs) ≤ 4 * length bs - 1
unfolding joined
joined_short [] = omega arith
joined_short (b ∷ bs) = simp length-append (omega (arith, decimal_short b, pointed_short bs))

-- a value
pub blank_text : (v : Value) → is_blank v ≡ true → value_text v ≡ 45 ∷ []
unfolding value_text
blank_text v e = rw e refl

pub filled_text : (v : Value) → is_blank v ≡ false → value_text v ≡ joined v
unfolding value_text
filled_text v e = rw e refl

value_short : (v : Value) → length v ≤ value_room → length (value_text v) ≤ 31
unfolding value_text
value_short v h = go (is_blank v)
  where
    go : (q : Bool) → length (cond q (45 ∷ []) (joined v)) ≤ 31
    go true = omega arith
    go false = omega (arith, joined_short v)

-- value and confidence of a column, by its place in the arrays
pub held_entry : (n w : ℕ) → (values confidences : List ℕ) → ℕ → Held
held_entry n w vs cs j = held_as (get_or (values_in (settings n 0 w) n vs) j []) (get_or cs j 0)

pub holdings_all :
    (s : Settings) (vs cs : List ℕ) → holdings_text (held_in s vs cs) ≡ holdings_text (entries (s.n - 0) 0 (held_entry s.n s.w vs cs))
unfolding held_in held_entry settings values_in value_size
holdings_all s vs cs = let e : s.n - 0 ≡ s.n = omega arith in rw e refl

pub holdings_none : (f : ℕ → Held) (j : ℕ) → holdings_text (entries 0 j f) ≡ []
unfolding holdings_text entries
holdings_none f j = refl

entries_rest : (n j : ℕ) (f : ℕ → Held) → j < n → entries (n - j) j f ≡ f j ∷ entries (n - (j + 1)) (j + 1) f
unfolding entries
entries_rest n j f h =
    let e : n - j ≡ suc (n - (j + 1)) = omega arith in
    rw (e, add-one) refl

pub holdings_next :
    (n w : ℕ) (vs cs : List ℕ) (j : ℕ) → j < n →
    holdings_text (entries (n - j) j (held_entry n w vs cs))
    ≡ (32 ∷ held_text (held_as (take w (drop (j * w) vs)) (get_or cs j 0))) ++ holdings_text (entries (n - (j + 1)) (j + 1) (held_entry n w vs cs))
unfolding holdings_text held_entry values_in settings value_size
holdings_next n w vs cs j h =
    rw (entries_rest n j (held_entry n w vs cs) h)
    (ap (λ (v : Value). (32 ∷ held_text (held_as v (get_or cs j 0))) ++ holdings_text (entries (n - (j + 1)) (j + 1) (held_entry n w vs cs))) (cut_at n w vs j h))

-- a value's place in the array of all
pub value_in : (n w j : ℕ) → n ≤ most_columns → w ≤ value_room → j < n → j * w + w ≤ vector_room
value_in n w j h l k = omega (arith, value_fits j most_columns w (omega arith), values_fit most_columns w (omega arith) l)

-- lengths of a line
held_short : (v : Value) (confidence : ℕ) → length v ≤ value_room → length (held_text (held_as v confidence)) ≤ 35
unfolding held_text held_as
held_short v c h = simp length-append (omega (arith, value_short v h, decimal_short c))

value_length : (n w : ℕ) (vs : List ℕ) (i : ℕ) → w ≤ value_room → length (get_or (values_in (settings n 0 w) n vs) i []) ≤ value_room
unfolding values_in cut settings value_size
value_length zero w vs i h = omega arith
value_length (suc n) w vs zero h = omega (arith, length-take w vs)
value_length (suc n) w vs (suc i) h = value_length n w (drop w vs) i h

holdings_short :
    (many j n w : ℕ) (vs cs : List ℕ) → w ≤ value_room → j + many ≤ n → length (holdings_text (entries many j (held_entry n w vs cs))) ≤ 36 * many
unfolding holdings_text entries held_entry held_as
holdings_short zero j n w vs cs h l = omega arith
holdings_short (suc k) j n w vs cs h l =
    simp length-append (omega (arith, held_short_at j, holdings_short k (suc j) n w vs cs h (omega arith)))
  where
    held_short_at : (i : ℕ) → length (held_text (held_entry n w vs cs i)) ≤ 35
    held_short_at i = held_short (get_or (values_in (settings n 0 w) n vs) i []) (get_or cs i 0) (value_length n w vs i h)

pub line_short :
    (k : ℕ) (s : Settings) (vs cs : List ℕ) → k < 100 → s.n ≤ most_columns → s.w ≤ value_room → length (column_line k (held_in s vs cs)) ≤ line_room
unfolding column_line held_in held_entry settings values_in value_size
line_short k s vs cs h l m =
    simp length-append (omega (arith, two_short k h, holdings_short s.n 0 s.n s.w vs cs m (omega arith)))

-- the lines of all columns
pub lines_all : (f : Scenario) (held : ℕ → List Held) (n : ℕ) → column_lines f held n 1 ≡ column_lines f held (n + 1 - 1) 1
lines_all f held n = let e : n + 1 - 1 ≡ n = omega arith in rw e refl

pub lines_next :
    (f : Scenario) (held : ℕ → List Held) (n k : ℕ) → 1 ≤ k → k ≤ n →
    column_lines f held (n + 1 - k) k ≡ cond (is_good f k) (column_line k (held k)) [] ++ column_lines f held (n + 1 - (k + 1)) (k + 1)
unfolding column_lines
lines_next f held n k l h =
    let e : n + 1 - k ≡ suc (n + 1 - (k + 1)) = omega arith in
    rw (e, add-one k) refl

pub lines_none : (f : Scenario) (held : ℕ → List Held) (many k : ℕ) → many ≡ 0 → column_lines f held many k ≡ []
unfolding column_lines
lines_none f held many k e = rw e refl

-- they depend on what the good columns hold
pub lines_same :
    (f : Scenario) (held others : ℕ → List Held) (many k : ℕ) → ((j : ℕ) → is_good f j ≡ true → held j ≡ others j) →
    column_lines f held many k ≡ column_lines f others many k
unfolding column_lines
lines_same f held others zero k h = refl
lines_same f held others (suc n) k h = ap₂ ◌++◌ (go (is_good f k) refl) (lines_same f held others n (suc k) h)
  where
    go : (q : Bool) → is_good f k ≡ q → cond q (column_line k (held k)) [] ≡ cond q (column_line k (others k)) []
    go true e = ap (column_line k) (h k e)
    go false e = refl
