-- Rows of a table. The checks that a good sender sends of its vector repair a vector that differs from it in at most t values, and
-- repair has one answer, so that the sender's row is its vector, and what it tells is in how many values the two differ. For the same
-- reason a record and a vector have one table.
-- Assumes nothing.
use mathlib.Core.Path.{◌≡◌, refl, sym, ◌∙◌, ap, ap₂, subst}
use mathlib.Core.Bool.{Bool, true, false}
use mathlib.Core.List.{List, [], ◌∷◌}
use mathlib.Core.Logic.{inl, inr}
use mathlib.Core.Option.{Option, none, some}
use Prim.Native.Nat.{ℕ, zero, suc, ◌-◌, ◌<◌, ◌≤◌}
use native.Mathlib.Omega.{arith}
use lib.Dec.{eqb}
use lib.ListN.{length, get_or, length-replicate, get_or-replicate}
use lib.Seq.{ext_get_or}
use borrow.Author.Tests.{eqb-true, eqb-false}
use Rattle.code.specs.Settings.{Settings, settings_refusal, check_count, value_size}
use Rattle.code.specs.Vector.{plane, is_vector, has_checks, differ_values}
use Rattle.code.specs.Repair.{changed_places}
use Rattle.code.specs.Entry.{values_in}
use Rattle.code.specs.Promise.{OneRepair, Repairs}
use Rattle.arrays.proofs.Bytes.{Bytes}
use Rattle.code.proofs.Codewords.Word.{word_of}
use Rattle.code.proofs.ValidSettings.{sizes}
use Rattle.code.proofs.Vectors.Planes.{Values, vector_of, vector_back, checked_of, differ_values_le, repairs, one_repair, repaired_or_none}
use Rattle.code.proofs.Vectors.Cut.{cut_length}
use Rattle.grading.specs.Value.{Value, Vector, Rows, blanks}
use Rattle.grading.specs.Count.{agreed_vector, held_list}
use Rattle.grading.proofs.Value.{blank_size}
use Rattle.record.specs.Frame.{checks_in}
use Rattle.record.specs.Record.{Rec, found_as, counted, next_round}
use Rattle.rounds.specs.Exchange.{Row, Table, Closed}
use Rattle.rounds.specs.Promise.{NoMark, ToldApart}

-- n values, each of the size of a value
pub record Sized (s : Settings) (vs : Vector) : Type 0 where
  pub many : length vs ≡ s.n
  pub each : (j : ℕ) → j < s.n → length (get_or vs j []) ≡ value_size s

value_length : (w : ℕ) (vs : Vector) → Values w vs → (j : ℕ) → j < length vs → length (get_or vs j []) ≡ w
value_length w [] l j h = absurd (omega arith)
value_length w (v ∷ vs) l zero h = l.0
value_length w (v ∷ vs) l (suc j) h = value_length w vs l.2 j (omega arith)

pub vector_sized : (s : Settings) (vs : Vector) → is_vector s vs ≡ true → Sized s vs
vector_sized s vs e =
    let v = vector_of s vs e in record { many = v.many; each = λ j h. value_length (value_size s) vs v.values j (rw v.many h) }

blanks_sized : (s : Settings) → Sized s (blanks s)
unfolding blanks
blanks_sized s =
    record { many = length-replicate s.n _; each = λ j h. ap length (get_or-replicate s.n j _ [] h) ∙ blank_size s }

pub row_sized : (s : Settings) (vs : Vector) (f : Option (List ℕ)) (row : Vector) (m : ℕ) → Row s vs f row m → Sized s row
unfolding Row
row_sized s vs none row m r = rw r.0 (blanks_sized s)
row_sized s vs (some x) row m (inl r) = vector_sized s row r.1.vector
row_sized s vs (some x) row m (inr r) = rw r.1 (blanks_sized s)

pub row_alike :
    (row : Vector) (m : ℕ) {s u : Settings} {vs ws : Vector} {f g : Option (List ℕ)} → s ≡ u → vs ≡ ws → f ≡ g → Row s vs f row m → Row u ws g row m
row_alike row m {s} {u} {vs} {ws} {f} {g} d e h r =
    subst (λ (x : Settings). Row x ws g row m) d (subst (λ (x : Vector). Row s x g row m) e (subst (λ (x : Option (List ℕ)). Row s vs x row m) h r))

-- every row of a table is its own or another's
pub table_rows :
    (P : ℕ → Vector → ℕ → Type 0) (r : Rec) (vs : Vector) (rows : Rows) (told : List ℕ) → 1 ≤ r.who.number → Table r vs rows told →
    P (r.who.number - 1) vs 0 →
    ((j : ℕ) (row : Vector) (m : ℕ) → j < r.who.settings.n → (suc j ≡ r.who.number → ⊥) → Row r.who.settings vs (counted r (suc j)) row m → P j row m) →
    (j : ℕ) → j < r.who.settings.n → P j (get_or rows j []) (get_or told j 0)
table_rows P r vs rows told low t own other j h = go (eqb (suc j) r.who.number) refl
  where
    go : (q : Bool) → eqb (suc j) r.who.number ≡ q → P j (get_or rows j []) (get_or told j 0)
    go true e =
        let mine : j ≡ r.who.number - 1 = omega (arith, eqb-true (suc j) r.who.number e) in
        rw mine (rw (t.own_row, t.own_told) own)
    go false e =
        let back : suc j - 1 ≡ j = omega arith in
        let different = eqb-false (suc j) r.who.number e in
        other j (get_or rows j []) (get_or told j 0) h different (rw back at (t.others (suc j) (omega arith) h different))

pub table_sized :
    (r : Rec) (vs : Vector) (rows : Rows) (told : List ℕ) → 1 ≤ r.who.number → Sized r.who.settings vs → Table r vs rows told →
    (j : ℕ) → j < r.who.settings.n → Sized r.who.settings (get_or rows j [])
table_sized r vs rows told low v t j h =
    table_rows (λ i row m. Sized r.who.settings row) r vs rows told low t v (λ i row m l d x. row_sized r.who.settings vs _ row m x) j h

-- repair has one answer
checks_length : (s : Settings) (x : List ℕ) → length (checks_in s x) ≡ check_count s
unfolding checks_in values_in
checks_length s x = cut_length (check_count s) (value_size s) x

-- a frame gives one row, and tells one thing
row_unique :
    (s : Settings) (vs : Vector) (f : Option (List ℕ)) (row other : Vector) (m k : ℕ) → settings_refusal s ≡ 0 → length vs ≡ s.n → Row s vs f row m →
    Row s vs f other k → (row ≡ other) × (m ≡ k)
unfolding Row OneRepair
row_unique s vs none row other m k fine e a b = (a.0 ∙ sym b.0, a.1 ∙ sym b.1)
row_unique s vs (some x) row other m k fine e (inl a) (inl b) =
    let one = one_repair s vs (checks_in s x) row a.0 other b.0 fine e (checks_length s x) a.1 b.1 in
    (one.0, a.2 ∙ ap₂ (changed_places vs (checks_in s x)) one.0 one.1 ∙ sym b.2)
row_unique s vs (some x) row other m k fine e (inl a) (inr b) = absurd (repaired_or_none s vs _ row a.0 a.1 b.0)
row_unique s vs (some x) row other m k fine e (inr a) (inl b) = absurd (repaired_or_none s vs _ other b.0 b.1 a.0)
row_unique s vs (some x) row other m k fine e (inr a) (inr b) = (a.1 ∙ sym b.1, a.2 ∙ sym b.2)

table_unique :
    (r : Rec) (vs : Vector) (rows others : Rows) (told heard : List ℕ) → settings_refusal r.who.settings ≡ 0 → 1 ≤ r.who.number →
    length vs ≡ r.who.settings.n → Table r vs rows told → Table r vs others heard → (rows ≡ others) × (told ≡ heard)
table_unique r vs rows others told heard fine low e a b = (
  ext_get_or [] rows others (a.many ∙ sym b.many) (λ j h. (each j (rw a.many at h)).0),
  ext_get_or 0 told heard (a.told_many ∙ sym b.told_many) (λ j h. (each j (rw a.told_many at h)).1),
)
  where
    each : (j : ℕ) → j < r.who.settings.n → (get_or rows j [] ≡ get_or others j []) × (get_or told j 0 ≡ get_or heard j 0)
    each j h =
        table_rows (λ i row m. (row ≡ get_or others i []) × (m ≡ get_or heard i 0)) r vs rows told low a (sym b.own_row, sym b.own_told)
        (λ i row m l d x.
        (let back : suc i - 1 ≡ i = omega arith in
        row_unique r.who.settings vs _ row (get_or others i []) m (get_or heard i 0) fine e x (rw back at (b.others (suc i) (omega arith) l d))))
        j h

-- and so a round closed has one outcome
pub closed_unique :
    (m : ℕ) (r q z : Rec) → settings_refusal r.who.settings ≡ 0 → 1 ≤ r.who.number → (m ≡ 2 → length r.found.heard ≡ r.who.settings.n) →
    (m ≡ 3 → length r.found.agreed ≡ r.who.settings.n) → Closed m r q → Closed m r z → q ≡ z
unfolding Closed
closed_unique zero r q z fine low v y a b = a ∙ sym b
closed_unique (suc zero) r q z fine low v y a b = a ∙ sym b
closed_unique (suc (suc zero)) r q z fine low v y a b =
    let one = table_unique r r.found.heard a.0 b.0 a.1 b.1 fine low (v refl) a.2 b.2 in
    a.3
    ∙ ap₂ (λ (rows : Rows) (told : List ℕ). next_round r (found_as r.found.heard (agreed_vector r.who.settings rows) [] told [])) one.0 one.1
    ∙ sym b.3
closed_unique (suc (suc (suc zero))) r q z fine low v y a b =
    let one = table_unique r r.found.agreed a.0 b.0 a.1 b.1 fine low (y refl) a.2 b.2 in
    a.3
    ∙ ap₂
    (λ (rows : Rows) (told : List ℕ). next_round r (found_as r.found.heard r.found.agreed (held_list r.who.settings rows) r.found.told_two told))
    one.0 one.1
    ∙ sym b.3
closed_unique (suc (suc (suc (suc m)))) r q z fine low v y a b = a ∙ sym b

-- what has check values, and values of the right size, is a vector
bytes_of_planes : (w : ℕ) (vs : Vector) → ((j : ℕ) → j < length vs → length (get_or vs j []) ≡ w) → ((p : ℕ) → p < w → Bytes (plane p vs)) → Values w vs
unfolding plane
bytes_of_planes w [] h b = tt
bytes_of_planes w (v ∷ vs) h b =
    let e = h 0 (omega arith) in
    (e, bytes v (λ p l. (b p (rw e at l)).0), bytes_of_planes w vs (λ j l. h (suc j) (omega arith)) (λ p l. (b p l).1))
  where
    bytes : (u : Value) → ((p : ℕ) → p < length u → get_or u p 0 < 256) → Bytes u
    bytes [] g = tt
    bytes (x ∷ u) g = (g 0 (omega arith), bytes u (λ p l. g (suc p) (omega arith)))

pub checked_vector : (s : Settings) (vs cs : Vector) → has_checks s vs cs ≡ true → Sized s vs → is_vector s vs ≡ true
checked_vector s vs cs e v =
    let c = checked_of s vs cs e in
    vector_back s vs
    (record {
      many = v.many;
      values =
          bytes_of_planes (value_size s) vs (λ j h. v.each j (rw v.many at h)) (λ p h. (word_of s (plane p vs) (plane p cs) (c.planes p h)).shape.bytes);
    })

-- the row that a sender's checks give is the sender's vector, and the places changed are those where it differs from the own one
pub row_of_sender :
    (s : Settings) (vs us : Vector) (x : List ℕ) (row : Vector) (m : ℕ) → settings_refusal s ≡ 0 → is_vector s vs ≡ true → is_vector s us ≡ true →
    has_checks s us (checks_in s x) ≡ true → differ_values vs us ≤ s.t → Row s vs (some x) row m → (row ≡ us) × (m ≡ differ_values vs us)
unfolding Repairs Row
row_of_sender s vs us x row m fine v u c d w =
    let repair = repairs s vs us (checks_in s x) fine v u c d in
    row_unique s vs (some x) row us m (differ_values vs us) fine (vector_of s vs v).many w (inl (checks_in s x, repair.0, sym repair.1))

-- the marks are no numbers of places
pub no_mark : NoMark
unfolding NoMark changed_places check_count
no_mark s vs cs us ds fine e f =
    let few = sizes s fine in
    let columns = differ_values_le vs us in
    let checks = differ_values_le cs ds in
    let columns_few = few.few_columns in
    let bad_few = few.few_bad in
    (omega arith, omega arith)

pub told_apart : ToldApart
unfolding ToldApart NoMark Row
told_apart s vs x row m fine e (inl (ds, repaired, count)) =
    let few = (no_mark s vs (checks_in s x) row ds fine e (checks_length s x)).0 in
    (λ f. absurd (omega arith), λ f. absurd (omega arith), λ f. absurd (repaired_or_none s vs _ row ds repaired f))
told_apart s vs x row m fine e (inr d) = (λ f. absurd (omega (arith, d.2)), λ f. d.0, λ f. d.2)
