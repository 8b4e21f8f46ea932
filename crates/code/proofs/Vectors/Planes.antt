-- Vectors of values and their byte planes. What the tests of a vector and of its check values say is given as records, both
-- ways. Values are equal where all their planes are, so check values are unique because each plane's are; and a plane of two
-- vectors differs in no more places than the vectors in values, so check values repair what differs in at most t. A repair is unique,
-- because each plane's codeword is, and so are the places tried for it. Assumes nothing.
use mathlib.Core.Path.{◌≡◌, refl, sym, ◌∙◌, ap, ap₂}
use mathlib.Core.Bool.{Bool, true, ◌&&◌}
use mathlib.Core.List.{List, [], ◌∷◌}
use mathlib.Mathlib.Data.Bool.Basic.{and_intro}
use Prim.Native.Nat.{ℕ, zero, suc, ◌<◌, ◌≤◌}
use native.Mathlib.Omega.{arith}
use native.Mathlib.Decide.{dec_lt}
use lib.Dec.{eqb}
use lib.ListN.{length, get_or, drop}
use lib.Seq.{ext_get_or}
use borrow.Author.Tests.{eqb-true, eq-eqb}
use Rattle.arrays.proofs.Bool.{and_split, count_le, count_le_one}
use Rattle.code.specs.Settings.{Settings, settings_refusal, check_count, value_size}
use Rattle.code.specs.Plane.{is_codeword, byte_list, differ}
use Rattle.code.specs.Vector.{plane, each_long, is_vector, are_checks, planes_from, has_checks, same, differ_values}
use Rattle.code.specs.Repair.{Repaired, changed_places, NoRepair, TriedPlanes}
use Rattle.code.specs.Promise.{OneNear, OneTried, OneRepair, Repairs}
use Rattle.arrays.proofs.Bytes.{Bytes, byte_at}
use Rattle.code.proofs.Tests.{bytes_of, bytes_back, all_from, all_below_at, all_below_back}
use Rattle.code.proofs.Codewords.Near.{differ_self, one_near, plane_unique}
use Rattle.code.proofs.Codewords.Tried.{tried_one}

-- values of so many bytes
abbrev pub Values : (size : ℕ) → List (List ℕ) → Type 0
Values w [] = Unit {0}
Values w (v ∷ vs) = (length v ≡ w) × Bytes v × Values w vs

pub values_of : (w : ℕ) (vs : List (List ℕ)) → each_long w vs ≡ true → Values w vs
unfolding each_long
values_of w [] e = tt
values_of w (v ∷ vs) e =
    let parts = and_split (eqb (length v) w && byte_list v) (each_long w vs) e in
    let first = and_split (eqb (length v) w) (byte_list v) parts.0 in
    (eqb-true _ _ first.0, bytes_of v first.1, values_of w vs parts.1)

pub values_back : (w : ℕ) (vs : List (List ℕ)) → Values w vs → each_long w vs ≡ true
unfolding each_long
values_back w [] l = refl
values_back w (v ∷ vs) l = and_intro (and_intro (eq-eqb _ _ l.0) (bytes_back v l.1)) (values_back w vs l.2)

-- a vector
pub record Vector (s : Settings) (vs : List (List ℕ)) : Type 0 where
  pub many : length vs ≡ s.n
  pub values : Values (value_size s) vs

pub vector_of : (s : Settings) (vs : List (List ℕ)) → is_vector s vs ≡ true → Vector s vs
unfolding is_vector
vector_of s vs e =
    let parts = and_split (eqb (length vs) s.n) (each_long (value_size s) vs) e in
    record { many = eqb-true _ _ parts.0; values = values_of (value_size s) vs parts.1 }

pub vector_back : (s : Settings) (vs : List (List ℕ)) → Vector s vs → is_vector s vs ≡ true
unfolding is_vector
vector_back s vs v = and_intro (eq-eqb _ _ v.many) (values_back (value_size s) vs v.values)

-- check values
pub checks_of : (s : Settings) (cs : List (List ℕ)) → are_checks s cs ≡ true → (length cs ≡ check_count s) × Values (value_size s) cs
unfolding are_checks
checks_of s cs e =
    let parts = and_split (eqb (length cs) (check_count s)) (each_long (value_size s) cs) e in
    (eqb-true _ _ parts.0, values_of (value_size s) cs parts.1)

pub checks_back : (s : Settings) (cs : List (List ℕ)) → length cs ≡ check_count s → Values (value_size s) cs → are_checks s cs ≡ true
unfolding are_checks
checks_back s cs e v = and_intro (eq-eqb _ _ e) (values_back (value_size s) cs v)

-- planes
pub plane_length : (p : ℕ) (vs : List (List ℕ)) → length (plane p vs) ≡ length vs
unfolding plane
plane_length p [] = refl
plane_length p (v ∷ vs) = ap suc (plane_length p vs)

pub plane_bytes : (p w : ℕ) (vs : List (List ℕ)) → Values w vs → Bytes (plane p vs)
unfolding plane
plane_bytes p w [] l = tt
plane_bytes p w (v ∷ vs) l = (byte_at v p l.1, plane_bytes p w vs l.2)

pub planes_same :
    (w : ℕ) (vs us : List (List ℕ)) → length vs ≡ length us → Values w vs → Values w us → ((p : ℕ) → p < w → plane p vs ≡ plane p us) → vs ≡ us
unfolding plane
planes_same w [] [] e l m h = refl
planes_same w [] (u ∷ us) e l m h = absurd (omega arith)
planes_same w (v ∷ vs) [] e l m h = absurd (omega arith)
planes_same w (v ∷ vs) (u ∷ us) e l m h =
    ap₂ ◌∷◌ (ext_get_or 0 v u (l.0 ∙ sym m.0) (λ p k. ap (λ (bs : List ℕ). get_or bs 0 0) (h p (rw l.0 at k))))
    (planes_same w vs us (omega arith) l.2 m.2 (λ p k. ap (drop 1) (h p k)))

-- a vector with its check values
pub record Checked (s : Settings) (vs cs : List (List ℕ)) : Type 0 where
  pub many : length cs ≡ check_count s
  pub values : Values (value_size s) cs
  pub planes : (p : ℕ) → p < value_size s → is_codeword s (plane p vs) (plane p cs) ≡ true

plane_tests : (n i : ℕ) (s : Settings) (vs cs : List (List ℕ)) → planes_from n i s vs cs ≡ all_from n i (λ p. is_codeword s (plane p vs) (plane p cs))
unfolding planes_from all_from
plane_tests zero i s vs cs = refl
plane_tests (suc n) i s vs cs = ap (λ (t : Bool). is_codeword s (plane i vs) (plane i cs) && t) (plane_tests n (suc i) s vs cs)

pub checked_of : (s : Settings) (vs cs : List (List ℕ)) → has_checks s vs cs ≡ true → Checked s vs cs
unfolding has_checks
checked_of s vs cs e =
    let parts = and_split (are_checks s cs) (planes_from (value_size s) 0 s vs cs) e in
    let checks = checks_of s cs parts.0 in
    record {
      many = checks.0;
      values = checks.1;
      planes = all_below_at (value_size s) (λ p. is_codeword s (plane p vs) (plane p cs)) (sym (plane_tests (value_size s) 0 s vs cs) ∙ parts.1);
    }

pub checked_back : (s : Settings) (vs cs : List (List ℕ)) → Checked s vs cs → has_checks s vs cs ≡ true
unfolding has_checks
checked_back s vs cs c =
    and_intro (checks_back s cs c.many c.values)
    (plane_tests (value_size s) 0 s vs cs ∙ all_below_back (value_size s) (λ p. is_codeword s (plane p vs) (plane p cs)) c.planes)

-- a vector has at most one list of check values
pub checks_unique :
    (s : Settings) (vs cs ds : List (List ℕ)) → settings_refusal s ≡ 0 → has_checks s vs cs ≡ true → has_checks s vs ds ≡ true → cs ≡ ds
checks_unique s vs cs ds r e f =
    let c = checked_of s vs cs e in
    let d = checked_of s vs ds f in
    planes_same (value_size s) cs ds (c.many ∙ sym d.many) c.values d.values
    (λ p h. plane_unique s (plane p vs) (plane p cs) (plane p ds) r (c.planes p h) (d.planes p h))

-- differences
pub same_self : (a : List ℕ) → same a a ≡ true
unfolding same
same_self [] = refl
same_self (x ∷ xs) = and_intro (eq-eqb x x refl) (same_self xs)

pub same_equal : (a b : List ℕ) → same a b ≡ true → a ≡ b
unfolding same
same_equal [] [] e = refl
same_equal [] (y ∷ ys) e = cc
same_equal (x ∷ xs) [] e = cc
same_equal (x ∷ xs) (y ∷ ys) e = let parts = and_split (eqb x y) (same xs ys) e in ap₂ ◌∷◌ (eqb-true x y parts.0) (same_equal xs ys parts.1)

pub plane_differ : (p : ℕ) (vs us : List (List ℕ)) → differ (plane p vs) (plane p us) ≤ differ_values vs us
unfolding differ plane differ_values
plane_differ p [] us = omega arith
plane_differ p (v ∷ vs) [] = omega arith
plane_differ p (v ∷ vs) (u ∷ us) =
    omega (
      arith,
      count_le (eqb (get_or v p 0) (get_or u p 0)) (same v u) (λ e. eq-eqb _ _ (ap (λ (bs : List ℕ). get_or bs p 0) (same_equal v u e))),
      plane_differ p vs us,
    )

pub differ_values_self : (vs : List (List ℕ)) → differ_values vs vs ≡ 0
unfolding differ_values
differ_values_self [] = refl
differ_values_self (v ∷ vs) = rw (same_self v) (omega (arith, differ_values_self vs))

pub differ_values_le : (vs us : List (List ℕ)) → differ_values vs us ≤ length vs
unfolding differ_values
differ_values_le [] us = omega arith
differ_values_le (v ∷ vs) [] = omega arith
differ_values_le (v ∷ vs) (u ∷ us) = omega (arith, count_le_one (same v u), differ_values_le vs us)

pub repairs : Repairs
unfolding Repairs changed_places
repairs s vs us cs r e f c d =
    let checked = checked_of s us cs c in (
      record {
        vector = f;
        checks = checks_back s cs checked.many checked.values;
        planes = λ p h. record { codeword = checked.planes p h; within = omega (arith, plane_differ p vs us, differ_self (plane p cs)) };
      },
      omega (arith, differ_values_self cs),
    )

-- repair has one answer
pub one_repair : OneRepair
unfolding OneRepair OneNear
one_repair s vs cs us ds xs ys fine e f a b = (
  planes_same (value_size s) us xs (u.many ∙ sym x.many) u.values x.values (λ p h. (near p h).0),
  planes_same (value_size s) ds ys (d.0 ∙ sym y.0) d.1 y.1 (λ p h. (near p h).1),
)
  where
    u : Vector s us
    u = vector_of s us a.vector

    x : Vector s xs
    x = vector_of s xs b.vector

    d : (length ds ≡ check_count s) × Values (value_size s) ds
    d = checks_of s ds a.checks

    y : (length ys ≡ check_count s) × Values (value_size s) ys
    y = checks_of s ys b.checks

    near : (p : ℕ) → p < value_size s → (plane p us ≡ plane p xs) × (plane p ds ≡ plane p ys)
    near p h =
        one_near s (plane p vs) (plane p cs) (plane p us) (plane p ds) (plane p xs) (plane p ys) fine (plane_length p vs ∙ e) (plane_length p cs ∙ f)
        (a.planes p h) (b.planes p h)

pub repaired_or_none : (s : Settings) (vs cs us ds : List (List ℕ)) → Repaired s vs cs us ds → NoRepair s vs cs → ⊥
repaired_or_none s vs cs us ds a b = b.none_near (plane b.at_plane us) (plane b.at_plane ds) (a.planes b.at_plane b.inside)

pub tried_planes_one :
    (s : Settings) (vs cs : List (List ℕ)) (k l : List ℕ) → settings_refusal s ≡ 0 → length vs ≡ s.n → length cs ≡ check_count s → TriedPlanes s vs cs k →
    TriedPlanes s vs cs l → k ≡ l
unfolding OneTried
tried_planes_one s vs cs k l fine e f a b = ext_get_or 0 k l (a.long ∙ sym b.long) (λ p h. at p (dec_lt p (value_size s)))
  where
    at : (p : ℕ) → Dec (p < value_size s) → get_or k p 0 ≡ get_or l p 0
    at p (yes h) = tried_one s (plane p vs) (plane p cs) _ _ fine (plane_length p vs ∙ e) (plane_length p cs ∙ f) (a.each p h) (b.each p h)
    at p (no h) = a.others p (omega arith) ∙ sym (b.others p (omega arith))
