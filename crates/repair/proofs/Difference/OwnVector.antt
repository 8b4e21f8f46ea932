-- From the zero vector to the own one. Moved by the own vector with its check values, the zero bytes with the difference of the
-- check values become the own vector with the check values received, plane by plane, and back. So what repairs the one repairs
-- the other and changes the same places, where the one has no repair neither has the other, and a search tries the same places of both.
-- Assumes nothing.
use mathlib.Core.Path.{◌≡◌, sym, ◌∙◌, ap, ap₂, subst₂}
use mathlib.Core.Bool.{true}
use mathlib.Core.List.{List, ◌++◌}
use mathlib.Core.Logic.{inl, inr}
use Prim.Native.Nat.{ℕ, ◌+◌, ◌<◌}
use lib.ListN.{length, get_or, replicate, length-replicate}
use Rattle.code.specs.Settings.{Settings, check_count, value_size}
use Rattle.code.specs.Polynomial.{added}
use Rattle.code.specs.Vector.{plane, is_vector, are_checks, has_checks, differ_values}
use Rattle.code.specs.Repair.{Near, Repaired, changed_places, NoRepair, last_difference, Tried, TriedPlanes}
use Rattle.code.proofs.Vectors.Planes.{Values, Vector, vector_of, vector_back, checks_of, checks_back, Checked, checked_of, plane_length, plane_bytes}
use Rattle.code.proofs.Codewords.Word.{Shape, word_of}
use Rattle.code.proofs.Codewords.Linear.{near_plus}
use Rattle.repair.specs.Difference.{plus_values, zeros}
use Rattle.repair.proofs.Difference.Values.{added_zeros, added_self, added_again, plus_differ, plus_values_again, plus_values_length, plus_values_values, plane_plus, plane_zeros, zero_values, plus_zero_values, last_plus}

-- the own vector vs with its check values, and check values cs received
module _ (s : Settings) (vs own cs : List (List ℕ)) (e : is_vector s vs ≡ true) (f : has_checks s vs own ≡ true) (g : are_checks s cs ≡ true) where
  vector : Vector s vs
  vector = vector_of s vs e

  checked : Checked s vs own
  checked = checked_of s vs own f

  received : (length cs ≡ check_count s) × Values (value_size s) cs
  received = checks_of s cs g

  module _ (p : ℕ) where
    own_long : length (plane p vs) ≡ s.n
    own_long = plane_length p vs ∙ vector.many

    received_long : length (plane p cs) ≡ check_count s
    received_long = plane_length p cs ∙ received.0

    difference : plane p (plus_values own cs) ≡ added (plane p own) (plane p cs)
    difference = plane_plus p (value_size s) own cs checked.values received.1

    difference_long : length (plane p (plus_values own cs)) ≡ check_count s
    difference_long =
        plane_length p (plus_values own cs) ∙ plus_values_length own cs (checked.many ∙ sym received.0) ∙ checked.many

    bytes_moved : added (plane p vs) (plane p (zeros s)) ≡ plane p vs
    bytes_moved =
        ap (added (plane p vs)) (plane_zeros s p) ∙ added_zeros s.n (plane p vs) own_long (plane_bytes p (value_size s) vs vector.values)

    checks_moved : added (plane p own) (plane p (plus_values own cs)) ≡ plane p cs
    checks_moved =
        ap (added (plane p own)) difference
        ∙ added_again (plane p own) (plane p cs) (plane_length p own ∙ checked.many ∙ sym received_long) (plane_bytes p (value_size s) cs received.1)

    bytes_back : added (plane p vs) (plane p vs) ≡ plane p (zeros s)
    bytes_back = added_self (plane p vs) ∙ ap (λ (n : ℕ). replicate n 0) own_long ∙ sym (plane_zeros s p)

    zeros_shape : Shape s (plane p (zeros s)) (plane p (plus_values own cs))
    unfolding zeros
    zeros_shape =
        record {
          many = ap length (plane_zeros s p) ∙ length-replicate s.n 0;
          many_checks = difference_long;
          bytes = plane_bytes p (value_size s) (zeros s) (zero_values s.n (value_size s));
          check_bytes =
              plane_bytes p (value_size s) (plus_values own cs) (plus_values_values (value_size s) own cs checked.values received.1);
        }

    -- a codeword near the one is moved to one near the other
    module _ (h : p < value_size s) (us ds : List ℕ) where
      near_own :
          Near s (plane p (zeros s)) (plane p (plus_values own cs)) us ds → Near s (plane p vs) (plane p cs) (added (plane p vs) us) (added (plane p own) ds)
      near_own near =
          subst₂ (λ (x y : List ℕ). Near s x y (added (plane p vs) us) (added (plane p own) ds)) bytes_moved checks_moved
          (near_plus s (plane p vs) (plane p own) (plane p (zeros s)) (plane p (plus_values own cs)) us ds (checked.planes p h) zeros_shape.many
          difference_long near)

      near_zeros :
          Near s (plane p vs) (plane p cs) us ds → Near s (plane p (zeros s)) (plane p (plus_values own cs)) (added (plane p vs) us) (added (plane p own) ds)
      near_zeros near =
          subst₂ (λ (x y : List ℕ). Near s x y (added (plane p vs) us) (added (plane p own) ds)) bytes_back (sym difference)
          (near_plus s (plane p vs) (plane p own) (plane p vs) (plane p cs) us ds (checked.planes p h) own_long received_long near)

      -- and the last place that differs is the same
      last_own :
          Near s (plane p (zeros s)) (plane p (plus_values own cs)) us ds →
          last_difference (plane p (zeros s) ++ plane p (plus_values own cs)) (us ++ ds)
          ≡ last_difference (plane p vs ++ plane p cs) (added (plane p vs) us ++ added (plane p own) ds)
      last_own near =
          sym (last_plus s (plane p vs) (plane p own) (plane p (zeros s)) (plane p (plus_values own cs)) us ds (word_of s _ _ (checked.planes p h)).shape zeros_shape
          (word_of s us ds near.codeword).shape)
          ∙ ap₂ (λ (x y : List ℕ). last_difference (x ++ y) (added (plane p vs) us ++ added (plane p own) ds)) bytes_moved checks_moved

    tried_plane : p < value_size s → (k : ℕ) → Tried s (plane p (zeros s)) (plane p (plus_values own cs)) k → Tried s (plane p vs) (plane p cs) k
    unfolding Tried
    tried_plane h k (inl (us, ds, near, e)) =
        inl (added (plane p vs) us, added (plane p own) ds, near_own h us ds near, e ∙ last_own h us ds near)
    tried_plane h k (inr (none, e)) = inr (λ us ds near. none _ _ (near_zeros h us ds near), e)

  module _ (es ds : List (List ℕ)) (r : Repaired s (zeros s) (plus_values own cs) es ds) where
    errors : Vector s es
    errors = vector_of s es r.vector

    errors_checks : (length ds ≡ check_count s) × Values (value_size s) ds
    errors_checks = checks_of s ds r.checks

    moved : (p : ℕ) → p < value_size s → Near s (plane p vs) (plane p cs) (plane p (plus_values vs es)) (plane p (plus_values own ds))
    moved p h =
        rw (
          plane_plus p (value_size s) vs es vector.values errors.values,
          plane_plus p (value_size s) own ds checked.values errors_checks.1,
        )
        (near_own p h (plane p es) (plane p ds) (r.planes p h))

    pub repaired_plus : Repaired s vs cs (plus_values vs es) (plus_values own ds)
    repaired_plus =
        record {
          vector =
              vector_back s (plus_values vs es)
              (record {
                many = plus_values_length vs es (vector.many ∙ sym errors.many) ∙ vector.many;
                values = plus_values_values (value_size s) vs es vector.values errors.values;
              });
          checks =
              checks_back s (plus_values own ds) (plus_values_length own ds (checked.many ∙ sym errors_checks.0) ∙ checked.many)
              (plus_values_values (value_size s) own ds checked.values errors_checks.1);
          planes = moved;
        }

    -- and the same places are changed
    pub changed_plus : changed_places (zeros s) (plus_values own cs) es ds ≡ changed_places vs cs (plus_values vs es) (plus_values own ds)
    unfolding changed_places zeros
    changed_plus =
        ap₂ ◌+◌
        (sym (plus_differ w vs (zeros s) es (vector.many ∙ sym zeros_many) (vector.many ∙ sym errors.many) vector.values zeros_values errors.values)
        ∙ ap (λ (us : List (List ℕ)). differ_values us (plus_values vs es)) (plus_zero_values s.n w vs vector.many vector.values))
        (sym (plus_differ w own (plus_values own cs) ds (sym (plus_values_length own cs many)) (checked.many ∙ sym errors_checks.0) checked.values
        (plus_values_values w own cs checked.values received.1) errors_checks.1)
        ∙ ap (λ (us : List (List ℕ)). differ_values us (plus_values own ds)) (plus_values_again w own cs many checked.values received.1))
      where
        w : ℕ
        w = value_size s

        many : length own ≡ length cs
        many = checked.many ∙ sym received.0

        zeros_many : length (zeros s) ≡ s.n
        zeros_many = length-replicate s.n (replicate w 0)

        zeros_values : Values w (zeros s)
        zeros_values = zero_values s.n w

  pub no_repair_plus : NoRepair s (zeros s) (plus_values own cs) → NoRepair s vs cs
  no_repair_plus r =
      record {
        at_plane = r.at_plane;
        inside = r.inside;
        none_near = λ us ds near. r.none_near _ _ (near_zeros r.at_plane r.inside us ds near);
      }

  pub tried_plus : (k : List ℕ) → TriedPlanes s (zeros s) (plus_values own cs) k → TriedPlanes s vs cs k
  tried_plus k d = record { long = d.long; each = λ p h. tried_plane p h (get_or k p 0) (d.each p h); others = d.others }
