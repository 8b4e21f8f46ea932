-- The decoder of a plane, for zero bytes and the difference of checks: errors that explain the syndromes are the answer, wherever
-- they are from; and where a codeword is near, the locator is no longer than t and has all its roots among the places. Assumes nothing.
use mathlib.Core.Path.{◌≡◌, sym, ◌∙◌, ap₂}
use mathlib.Core.List.{List}
use Prim.Native.Nat.{ℕ, ◌+◌, ◌<◌, ◌≤◌}
use native.Mathlib.Omega.{arith}
use lib.ListN.{length, get_or, take, replicate, length-replicate, get_or-replicate}
use lib.Seq.{length-take-le, get_or-take, ext_get_or}
use Rattle.field.specs.Field.{plus}
use Rattle.field.proofs.Xor.{zero_plus}
use Rattle.field.proofs.Times.{times_lt}
use Rattle.code.specs.Settings.{Settings, settings_refusal, check_count}
use Rattle.code.specs.Plane.{syndrome}
use Rattle.code.specs.Repair.{Near}
use Rattle.arrays.proofs.Bytes.{Bytes, bytes_zeros}
use Rattle.code.proofs.Codewords.Word.{Shape}
use Rattle.locator.specs.Locator.{massey}
use Rattle.locator.specs.Errors.{error_byte, mended, NearErrors}
use Rattle.locator.specs.Search.{at_place, roots_below}
use Rattle.locator.proofs.Errors.Explained.{Explained}
use Rattle.locator.proofs.Errors.Mended.{mended_length, mended_at}
use Rattle.locator.proofs.Decoding.Sound.{explained_near}
use Rattle.locator.proofs.Decoding.Complete.{near_size, near_counted}

-- the errors of the columns
pub record ErrorBytes (s : Settings) (weighted bytes : List ℕ) : Type 0 where
  pub many : length bytes ≡ s.n
  pub each : (j : ℕ) → j < s.n → get_or bytes j 0 ≡ error_byte s j (get_or weighted j 0)

-- zero bytes with their errors added are the errors
pub mended_zeros : (s : Settings) (ys es : List ℕ) → s.n ≤ length ys → ErrorBytes s ys es → es ≡ mended s 0 (replicate s.n 0) (take s.n ys)
unfolding error_byte
mended_zeros s ys es l errors =
    ext_get_or 0 es (mended s 0 zeros (take s.n ys)) (errors.many ∙ sym (mended_length s 0 zeros (take s.n ys) ∙ long))
    (λ j h. at j (rw errors.many at h))
  where
    zeros : List ℕ
    zeros = replicate s.n 0

    long : length zeros ≡ s.n
    long = length-replicate s.n 0

    at : (j : ℕ) → j < s.n → get_or es j 0 ≡ get_or (mended s 0 zeros (take s.n ys)) j 0
    at j h =
        errors.each j h
        ∙ sym
        (mended_at s 0 zeros (take s.n ys) j j (omega arith) (omega (arith, long)) (long ∙ sym (length-take-le s.n ys l))
        ∙ ap₂ (λ (a b : ℕ). plus a (error_byte s j b)) (get_or-replicate s.n j 0 0 h) (get_or-take s.n ys j 0 h) ∙ zero_plus _ (times_lt _ _))

module _ (s : Settings) (cs : List ℕ) (S : ℕ → ℕ) (r : settings_refusal s ≡ 0) (l : length cs ≡ check_count s) (b : Bytes cs) (same : (i : ℕ) → i < check_count s → S i ≡ syndrome s i (replicate s.n 0) cs) where
  shape : Shape s (replicate s.n 0) cs
  shape = record { many = length-replicate s.n 0; many_checks = l; bytes = bytes_zeros s.n; check_bytes = b }

  -- what is found is near
  pub sound : (ys : List ℕ) → length ys ≡ s.n + check_count s → Bytes ys → Explained s S ys → NearErrors s cs ys
  sound ys long bytes explained =
      record { few = explained.few; near = explained_near s (replicate s.n 0) cs ys S r shape same long bytes explained }

  -- what is near is found
  module _ (us ds : List ℕ) (near : Near s (replicate s.n 0) cs us ds) where
    pub complete_size : (massey S (check_count s)).size ≤ s.t
    complete_size = near_size s (replicate s.n 0) cs us ds S r shape same near

    -- the locator has all its roots among the places
    pub complete_counted : roots_below (at_place s (massey S (check_count s)).locator) (s.n + check_count s) ≡ (massey S (check_count s)).size
    complete_counted = near_counted s (replicate s.n 0) cs us ds S r shape same near
