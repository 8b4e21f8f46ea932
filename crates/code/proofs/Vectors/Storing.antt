-- Values stored one after the other: what was stored before stays, and what is not reached yet is as it was. Assumes nothing.
use mathlib.Core.Path.{◌≡◌, refl, sym, ◌∙◌, subst}
use mathlib.Core.List.{List, ◌++◌}
use Prim.Native.Nat.{ℕ, ◌+◌, ◌*◌, ◌-◌, ◌≤◌, ◌<◌}
use native.Mathlib.Omega.{arith}
use native.Mathlib.Decide.{dec_lt}
use lib.ListN.{length, get_or, take, drop, length-append, length-drop, get_or-append}
use lib.Seq.{length-take-le, get_or-take}
use borrow.Rule.Slice.PartMut.{put_mid, post_of}
use Rattle.arrays.proofs.Part.{part_inside, part_after}
use Rattle.arrays.specs.Array.{Filled, Written}
use Rattle.code.specs.Steps.Windows.{byte_in, Stored}
use Rattle.code.proofs.Vectors.Cut.{value_fits, next_value}

-- a part that was lent and filled, put back
pub part_written :
    (at size w long : ℕ) (f : ℕ → ℕ) (bytes part : List ℕ) → at + size ≤ length bytes → w ≡ size → long ≡ size → Filled long long f part →
    Written at size f bytes (put_mid at w bytes part)
part_written at size w long f bytes part h e l d =
    record {
      long =
          omega (
            arith,
            length-append (take at bytes) (part ++ post_of at w bytes),
            length-append part (post_of at w bytes),
            length-take-le at bytes (omega arith),
            length-drop w (drop at bytes),
            length-drop at bytes,
            d.long,
            e,
            l,
          );
      new = λ p k. part_inside at w bytes part (omega arith) (d.long ∙ l ∙ sym e) p (omega arith) ∙ d.new p (omega arith);
      before = λ i k.
          get_or-append (take at bytes) (part ++ post_of at w bytes) 0 i (omega (arith, length-take-le at bytes (omega arith))) ∙ get_or-take at bytes i 0 k;
      after = λ i k. part_after at w bytes part (omega arith) (d.long ∙ l ∙ sym e) i (omega arith);
    }

pub stored_none : (n count size : ℕ) (windows : List (List ℕ)) (out : List ℕ) → Stored 0 n count size windows out out
stored_none n count size windows out = record { long = refl; value = λ c p h l. absurd (omega arith); kept = λ i h. refl }

pub stored_more :
    (c n count size : ℕ) (windows : List (List ℕ)) (out so_far now : List ℕ) → Stored c n count size windows out so_far →
    Written (c * size) size (λ p. byte_in p (n + count - 1 - c) windows) so_far now → Stored (c + 1) n count size windows out now
stored_more c n count size windows out so_far now d w =
    record {
      long = w.long ∙ d.long;
      value = λ k p h l. go k p h l (dec_lt k c);
      kept = λ i h. w.after i (omega (arith, next_value c size)) ∙ d.kept i (omega (arith, next_value c size));
    }
  where
    go : (k p : ℕ) → k < c + 1 → p < size → Dec (k < c) → get_or now (k * size + p) 0 ≡ byte_in p (n + count - 1 - k) windows
    go k p h l (yes a) = w.before _ (omega (arith, value_fits k c size a)) ∙ d.value k p a l
    go k p h l (no a) = let e : k ≡ c = omega arith in rw e (w.new p l)

pub stored_to : {c k n count size : ℕ} {windows : List (List ℕ)} {out now : List ℕ} → c ≡ k → Stored c n count size windows out now → Stored k n count size windows out now
stored_to {c} {k} {n} {count} {size} {windows} {out} {now} e d = subst (λ (m : ℕ). Stored m n count size windows out now) e d
