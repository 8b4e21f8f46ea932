-- A loop that writes bytes one after the other: nothing is written at first, one store writes one more, and the bytes that
-- are not yet reached are the old ones. Once over an array's first bytes, once from any place on; the second at the array's
-- start says the first. Assumes nothing.
use mathlib.Core.Path.{◌≡◌, refl, ◌∙◌, ap, subst}
use mathlib.Core.List.{List}
use Prim.Native.Nat.{ℕ, ◌+◌, ◌<◌}
use native.Mathlib.Omega.{arith}
use lib.ListN.{length, get_or, set, length-set}
use borrow.Author.Count.{below_more}
use lib.Seq.{get_or-set_same, get_or-set_other}
use Rattle.arrays.specs.Array.{Filled, Written}

-- an array's first bytes
pub filled_none : (size : ℕ) (f : ℕ → ℕ) (bytes : List ℕ) → length bytes ≡ size → Filled size 0 f bytes
filled_none size f bytes e = record { long = e; new = λ p h. absurd (omega arith) }

pub filled_more :
    (size many v : ℕ) (f : ℕ → ℕ) (bytes : List ℕ) → Filled size many f bytes → many < size → v ≡ f many → Filled size (many + 1) f (set bytes many v)
filled_more size many v f bytes w h e = record { long = length-set bytes many v ∙ w.long; new = below_more _ many passed here }
  where
    passed : (p : ℕ) → p < many → get_or (set bytes many v) p 0 ≡ f p
    passed p l = get_or-set_other bytes many p v 0 (omega arith) ∙ w.new p l

    here : get_or (set bytes many v) many 0 ≡ f many
    here = get_or-set_same bytes many v 0 (let g = w.long in omega arith) ∙ e

pub filled_to : {size many k : ℕ} {f : ℕ → ℕ} {bytes : List ℕ} → many ≡ k → Filled size many f bytes → Filled size k f bytes
filled_to {size} {many} {k} {f} {bytes} e w = subst (λ (n : ℕ). Filled size n f bytes) e w

-- bytes from a place on
pub written_none : (at : ℕ) (f : ℕ → ℕ) (bytes : List ℕ) → Written at 0 f bytes bytes
written_none at f bytes = record { long = refl; new = λ p h. absurd (omega arith); before = λ i h. refl; after = λ i h. refl }

pub written_more :
    (at many v : ℕ) (f : ℕ → ℕ) (bytes now : List ℕ) → Written at many f bytes now → at + many < length bytes → v ≡ f many →
    Written at (many + 1) f bytes (set now (at + many) v)
written_more at many v f bytes now w h e =
    record {
      long = length-set now (at + many) v ∙ w.long;
      new = below_more _ many passed here;
      before = λ i l. get_or-set_other now (at + many) i v 0 (omega arith) ∙ w.before i l;
      after = λ i l. get_or-set_other now (at + many) i v 0 (omega arith) ∙ w.after i (omega arith);
    }
  where
    passed : (p : ℕ) → p < many → get_or (set now (at + many) v) (at + p) 0 ≡ f p
    passed p l = get_or-set_other now (at + many) (at + p) v 0 (omega arith) ∙ w.new p l

    here : get_or (set now (at + many) v) (at + many) 0 ≡ f many
    here = get_or-set_same now (at + many) v 0 (let g = w.long in omega arith) ∙ e

pub written_to : {at many k : ℕ} {f : ℕ → ℕ} {bytes now : List ℕ} → many ≡ k → Written at many f bytes now → Written at k f bytes now
written_to {at} {many} {k} {f} {bytes} {now} e w = subst (λ (n : ℕ). Written at n f bytes now) e w

pub written_as :
    {at many : ℕ} {f g : ℕ → ℕ} {bytes now : List ℕ} → ((p : ℕ) → p < many → f p ≡ g p) → Written at many f bytes now → Written at many g bytes now
written_as e w = record { long = w.long; new = λ p h. w.new p h ∙ e p h; before = w.before; after = w.after }

-- from the start of the other array
pub from_start :
    {at many : ℕ} {bytes now : List ℕ} (from : List ℕ) → Written at many (λ p. get_or from (0 + p) 0) bytes now →
    Written at many (λ p. get_or from p 0) bytes now
from_start from w = written_as (λ p h. ap (λ (i : ℕ). get_or from i 0) (let e : 0 + p ≡ p = omega arith in e)) w

-- to the start
pub written_filled : {many : ℕ} {f : ℕ → ℕ} {bytes now : List ℕ} → Written 0 many f bytes now → Filled (length bytes) many f now
written_filled {many} {f} {bytes} {now} w =
    record { long = w.long; new = λ p h. ap (λ (i : ℕ). get_or now i 0) (let e : p ≡ 0 + p = omega arith in e) ∙ w.new p h }
