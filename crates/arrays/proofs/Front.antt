-- Bytes among and in front of others. Bytes written from a place on stand between what was before them and what is behind, so from
-- the array's start on they stand in front; read again they are the same, and where they leave no rest they are the whole array.
-- Assumes nothing.
use mathlib.Core.Path.{◌≡◌, sym, ◌∙◌, ap, ap₂}
use mathlib.Core.List.{List, ◌++◌, append_assoc, append-nil}
use Prim.Native.Nat.{ℕ, ◌+◌, ◌-◌, ◌≤◌, ◌<◌}
use native.Mathlib.Omega.{arith}
use lib.ListN.{length, get_or, take, drop, length-append, length-drop, take-append-drop, drop_of_length-le}
use lib.Seq.{take_at, drop_at, drop-drop, get_or-take, get_or-drop, length-take-le, ext_get_or}
use borrow.Rule.Slice.PartMut.{put_mid}
use Rattle.arrays.specs.Array.{in_front, Written}
use Rattle.arrays.proofs.Written.{written_as, from_start}

-- what is written from a place on stands between what was before and what is behind
module _ (at many : ℕ) (new old now : List ℕ) (l : length new ≡ many) (h : at + many ≤ length old) (w : Written at many (λ p. get_or new p 0) old now) where
  same_before : take at now ≡ take at old
  same_before =
      let long = length-take-le at now (omega (arith, w.long)) in
      ext_get_or 0 (take at now) (take at old) (long ∙ sym (length-take-le at old (omega arith)))
      (λ i g. (let k : i < at = rw long at g in get_or-take at now i 0 k ∙ w.before i k ∙ sym (get_or-take at old i 0 k)))

  the_new : take many (drop at now) ≡ new
  the_new =
      let long = length-take-le many (drop at now) (omega (arith, length-drop at now, w.long)) in
      ext_get_or 0 (take many (drop at now)) new (long ∙ sym l)
      (λ i g. (let k : i < many = rw long at g in get_or-take many (drop at now) i 0 k ∙ get_or-drop at now i 0 ∙ w.new i k))

  same_behind : drop (at + many) now ≡ drop (at + many) old
  same_behind =
      ext_get_or 0 (drop (at + many) now) (drop (at + many) old) (length-drop (at + many) now ∙ ap (λ (k : ℕ). k - (at + many)) w.long ∙ sym (length-drop (at + many) old))
      (λ i g. get_or-drop (at + many) now i 0 ∙ w.after (at + many + i) (omega arith) ∙ sym (get_or-drop (at + many) old i 0))

  pub written_between : now ≡ take at old ++ (new ++ drop (at + many) old)
  written_between =
      sym (take-append-drop at now)
      ∙ ap₂ ◌++◌ same_before (sym (take-append-drop many (drop at now)) ∙ ap₂ ◌++◌ the_new (drop-drop many at now ∙ same_behind))

-- from the start on, in front
pub written_front :
    (many : ℕ) (new old now : List ℕ) → length new ≡ many → many ≤ length old → Written 0 many (λ p. get_or new p 0) old now → now ≡ in_front new old
unfolding in_front
written_front many new old now l h w =
    written_between 0 many new old now l (omega arith) w ∙ ap (λ (k : ℕ). new ++ drop k old) (let e : 0 + many ≡ length new = omega arith in e)

-- an array changed in front alone
pub front_kept :
    (many : ℕ) (old now : List ℕ) → length now ≡ length old → many ≤ length old → ((i : ℕ) → many ≤ i → get_or now i 0 ≡ get_or old i 0) →
    now ≡ in_front (take many now) old
front_kept many old now e h kept =
    written_front many (take many now) old now (length-take-le many now (omega arith)) h
    (record {
      long = e;
      new = λ p g. ap (λ (i : ℕ). get_or now i 0) (let f : 0 + p ≡ p = omega arith in f) ∙ sym (get_or-take many now p 0 g);
      before = λ i g. absurd (omega arith);
      after = λ i g. kept i (omega arith);
    })

-- what is copied from another array: all of it, or a part
pub copied :
    (many : ℕ) (new old now : List ℕ) → length new ≡ many → many ≤ length old → Written 0 many (λ p. get_or new (0 + p) 0) old now → now ≡ in_front new old
copied many new old now l h w = written_front many new old now l h (from_start new w)

pub copied_part :
    (many start : ℕ) (from old now : List ℕ) → start + many ≤ length from → many ≤ length old →
    Written 0 many (λ p. get_or from (start + p) 0) old now → now ≡ in_front (take many (drop start from)) old
copied_part many start from old now l h w =
    written_front many (take many (drop start from)) old now (length-take-le many (drop start from) (omega (arith, length-drop start from))) h
    (written_as (λ p g. sym (get_or-take many (drop start from) p 0 g ∙ get_or-drop start from p 0)) w)

-- two pieces
pub front_twice :
    (head next old : List ℕ) (m k : ℕ) → length head ≡ m → length next ≡ k → put_mid m k (in_front head old) next ≡ in_front (head ++ next) old
unfolding in_front
front_twice head next old m k e f =
    let rest = drop (length head) old in
    ap₂ ◌++◌ (take_at head rest m e) (ap (λ (xs : List ℕ). next ++ drop k xs) (drop_at head rest m e) ∙ ap (◌++◌ next) (drop-drop k (length head) old))
    ∙ sym (append_assoc head next (drop (length head + k) old))
    ∙ ap (λ (n : ℕ). (head ++ next) ++ drop n old) (let q : length head + k ≡ length (head ++ next) = omega (arith, length-append head next) in q)

-- read again
pub front_value : (new old : List ℕ) (k : ℕ) → length new ≡ k → take k (in_front new old) ≡ new
unfolding in_front
front_value new old k e = take_at new _ k e

pub front_at : (many : ℕ) (new old : List ℕ) (i : ℕ) → length new ≡ many → i < many → get_or (in_front new old) i 0 ≡ get_or new i 0
front_at many new old i e h = sym (get_or-take many (in_front new old) i 0 h) ∙ ap (λ (bs : List ℕ). get_or bs i 0) (front_value new old many e)

-- bytes that leave no rest
pub front_whole : (new old : List ℕ) → length old ≤ length new → in_front new old ≡ new
unfolding in_front
front_whole new old h = ap (◌++◌ new) (drop_of_length-le old h) ∙ append-nil new
