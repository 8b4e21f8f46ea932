-- The repair calls have one outcome: a refusal is one number, and a repair is unique in its values and in its check values, so that what is
-- written, how many places were changed and how many were tried are. Assumes nothing.
use mathlib.Core.Path.{◌≡◌, refl, sym, ◌∙◌, ap, ap₂}
use mathlib.Core.List.{List}
use mathlib.Core.Logic.{inl, inr}
use Prim.Native.Nat.{ℕ, zero, suc}
use lib.ListN.{length, replicate, length-replicate}
use Rattle.arrays.specs.Array.{in_front}
use Rattle.code.specs.Settings.{Settings, settings, settings_refusal, check_count, value_size}
use Rattle.code.specs.Vector.{glued}
use Rattle.code.specs.Repair.{changed_places}
use Rattle.code.specs.Entry.{values_in}
use Rattle.code.specs.Promise.{OneRepair}
use Rattle.code.proofs.Vectors.Cut.{cut_length}
use Rattle.code.proofs.Vectors.Planes.{one_repair, repaired_or_none, tried_planes_one}
use Rattle.repair.specs.Difference.{plus_values, zeros}
use Rattle.repair.specs.Entry.{Done, RepairAs, RepairSays, DoneBy, TriedBy, RepairByAs, RepairBySays}
use Rattle.repair.specs.Promise.{OneAnswer}
use Rattle.repair.proofs.Difference.Values.{plus_values_length}
use Rattle.repair.proofs.Entry.{accepted, by_passed}

module _ (s : Settings) (fine : settings_refusal s ≡ 0) where
  -- lent bytes as values
  values_many : (many : ℕ) (bs : List ℕ) → length (values_in s many bs) ≡ many
  unfolding values_in
  values_many many bs = cut_length many (value_size s) bs

  done_one :
      (vs cs : List (List ℕ)) (a b m k : ℕ) (o x y : List ℕ) → length vs ≡ s.n → length cs ≡ check_count s → Done s vs cs a m o x → Done s vs cs b k o y →
      (a ≡ b) × (m ≡ k) × (x ≡ y)
  unfolding Done OneRepair
  done_one vs cs a b m k o x y e f (inl (p, (us, ds, r, c, w))) (inl (q, (xs, ys, z, d, v))) =
      let one = one_repair s vs cs us ds xs ys fine e f r z in
      (p ∙ sym q, c ∙ ap₂ (changed_places vs cs) one.0 one.1 ∙ sym d, w ∙ ap (λ (ws : List (List ℕ)). in_front (glued ws) o) one.0 ∙ sym v)
  done_one vs cs a b m k o x y e f (inl (p, (us, ds, r, c, w))) (inr d) = absurd (repaired_or_none s vs cs us ds r d.2)
  done_one vs cs a b m k o x y e f (inr d) (inl (p, (us, ds, r, c, w))) = absurd (repaired_or_none s vs cs us ds r d.2)
  done_one vs cs a b m k o x y e f (inr c) (inr d) = (c.0 ∙ sym d.0, c.1 ∙ sym d.1, c.3 ∙ sym d.3)

  -- the zeros and a difference of checks
  zeros_many : length (zeros s) ≡ s.n
  unfolding zeros
  zeros_many = length-replicate s.n (replicate (value_size s) 0)

  difference_many : (own cs : List (List ℕ)) → length own ≡ check_count s → length cs ≡ check_count s → length (plus_values own cs) ≡ check_count s
  difference_many own cs e f = plus_values_length own cs (e ∙ sym f) ∙ e

  by_one :
      (vs own cs : List (List ℕ)) (a b m k : ℕ) (o x y : List ℕ) → length own ≡ check_count s → length cs ≡ check_count s → DoneBy s vs own cs a m o x →
      DoneBy s vs own cs b k o y → (a ≡ b) × (m ≡ k) × (x ≡ y)
  unfolding DoneBy OneRepair
  by_one vs own cs a b m k o x y e f (inl (p, (us, ds, r, c, w))) (inl (q, (xs, ys, z, d, v))) =
      let one = one_repair s (zeros s) (plus_values own cs) us ds xs ys fine zeros_many (difference_many own cs e f) r z in (
        p ∙ sym q,
        c ∙ ap₂ (changed_places (zeros s) (plus_values own cs)) one.0 one.1 ∙ sym d,
        w ∙ ap (λ (ws : List (List ℕ)). in_front (glued (plus_values vs ws)) o) one.0 ∙ sym v,
      )
  by_one vs own cs a b m k o x y e f (inl (p, (us, ds, r, c, w))) (inr d) = absurd (repaired_or_none s _ _ us ds r d.2)
  by_one vs own cs a b m k o x y e f (inr d) (inl (p, (us, ds, r, c, w))) = absurd (repaired_or_none s _ _ us ds r d.2)
  by_one vs own cs a b m k o x y e f (inr c) (inr d) = (c.0 ∙ sym d.0, c.1 ∙ sym d.1, c.3 ∙ sym d.3)

module _ (n t w : ℕ) (a b m j : ℕ) (k l out x y : List ℕ) where
  abbrev allowed : Settings
  allowed = settings n t w

  repair_one :
      (number : ℕ) (vector checks : List ℕ) → (number ≡ 0 → settings_refusal allowed ≡ 0) → RepairAs number allowed vector checks a m k out x →
      RepairAs number allowed vector checks b j l out y → (a ≡ b) × (m ≡ j) × (k ≡ l) × (x ≡ y)
  unfolding RepairAs
  repair_one zero vector checks fine p q =
      let many = values_many allowed (fine refl) _ vector in
      let few = values_many allowed (fine refl) _ checks in
      let done = done_one allowed (fine refl) _ _ a b m j out x y many few p.0 q.0 in
      (done.0, done.1, tried_planes_one allowed _ _ k l (fine refl) many few p.1 q.1, done.2)
  repair_one (suc i) vector checks fine p q = (p.0 ∙ sym q.0, p.1 ∙ sym q.1, p.2 ∙ sym q.2, p.3 ∙ sym q.3)

  repair_by_one :
      (number : ℕ) (vector own checks : List ℕ) → (number ≡ 0 → settings_refusal allowed ≡ 0) → RepairByAs number allowed vector own checks a m k out x →
      RepairByAs number allowed vector own checks b j l out y → (a ≡ b) × (m ≡ j) × (k ≡ l) × (x ≡ y)
  unfolding RepairByAs TriedBy
  repair_by_one zero vector own checks fine p q =
      let own_many = values_many allowed (fine refl) _ own in
      let many = values_many allowed (fine refl) _ checks in
      let done = by_one allowed (fine refl) _ _ _ a b m j out x y own_many many p.0 q.0 in (
        done.0,
        done.1,
        tried_planes_one allowed _ _ k l (fine refl) (zeros_many allowed (fine refl)) (difference_many allowed (fine refl) _ _ own_many many) p.1 q.1,
        done.2,
      )
  repair_by_one (suc i) vector own checks fine p q = (p.0 ∙ sym q.0, p.1 ∙ sym q.1, p.2 ∙ sym q.2, p.3 ∙ sym q.3)

pub one_answer : OneAnswer
unfolding RepairSays RepairBySays
one_answer =
    record {
      repairing =
          λ n t w vector checks a b m j k l out x y p q. repair_one n t w a b m j k l out x y _ vector checks (λ e. (accepted n t w _ _ _ e).allowed) p q;
      repairing_by =
          λ n t w vector own checks a b m j k l out x y p q.
          repair_by_one n t w a b m j k l out x y _ vector own checks (λ e. (accepted n t w _ _ _ (by_passed (settings n t w) _ _ _ _ e)).allowed) p q;
    }
