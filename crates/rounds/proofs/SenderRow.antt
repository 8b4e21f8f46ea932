-- The row that a sender's frame gives. Repair by the difference from the own checks is repair, as the own checks are the vector's; what
-- it leaves in front of a row of zeros is the repaired vector, or, where there is none, the zeros, which are blanks; and what it tells is
-- the places changed, or the mark. Assumes nothing.
use mathlib.Core.Path.{◌≡◌, refl, sym, ◌∙◌, ap, ap₂, subst}
use mathlib.Core.Bool.{true}
use mathlib.Core.List.{List, [], ◌∷◌, ◌++◌, append_assoc}
use mathlib.Core.Logic.{inl, inr}
use mathlib.Core.Option.{some}
use mathlib.Mathlib.Data.Bool.Basic.{and_intro}
use Prim.Native.Nat.{ℕ, zero, suc, ◌+◌, ◌*◌, ◌-◌, ◌<◌, ◌≤◌}
use native.Mathlib.Nat.{suc-mul}
use native.Mathlib.Omega.{arith}
use lib.ListN.{length, take, drop, replicate, length-drop, take-append-drop}
use Rattle.std.specs.Prelude.{Option, Some, None}
use lib.Seq.{length-take-le}
use borrow.Author.Tests.{eq-eqb, ne_eqb, le-ltb}
use Rattle.arrays.specs.Array.{in_front}
use Rattle.code.specs.Settings.{Settings, settings, settings_refusal, check_count, value_size}
use Rattle.code.specs.Vector.{is_vector, are_checks, has_checks, cut, glued}
use Rattle.code.specs.Entry.{values_in}
use Rattle.arrays.proofs.Bytes.{Bytes}
use Rattle.code.proofs.Vectors.Cut.{cut_length, cut_values, value_fits}
use Rattle.code.proofs.ValidSettings.{values_fit, sizes}
use Rattle.code.proofs.Vectors.Planes.{vector_of, values_back, same_equal}
use Rattle.repair.specs.Entry.{none_found, Done, DoneBy, repair_refusal, repair_by_refusal, RepairByAs, RepairBySays}
use Rattle.repair.specs.Again.{AgainSays, is_again, answer_after}
use Rattle.repair.specs.Promise.{ByOwnChecks}
use Rattle.repair.specs.declared.RepairAnswer.{RepairAnswer}
use Rattle.repair.proofs.Difference.ByOwnChecks.{by_own_checks}
use Rattle.grading.specs.Value.{blank, blanks}
use Rattle.grading.proofs.Value.{take_replicate}
use Rattle.counting.proofs.Placed.{cut_at}
use Rattle.record.specs.Frame.{checks_in}
use Rattle.record.specs.Record.{told_missing, told_none}
use Rattle.rounds.specs.Exchange.{Row}
use Rattle.rounds.specs.Promise.{NoMark}
use Rattle.rounds.specs.Steps.Senders.{told_of, RepairedAgain}
use Rattle.rounds.proofs.Rows.{Sized, checked_vector, no_mark}
use Rattle.record.proofs.Front.{cut_glued, cut_front}

-- a vector has room in its array
pub vector_fits : (n t w : ℕ) → settings_refusal (settings n t w) ≡ 0 → n * w ≤ 256
unfolding settings
vector_fits n t w e = let few = sizes (settings n t w) e in values_fit n w few.few_columns few.few_bytes

-- zeros are blanks
drop_replicate : {A : Type 0} (m n : ℕ) (x : A) → drop m (replicate (m + n) x) ≡ replicate n x
drop_replicate zero n x = ap (λ (k : ℕ). replicate k x) (let e : zero + n ≡ n = omega arith in e)
drop_replicate (suc m) n x = ap (λ (k : ℕ). drop (suc m) (replicate k x)) (let e : suc m + n ≡ suc (m + n) = omega arith in e) ∙ drop_replicate m n x

cut_zeros : (n w rest : ℕ) → cut n w (replicate (n * w + rest) 0) ≡ replicate n (replicate w 0)
unfolding cut
cut_zeros zero w rest = refl
cut_zeros (suc n) w rest =
    let e : suc n * w + rest ≡ w + (n * w + rest) = omega (arith, suc-mul n w) in
    rw e
    (ap₂ ◌∷◌ (take_replicate w (w + (n * w + rest)) 0 (omega arith)) (ap (cut n w) (drop_replicate w (n * w + rest) 0) ∙ cut_zeros n w rest))

pub zeros_blanks : (s : Settings) (many : ℕ) → s.n * value_size s ≤ many → values_in s s.n (replicate many 0) ≡ blanks s
unfolding values_in blanks blank
zeros_blanks s many h =
    ap (λ (k : ℕ). cut s.n (value_size s) (replicate k 0)) (let e : many ≡ s.n * value_size s + (many - s.n * value_size s) = omega arith in e)
    ∙ cut_zeros s.n (value_size s) (many - s.n * value_size s)

-- values cut from enough bytes
pub cut_sized : (s : Settings) (bs : List ℕ) → s.n * value_size s ≤ length bs → Sized s (values_in s s.n bs)
unfolding values_in
cut_sized s bs h =
    record {
      many = cut_length s.n (value_size s) bs;
      each = λ j l. ap length (cut_at s.n (value_size s) bs j l) ∙ length-take-le (value_size s) _ (let f = value_fits j s.n (value_size s) l in omega (arith, length-drop (j * value_size s) bs));
    }

-- what repair leaves in front of a row of blanks
module _ (s : Settings) (vs : List (List ℕ)) (x row : List ℕ) (empty : values_in s s.n row ≡ blanks s) where
  abbrev size : ℕ
  size = s.n * value_size s

  -- and what it tells: the places changed, or the mark
  done_row :
      (r m told : ℕ) (z : List ℕ) → (r ≡ 0 → told ≡ m) → ((r ≡ 0 → ⊥) → told ≡ told_none) → Done s vs (checks_in s x) r m (take size row) z →
      Row s vs (some x) (values_in s s.n (z ++ drop size row)) told
  unfolding Done Row values_in in_front none_found
  done_row r m told z e f (inl (done, (us, ds, repaired, count, written))) =
      let v = vector_of s us repaired.vector in
      let rest = drop (length (glued us)) (take size row) in
      let q : cut s.n (value_size s) (z ++ drop size row) ≡ us =
      ap (λ (bs : List ℕ). cut s.n (value_size s) (bs ++ drop size row)) written ∙ ap (cut s.n (value_size s)) (append_assoc (glued us) rest _)
      ∙ ap (λ (k : ℕ). cut k (value_size s) (glued us ++ (rest ++ drop size row))) (sym v.many) ∙ cut_glued (value_size s) us _ v.values in
      inl (rw q (ds, repaired, e done ∙ count))
  done_row r m told z e f (inr (none, count, no-repair, kept)) =
      inr (
        no-repair,
        ap (λ (bs : List ℕ). cut s.n (value_size s) (bs ++ drop size row)) kept ∙ ap (cut s.n (value_size s)) (take-append-drop size row) ∙ empty,
        f (λ g. omega arith),
      )

  -- the places changed are few
  done_few : (r m : ℕ) (o z : List ℕ) → settings_refusal s ≡ 0 → length vs ≡ s.n → Done s vs (checks_in s x) r m o z → m < told_missing
  unfolding Done NoMark checks_in values_in
  done_few r m o z fine e (inl (done, (us, ds, repaired, count, written))) =
      rw count (no_mark s vs (checks_in s x) us ds fine e (cut_length (check_count s) (value_size s) x)).0
  done_few r m o z fine e (inr (none, count, no-repair, kept)) = omega arith

-- repair is not refused
fine_by :
    (s : Settings) (v d c k : ℕ) → settings_refusal s ≡ 0 → v ≡ s.n * value_size s → d ≡ check_count s * value_size s → c ≡ check_count s * value_size s →
    s.n * value_size s ≤ k → repair_by_refusal s v d c k ≡ 0
unfolding repair_by_refusal repair_refusal
fine_by s v d c k fine e f g h =
    rw (
      fine,
      eq-eqb v (s.n * value_size s) e,
      eq-eqb c (check_count s * value_size s) g,
      le-ltb k (s.n * value_size s) h,
      eq-eqb d (check_count s * value_size s) f,
    )

received_checks : (s : Settings) (x : List ℕ) → check_count s * value_size s ≤ length x → Bytes x → are_checks s (checks_in s x) ≡ true
unfolding are_checks checks_in values_in
received_checks s x h b =
    and_intro (eq-eqb _ _ (cut_length (check_count s) (value_size s) x)) (values_back (value_size s) _ (cut_values (check_count s) (value_size s) x h b))

-- the row of a frame, whose checks are x
module _ (n t w size count : ℕ) (vector own x row : List ℕ) (fine : settings_refusal (settings n t w) ≡ 0) (many : size ≡ n * w) (few : count ≡ 2 * t * w)
    (long : size ≤ length vector) (own_long : count ≤ length own)
    (x_long : length x ≡ 2 * t * w) (x_bytes : Bytes x)
    (checked : has_checks (settings n t w) (values_in (settings n t w) n vector) (checks_in (settings n t w) (take (2 * t * w) own)) ≡ true)
    (row_long : size ≤ length row) (empty : values_in (settings n t w) n row ≡ blanks (settings n t w)) where
  abbrev s : Settings
  s = settings n t w

  module _ (r m : ℕ) (k z : List ℕ) (says : RepairBySays n t w (take size vector) (take count own) x r m k (take size row) z) where
    vector_fine : is_vector s (values_in s n vector) ≡ true
    unfolding settings value_size
    vector_fine = checked_vector s _ _ checked (cut_sized s vector (omega arith))

    checks_fine : are_checks s (checks_in s x) ≡ true
    unfolding settings check_count value_size
    checks_fine = received_checks s x (omega (arith, x_long)) x_bytes

    taken : RepairByAs 0 s (take (n * w) vector) (take (2 * t * w) own) x r m k (take (n * w) row) z
    unfolding RepairBySays settings check_count value_size
    taken =
        subst (λ (number : ℕ). RepairByAs number s (take (n * w) vector) (take (2 * t * w) own) x r m k (take (n * w) row) z)
        (fine_by s _ _ _ _ fine (length-take-le (n * w) vector (omega arith)) (length-take-le (2 * t * w) own (omega arith)) x_long
        (let l = length-take-le (n * w) row (omega arith) in omega arith)) (rw (many, few) at says)

    done : Done s (values_in s n vector) (checks_in s x) r m (take (n * w) row) z
    unfolding RepairByAs ByOwnChecks values_in checks_in settings check_count value_size
    done =
        (by_own_checks s _ _ _ r m k _ z vector_fine checked checks_fine
        (subst (λ (vs : List (List ℕ)). DoneBy s vs (checks_in s (take (2 * t * w) own)) (checks_in s x) r m (take (n * w) row) z) (cut_front n w vector) taken.0, taken.1)
        ).0

    pub repaired_row :
        (m < told_missing)
        × ((told : ℕ) → (r ≡ 0 → told ≡ m) → ((r ≡ 0 → ⊥) → told ≡ told_none) →
        Row s (values_in s n vector) (some x) (values_in s n (z ++ drop size row)) told)
    unfolding settings values_in value_size
    repaired_row = (
      done_few s (values_in s n vector) x row empty r m _ z fine (cut_length n w vector) done,
      λ told e f. rw many (done_row s (values_in s n vector) x row empty r m told z e f done),
    )

  -- the same where the last repair's checks are given
  module _ (ls z : List ℕ) where
    pub repaired_again :
        (answer : Option RepairAnswer) →
        ((last : RepairAnswer) → AgainSays n t w (take size vector) (take count own) ls x last (is_again answer) (answer_after last answer) (take size row) z) →
        RepairedAgain s (values_in s n vector) x ls answer row (z ++ drop size row)
    unfolding AgainSays RepairedAgain told_of settings check_count value_size
    repaired_again None says =
        let again = says (record { answer = 0; changed = 0; tried = [] }) in
        (sym (same_equal ls x again.0), ap (λ (bs : List ℕ). bs ++ drop size row) again.2 ∙ take-append-drop size row)
    repaired_again (Some a) says =
        let found = repaired_row a.answer a.changed a.tried z (says a).1 in (found.0, found.1 (told_of a) places mark)
      where
        places : a.answer ≡ 0 → told_of a ≡ a.changed
        places f = rw (eq-eqb a.answer 0 f) refl

        mark : (a.answer ≡ 0 → ⊥) → told_of a ≡ told_none
        mark f = rw (ne_eqb a.answer 0 f) refl
