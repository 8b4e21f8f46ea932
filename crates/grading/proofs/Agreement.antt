-- The counting half of the exchange, over any tables in which a good sender's row is that sender's vector. The other rows are at most
-- t, so that two such tables' counts of a value differ by at most t. A value in Y was found n − t times; two different ones would be
-- found n − 2t times in one table each, and that is more than its rows: good columns' values in Y are blank or equal. Of the values
-- in the last table one that is found t + 1 times stands in a good row; found 2t + 1 times by one column, it is found t + 1 times by
-- any. A good column's own value stands in all good rows, n − t at least. Assumes nothing.
use mathlib.Core.Path.{◌≡◌, refl, sym, ◌∙◌, ap}
use mathlib.Core.Bool.{Bool, true, false}
use mathlib.Core.List.{List, []}
use Prim.Native.Nat.{ℕ, ◌+◌, ◌-◌, ◌<◌, ◌≤◌}
use native.Mathlib.Omega.{arith}
use lib.ListN.{length, get_or}
use Rattle.code.specs.Settings.{Settings}
use Rattle.code.specs.Vector.{same, differ_values}
use Rattle.code.proofs.Vectors.Planes.{same_equal}
use Rattle.grading.specs.Value.{Value, Vector, Rows, is_blank}
use Rattle.grading.specs.Held.{held_as}
use Rattle.grading.specs.Count.{found, most, agreed_least, sure_least, likely_least, agreed_at, held_of, held_at}
use Rattle.grading.proofs.Value.{differ_of_not_same}
use Rattle.grading.specs.Promise.{member, unlisted, apart, Numbered, Carries, Second, Graded, GradesAgree}
use Rattle.grading.proofs.Count.{unlisted_few, found_near, found_all, found_at, found_two, differ_few}
use Rattle.grading.proofs.Most.{most_found, most_of_half}
use Rattle.grading.proofs.Grade.{agreed_found, agreed_of_often, held_sure, confidence_le, held_some, held_full, apart_le_one}

module _ (s : Settings) (ns : List ℕ) (good : Numbered s ns) where
  pub unlisted_le_t : (k : ℕ) → k ≡ s.n → unlisted ns k 1 ≤ s.t
  unlisted_le_t k e = rw e (omega (arith, unlisted_few s.n ns good.inside good.different, good.many))

  -- vectors with the same values at good places differ at bad ones alone, in at most t
  pub differ_le_bad :
      (us vs : Vector) → length us ≡ s.n → length vs ≡ s.n → ((m : ℕ) → member m ns ≡ true → get_or us (m - 1) [] ≡ get_or vs (m - 1) []) →
      differ_values us vs ≤ unlisted ns s.n 1
  differ_le_bad us vs e f h = rw (← e) (differ_few ns us vs 1 (e ∙ sym f) (λ m k g l i. at m k g i))
    where
      at : (m k : ℕ) → m ≡ 1 + k → member m ns ≡ true → get_or us k [] ≡ get_or vs k []
      at m k g i = let back : k ≡ m - 1 = omega arith in rw back (h m i)

  module _ (said : ℕ → Vector) where
    row_at : (rows : Rows) → Carries s ns said rows → (m k : ℕ) → m ≡ 1 + k → member m ns ≡ true → get_or rows k [] ≡ said m
    row_at rows x m k e i = ap (λ (p : ℕ). get_or rows p []) (let back : k ≡ m - 1 = omega arith in back) ∙ x.row m i

    found_close : (xs ys : Rows) → Carries s ns said xs → Carries s ns said ys → (j : ℕ) (v : Value) → found j v xs ≤ found j v ys + s.t
    found_close xs ys x y j v =
        omega (
          arith,
          found_near ns j v xs ys 1 (x.many ∙ sym y.many)
              (λ m k e l i. ap (λ (row : Vector). get_or row j []) (row_at xs x m k e i ∙ sym (row_at ys y m k e i))),
          unlisted_le_t (length xs) x.many,
        )

    found_shared : (xs : Rows) → Carries s ns said xs → (j : ℕ) (v : Value) → ((m : ℕ) → member m ns ≡ true → get_or (said m) j [] ≡ v) → s.n ≤ found j v xs + s.t
    found_shared xs x j v h =
        omega (
          arith,
          found_all ns j v xs 1 (λ m k e l i. ap (λ (row : Vector). get_or row j []) (row_at xs x m k e i) ∙ h m i),
          unlisted_le_t (length xs) x.many,
          x.many,
        )

    found_said : (xs : Rows) → Carries s ns said xs → (j : ℕ) (v : Value) → likely_least s ≤ found j v xs → (m : ℕ) × (member m ns ≡ true) × (get_or (said m) j [] ≡ v)
    unfolding likely_least
    found_said xs x j v h =
        let a = found_at ns j v xs 1 (omega (arith, unlisted_le_t (length xs) x.many)) in
        (a.slot, a.listed, ap (λ (row : Vector). get_or row j []) (sym (row_at xs x a.slot a.place a.at a.listed)) ∙ a.entry)

    -- what all good columns said stands in Y, and in the result at confidence 2
    pub agreed_shared :
        (xs : Rows) → Carries s ns said xs → (j : ℕ) (v : Value) → is_blank v ≡ false → ((m : ℕ) → member m ns ≡ true → get_or (said m) j [] ≡ v) →
        agreed_at s xs j ≡ v
    agreed_shared xs x j v e h = agreed_of_often s xs j v good.enough x.many e (found_shared xs x j v h)

    pub held_shared :
        (xs : Rows) → Carries s ns said xs → (j : ℕ) (v : Value) → is_blank v ≡ false → ((m : ℕ) → member m ns ≡ true → get_or (said m) j [] ≡ v) →
        held_at s xs j ≡ held_as v 2
    unfolding held_at sure_least
    held_shared xs x j v e h =
        let often = found_shared xs x j v h in
        ap (λ (u : Value). held_of s u (found j u xs)) (most_of_half s j xs v e (omega (arith, x.many, good.enough)))
        ∙ held_full s v (found j v xs) e (omega (arith, good.enough))

    -- two good columns' values in Y are blank or equal
    pub agreed_equal :
        (xs ys : Rows) → Carries s ns said xs → Carries s ns said ys → (j : ℕ) → is_blank (agreed_at s xs j) ≡ false → is_blank (agreed_at s ys j) ≡ false →
        agreed_at s xs j ≡ agreed_at s ys j
    unfolding agreed_least
    agreed_equal xs ys x y j e f = go (same (agreed_at s xs j) (agreed_at s ys j)) refl
      where
        go : (q : Bool) → same (agreed_at s xs j) (agreed_at s ys j) ≡ q → agreed_at s xs j ≡ agreed_at s ys j
        go true g = same_equal _ _ g
        go false g =
            absurd
            (omega (
              arith,
              agreed_found s xs j e,
              agreed_found s ys j f,
              found_close xs ys x y j (agreed_at s xs j),
              found_two j (agreed_at s xs j) (agreed_at s ys j) ys (differ_of_not_same _ _ g),
              y.many,
              good.enough,
            ))

    -- confidence 2 with one good column is confidence 1 at least with any other
    held_two_one : (xs ys : Rows) → Carries s ns said xs → Carries s ns said ys → (j : ℕ) → (held_at s xs j).confidence ≡ 2 → 1 ≤ (held_at s ys j).confidence
    unfolding held_at likely_least sure_least
    held_two_one xs ys x y j e =
        let m : Value = most s j xs in
        let a = held_sure s m (found j m xs) (omega (arith, e)) in
        let often : likely_least s ≤ found j m ys = omega (arith, a.often_at_two e, found_close xs ys x y j m) in
        let b = most_found s j ys m a.filled (omega arith) in
        held_some s _ _ b.filled (omega (arith, b.often))

    pub held_near : (xs ys : Rows) → Carries s ns said xs → Carries s ns said ys → (j : ℕ) → apart (held_at s xs j).confidence (held_at s ys j).confidence ≤ 1
    held_near xs ys x y j = apart_le_one _ _ (le_two xs) (le_two ys) (held_two_one xs ys x y j) (held_two_one ys xs y x j)
      where
        le_two : (zs : Rows) → (held_at s zs j).confidence ≤ 2
        le_two zs = unfold held_at in confidence_le s (most s j zs) _

    -- a value above confidence 0 was said by a good column
    pub held_said :
        (xs : Rows) → Carries s ns said xs → (j : ℕ) → 1 ≤ (held_at s xs j).confidence →
        (m : ℕ) × (member m ns ≡ true) × (get_or (said m) j [] ≡ (held_at s xs j).value) × (is_blank (held_at s xs j).value ≡ false)
    unfolding held_at
    held_said xs x j h =
        let a = held_sure s (most s j xs) (found j (most s j xs) xs) h in
        let b = found_said xs x j (most s j xs) a.often in
        (b.0, b.1, b.2 ∙ sym a.is, ap is_blank a.is ∙ a.filled)

module _ (s : Settings) (ns : List ℕ) (good : Numbered s ns) (own : ℕ → Value) (heard agreed : ℕ → Vector) (two : Second s ns own heard agreed) where
  pub agreed_own : (m : ℕ) → member m ns ≡ true → (k : ℕ) → member k ns ≡ true → get_or (agreed m) (k - 1) [] ≡ own k
  agreed_own m i k j =
      let x = two.agreed_from m i in
      let inside = good.inside k j in
      x.entry (k - 1) (omega (arith, inside.0, inside.1))
      ∙ agreed_shared s ns good heard x.rows x.carries (k - 1) (own k) (two.filled k j) (λ p l. two.heard_own p l k j)

  pub graded : (xs ys : Rows) → Carries s ns agreed xs → Carries s ns agreed ys → Graded s ns own xs ys
  graded xs ys x y =
      record {
        near = λ j l. held_near s ns good agreed xs ys x y j;
        values = values;
        own_held = λ m i. held_shared s ns good agreed xs x (m - 1) (own m) (two.filled m i) (λ k j. agreed_own k j m i);
      }
    where
      values : (j : ℕ) → j < s.n → 1 ≤ (held_at s xs j).confidence → 1 ≤ (held_at s ys j).confidence → (held_at s xs j).value ≡ (held_at s ys j).value
      values j l h k =
          let a = held_said s ns good agreed xs x j h in
          let b = held_said s ns good agreed ys y j k in
          let u = two.agreed_from a.0 a.1 in
          let v = two.agreed_from b.0 b.1 in
          let u_is = sym (u.entry j l) ∙ a.2 in
          let v_is = sym (v.entry j l) ∙ b.2 in
          sym u_is
          ∙ agreed_equal s ns good heard u.rows v.rows u.carries v.carries j (ap is_blank u_is ∙ a.3) (ap is_blank v_is ∙ b.3)
          ∙ v_is

pub grades_agree : GradesAgree
unfolding GradesAgree
grades_agree s ns own heard agreed xs ys good two x y = graded s ns good own heard agreed two xs ys x y
