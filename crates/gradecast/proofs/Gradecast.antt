-- Demand 3. Every good column hears every good column's own value, so X of each has the good columns' V as rows. By the counting half Y
-- of each then has every good column's own value, so Z of each has the good columns' Y as rows, and the counting half gives
-- confidences at most one apart, equal values above 0, and own values at confidence 2. What both tables told of good columns is few.
-- Assumes nothing.
use mathlib.Core.Path.{◌≡◌, sym, ◌∙◌, ap, subst}
use mathlib.Core.Bool.{true, false}
use mathlib.Core.List.{List, []}
use Prim.Native.Nat.{ℕ, ◌+◌, ◌-◌, ◌<◌, ◌≤◌}
use native.Mathlib.Omega.{arith}
use lib.ListN.{get_or}
use Rattle.code.specs.Settings.{Settings}
use Rattle.grading.specs.Value.{Value, Vector, Rows, is_blank}
use Rattle.grading.specs.Held.{Held, held_as}
use Rattle.grading.specs.Count.{agreed_at, agreed_vector, held_at, held_list}
use Rattle.grading.proofs.Value.{entries_at}
use Rattle.grading.specs.Promise.{member, Carries, AgreedFrom, Second, Graded, GradesAgree}
use Rattle.gradecast.specs.Promise.{Among, Good, numbers, none_held, holds, bad_count, FewTold, GoodTold, Agree, Gradecast}
use Rattle.grading.proofs.Agreement.{agreed_own, grades_agree}
use Rattle.gradecast.proofs.Walk.{kept}
use Rattle.gradecast.proofs.Goods.{among_member, of_number, of_number_is, by_number}
use Rattle.gradecast.proofs.Handed.{Group, group_of, opens, numbered, one_or_two, proper, onward}
use Rattle.gradecast.proofs.Rounds.{second, third, said, closed, heard_own, carries, tells}

agreed_entry : (s : Settings) (rows : Rows) (j : ℕ) → j < s.n → get_or (agreed_vector s rows) j [] ≡ agreed_at s rows j
unfolding agreed_vector
agreed_entry s rows j h = entries_at s.n 0 j (agreed_at s rows) [] h ∙ ap (agreed_at s rows) (let e : 0 + j ≡ j = omega arith in e)

held_entry : (s : Settings) (rows : Rows) (j : ℕ) → j < s.n → get_or (held_list s rows) j none_held ≡ held_at s rows j
unfolding held_list
held_entry s rows j h = entries_at s.n 0 j (held_at s rows) none_held h ∙ ap (held_at s rows) (let e : 0 + j ≡ j = omega arith in e)

-- what the good columns have under their numbers: own values, V, Y
abbrev owns : List Good → ℕ → Value
owns gs = of_number [] (λ a. a.own) gs

abbrev heards : List Good → ℕ → Vector
heards gs = of_number [] (said second) gs

abbrev agreeds : List Good → ℕ → Vector
agreeds gs = of_number [] (said third) gs

-- where one has finished, all have reached round three: each has sent its frame of that round
pub all_reached : {s : Settings} {run : ℕ} {gs : List Good} → Group s run gs → (g : Good) → Among g gs → g.last.round ≡ 4 → (a : Good) → Among a gs → 3 ≤ a.last.round
all_reached group g i e a j =
    one_or_two group g a i j (λ f. (let finished : a.last.round ≡ 4 = rw f at e in omega arith))
    (λ d. (let sent = (group.conditions.fair g a i j d).sends 3 (omega arith) (omega arith) in omega (arith, (kept (onward group a j sent.1.on)).up, sent.1.in_round)))

module _ {s : Settings} {run : ℕ} {gs : List Good} (group : Group s run gs) (reached : (a : Good) → Among a gs → 3 ≤ a.last.round) where
  heard_owns : (a b : Good) → Among a gs → Among b gs → get_or (said second a) (b.number - 1) [] ≡ b.own
  heard_owns a b i j = heard_own group a b i j (omega (arith, reached a i))

  agreed_from : (a : Good) → Among a gs → AgreedFrom s (numbers gs) (heards gs) a.last.found.agreed
  agreed_from a i =
      let x = closed group a i 2 (omega arith) (reached a i) in
      let y = x.way.two x.in_round in
      record {
        rows = y.0;
        carries = carries group second (λ b j. (omega (arith, reached b j))) heard_owns a i x y.0 _ y.1;
        entry =
            λ j h.
            ap (λ (v : Vector). get_or v j []) ((kept x.from).agreed (omega (arith, x.way.round, x.in_round)) ∙ y.2)
            ∙ ap (λ (u : Settings). get_or (agreed_vector u y.0) j []) (proper group a i x.to).settings ∙ agreed_entry s y.0 j h;
      }

  after_two : Second s (numbers gs) (owns gs) (heards gs) (agreeds gs)
  after_two =
      record {
        filled = by_number (λ m. is_blank (owns gs m) ≡ false) gs (λ a i. ap is_blank (own_of i) ∙ (opens group a i).filled);
        heard_own =
            by_number (λ m. (k : ℕ) → member k (numbers gs) ≡ true → get_or (heards gs m) (k - 1) [] ≡ owns gs k) gs
            (λ a i. by_number (λ k. get_or (heards gs a.number) (k - 1) [] ≡ owns gs k) gs
            (λ b j. ap (λ (v : Vector). get_or v (b.number - 1) []) (of_number_is [] (said second) group.conditions.different i) ∙ heard_owns a b i j ∙ sym (own_of j)));
        agreed_from =
            by_number (λ m. AgreedFrom s (numbers gs) (heards gs) (agreeds gs m)) gs
            (λ a i. subst (AgreedFrom s (numbers gs) (heards gs)) (sym (of_number_is [] (said third) group.conditions.different i)) (agreed_from a i));
      }
    where
      own_of : {a : Good} → Among a gs → owns gs a.number ≡ a.own
      own_of i = of_number_is [] (λ a. a.own) group.conditions.different i

  agreed_owns : (a b : Good) → Among a gs → Among b gs → get_or (said third a) (b.number - 1) [] ≡ b.own
  agreed_owns a b i j =
      sym (ap (λ (v : Vector). get_or v (b.number - 1) []) (of_number_is [] (said third) group.conditions.different i))
      ∙ agreed_own s (numbers gs) (numbered group) (owns gs) (heards gs) (agreeds gs) after_two a.number (among_member i) b.number (among_member j)
      ∙ of_number_is [] (λ x. x.own) group.conditions.different j

  -- what a good column holds, from its table of round three
  record HeldFrom (g : Good) : Type 0 where
    rows : Rows
    table : Carries s (numbers gs) (agreeds gs) rows
    entry : (k : ℕ) → 1 ≤ k → k ≤ s.n → holds g k ≡ held_at s rows (k - 1)

  held_from : (g : Good) → Among g gs → g.last.round ≡ 4 → HeldFrom g
  unfolding holds
  held_from g i e =
      let x = closed group g i 3 (omega arith) (omega arith) in
      let y = x.way.three x.in_round in
      record {
        rows = y.0;
        table = carries group third reached agreed_owns g i x y.0 _ y.1;
        entry =
            λ k l h.
            ap (λ (v : List Held). get_or v (k - 1) none_held) ((kept x.from).held (omega (arith, x.way.round, x.in_round)) ∙ y.2)
            ∙ ap (λ (u : Settings). get_or (held_list u y.0) (k - 1) none_held) (proper group g i x.to).settings
            ∙ held_entry s y.0 (k - 1) (omega arith);
      }

  agree : (g h x : Good) → Among g gs → Among h gs → Among x gs → g.last.round ≡ 4 → h.last.round ≡ 4 →
      Agree s.n (holds g) (holds h) x.number x.own
  unfolding GradesAgree
  agree g h x i j l e f =
      record {
        near = λ k u v. rw (g_table.entry k u v, h_table.entry k u v) (both.near (k - 1) (omega arith));
        values =
            λ k u v p q.
            (let a = g_table.entry k u v in
            let b = h_table.entry k u v in
            ap (λ (y : Held). y.value) a ∙ both.values (k - 1) (omega arith) (rw a at p) (rw b at q) ∙ sym (ap (λ (y : Held). y.value) b));
        own_value = (own_of g_table (both.own_held x.number (among_member l)), own_of h_table (back.own_held x.number (among_member l)));
      }
    where
      g_table : HeldFrom g
      g_table = held_from g i e

      h_table : HeldFrom h
      h_table = held_from h j f

      tables : (xs ys : Rows) → Carries s (numbers gs) (agreeds gs) xs → Carries s (numbers gs) (agreeds gs) ys → Graded s (numbers gs) (owns gs) xs ys
      tables xs ys = grades_agree s (numbers gs) (owns gs) (heards gs) (agreeds gs) xs ys (numbered group) after_two

      both : Graded s (numbers gs) (owns gs) g_table.rows h_table.rows
      both = tables g_table.rows h_table.rows g_table.table h_table.table

      back : Graded s (numbers gs) (owns gs) h_table.rows g_table.rows
      back = tables h_table.rows g_table.rows h_table.table g_table.table

      own_of : {a : Good} (t : HeldFrom a) → held_at s t.rows (x.number - 1) ≡ held_as (owns gs x.number) 2 → holds a x.number ≡ held_as x.own 2
      own_of t q =
          t.entry x.number (opens group x l).low (opens group x l).high ∙ q
          ∙ ap (λ (v : Value). held_as v 2) (of_number_is [] (λ y. y.own) group.conditions.different l)

  -- what its tables of rounds two and three told
  few_told :
      (g x : Good) → Among g gs → Among x gs → g.last.round ≡ 4 →
      FewTold (bad_count s gs) g.last.found.told_two g.number x.number
      × FewTold (bad_count s gs) g.last.found.told_three g.number x.number
  few_told g x i l e =
      let v = closed group g i 2 (omega arith) (omega arith) in
      let y = v.way.two v.in_round in
      let w = closed group g i 3 (omega arith) (omega arith) in
      let z = w.way.three w.in_round in (
        rw ((kept v.from).two (omega (arith, v.way.round, v.in_round)))
            (tells group second (λ b j. (omega (arith, reached b j))) heard_owns g i v y.0 _ y.1 x l),
        rw ((kept w.from).three (omega (arith, w.way.round, w.in_round))) (tells group third reached agreed_owns g i w z.0 _ z.1 x l),
      )

pub good_told : GoodTold
unfolding GoodTold
good_told s run gs g x c i l e = let group = group_of c g i in few_told group (all_reached group g i e) g x i l e

pub gradecast : Gradecast
unfolding Gradecast
gradecast s run gs g h x c i j l e f = let group = group_of c g i in agree group (all_reached group g i e) g h x i j l e f
