-- The rounds of good columns. In round one each hears every other's own value. In a round of checks, if the vectors that good columns
-- code have every good column's own value, two of them differ at bad columns alone, so that what each sends is repaired to its vector by
-- any other, and changes at most as many places as there are bad columns: the good rows of each one's table are the good columns' vectors.
-- Rounds two and three are alike in this.
-- Assumes nothing.
use mathlib.Core.Path.{◌≡◌, refl, sym, ◌∙◌, ap, subst}
use mathlib.Core.Bool.{Bool, true, cond}
use mathlib.Core.List.{List, [], ◌∷◌}
use Prim.Native.Nat.{ℕ, zero, suc, ◌+◌, ◌-◌, ◌<◌, ◌≤◌}
use native.Mathlib.Omega.{arith}
use lib.Dec.{eqb}
use lib.ListN.{length, get_or}
use borrow.Author.Tests.{eq-eqb, ne_eqb}
use Rattle.code.specs.Settings.{Settings}
use Rattle.code.specs.Vector.{is_vector, has_checks, differ_values}
use Rattle.code.proofs.ValidSettings.{sizes}
use Rattle.grading.specs.Value.{Vector, Rows}
use Rattle.grading.proofs.Value.{entries_at}
use Rattle.record.specs.Frame.{operand_in, checks_in}
use Rattle.record.specs.Record.{Rec, told_missing, opened, counted}
use Rattle.rounds.specs.Exchange.{value_or_blank, heard_at, heard_vector, Table}
use Rattle.column.specs.Call.{Call, Operand}
use Rattle.gradecast.specs.Promise.{Among, Good, numbers, On, bad_count, FewTold}
use Rattle.grading.specs.Promise.{Carries}
use Rattle.grading.proofs.Agreement.{unlisted_le_t, differ_le_bad}
use Rattle.column.proofs.Frame.{frame_operand}
use Rattle.rounds.proofs.Rows.{Sized, row_alike, checked_vector, row_of_sender}
use Rattle.gradecast.proofs.Proper.{Proper}
use Rattle.gradecast.proofs.Walk.{Kept, kept, Closing, closing_of}
use Rattle.gradecast.proofs.Goods.{of_number, of_number_is, by_number}
use Rattle.gradecast.proofs.Handed.{Group, opens, numbered, one_or_two, proper, onward, last_on, got}

-- the two rounds of checks, and the vector that each is of
pub data CheckRound : Type 0 where
  second third : CheckRound

abbrev pub round_number : CheckRound → ℕ
round_number second = 2
round_number third = 3

abbrev pub vector_in : CheckRound → Rec → Vector
vector_in second r = r.found.heard
vector_in third r = r.found.agreed

abbrev pub said : CheckRound → Good → Vector
said c a = vector_in c a.last

low : (c : CheckRound) → 2 ≤ round_number c
low second = omega arith
low third = omega arith

high : (c : CheckRound) → round_number c ≤ 3
high second = omega arith
high third = omega arith

checks_sent : (c : CheckRound) (z : Rec) (x : List ℕ) → Operand (round_number c) z.who z.found x → has_checks z.who.settings (vector_in c z) (checks_in z.who.settings x) ≡ true
unfolding Operand
checks_sent second z x e = e
checks_sent third z x e = e

opened_one : (s : Settings) (run : ℕ) (a : Good) → (opened s a.number run a.own).round ≡ 1
unfolding opened
opened_one s run a = refl

value_in_slot : (r : Rec) (k : ℕ) → 1 ≤ k → k ≤ r.who.settings.n → get_or (heard_vector r) (k - 1) [] ≡ heard_at r k
unfolding heard_vector
value_in_slot r k l h =
    entries_at r.who.settings.n 1 (k - 1) (heard_at r) [] (omega arith) ∙ ap (heard_at r) (let e : 1 + (k - 1) ≡ k = omega arith in e)

-- what stands inside a list is the same whatever stands for what is not there
get_or_inside : (xs : List ℕ) (i d e : ℕ) → i < length xs → get_or xs i d ≡ get_or xs i e
get_or_inside [] i d e h = absurd (omega arith)
get_or_inside (x ∷ xs) zero d e h = refl
get_or_inside (x ∷ xs) (suc i) d e h = get_or_inside xs i d e (omega arith)

module _ {s : Settings} {run : ℕ} {gs : List Good} (group : Group s run gs) where
  -- at most t columns are bad
  bad_le_t : bad_count s gs ≤ s.t
  unfolding bad_count
  bad_le_t = unlisted_le_t s (numbers gs) (numbered group) s.n refl

  -- where a good column closed a round that is past
  pub closed : (a : Good) → Among a gs → (m : ℕ) → 1 ≤ m → m < a.last.round → Closing (opened s a.number run a.own) a.last a.calls [] m
  closed a i m l h = closing_of m (last_on group a i) (omega (arith, opened_one s run a)) h

  -- V of a good column has every good column's own value
  pub heard_own : (a b : Good) → Among a gs → Among b gs → 2 ≤ a.last.round → get_or a.last.found.heard (b.number - 1) [] ≡ b.own
  unfolding heard_at value_or_blank Operand
  heard_own a b i j h =
      ap (λ (v : Vector). get_or v (b.number - 1) []) ((kept x.from).heard (omega (arith, x.way.round, x.in_round)) ∙ x.way.one x.in_round)
      ∙ value_in_slot c b.number (opens group b j).low (rw p.settings (opens group b j).high)
      ∙ one_or_two group a b i j itself another
    where
      x : Closing (opened s a.number run a.own) a.last a.calls [] 1
      x = closed a i 1 (omega arith) h

      c : Rec
      c = x.before

      p : Proper s a.number run a.own c
      p = proper group a i x.to

      itself : a ≡ b → cond (eqb b.number c.who.number) c.who.own (value_or_blank c.who.settings (counted c b.number)) ≡ b.own
      itself e =
          ap (λ (q : Bool). cond q c.who.own (value_or_blank c.who.settings (counted c b.number)))
          (eq-eqb b.number c.who.number (ap (λ (g : Good). g.number) (sym e) ∙ sym p.number))
          ∙ p.own ∙ ap (λ (g : Good). g.own) e

      another : (a.number ≡ b.number → ⊥) → cond (eqb b.number c.who.number) c.who.own (value_or_blank c.who.settings (counted c b.number)) ≡ b.own
      another d =
          let g = got group a b i j d 1 x (omega arith) (omega arith) in
          ap (λ (q : Bool). cond q c.who.own (value_or_blank c.who.settings (counted c b.number)))
          (ne_eqb b.number c.who.number (λ e. d (sym p.number ∙ sym e)))
          ∙ ap (value_or_blank c.who.settings) g.stands ∙ g.operand ∙ (proper group b j g.on).own

  -- both rounds of checks: V, or Y, of the good columns, all of which have it
  module _ (c : CheckRound) (reached : (a : Good) → Among a gs → round_number c ≤ a.last.round) where
    said_on : {z : Rec} {rest : List Call} (a : Good) → Among a gs → On s run a z rest → round_number c ≤ z.round → vector_in c z ≡ said c a
    said_on a i p h = sym (stay c (kept (onward group a i p)) h)
      where
        stay : (c : CheckRound) {r q : Rec} → Kept r q → round_number c ≤ r.round → vector_in c q ≡ vector_in c r
        stay second k h = k.heard h
        stay third k h = k.agreed h

    said_sized : (a : Good) → Among a gs → Sized s (said c a)
    said_sized a i = go c (reached a i)
      where
        p : Proper s a.number run a.own a.last
        p = proper group a i (last_on group a i)

        go : (c : CheckRound) → round_number c ≤ a.last.round → Sized s (vector_in c a.last)
        go second h = p.heard h
        go third h = p.agreed h

    said_checks : {z : Rec} {rest : List Call} (a : Good) → Among a gs → On s run a z rest → z.round ≡ round_number c → (x : List ℕ) → Operand (round_number c) z.who z.found x →
        has_checks s (said c a) (checks_in s x) ≡ true
    said_checks {z} a i p e x f =
        subst (λ (v : Vector). has_checks s v (checks_in s x) ≡ true) (said_on a i p (omega (arith, e)))
        (subst (λ (u : Settings). has_checks u (vector_in c z) (checks_in u x) ≡ true) (proper group a i p).settings (checks_sent c z x f))

    -- what a good column sends to another is the checks of a vector
    said_vector : (a b : Good) → Among a gs → Among b gs → (a.number ≡ b.number → ⊥) → is_vector s (said c a) ≡ true
    said_vector a b i j d =
        let sent = (group.conditions.fair b a j i (λ e. d (sym e))).sends (round_number c) (omega (arith, low c)) (high c) in
        let f = sent.1 in
        let operand = subst (λ (m : ℕ). Operand m f.at.who f.at.found (operand_in sent.0)) f.in_round (frame_operand f.at sent.0 f.frame) in
        checked_vector s (said c a) _ (said_checks a i f.on f.in_round (operand_in sent.0) operand) (said_sized a i)

    module _ (own : (a b : Good) → Among a gs → Among b gs → get_or (said c a) (b.number - 1) [] ≡ b.own) where
      said_near : (a b : Good) → Among a gs → Among b gs → differ_values (said c a) (said c b) ≤ bad_count s gs
      unfolding bad_count
      said_near a b i j =
          differ_le_bad s (numbers gs) (numbered group) (said c a) (said c b) (said_sized a i).many (said_sized b j).many
          (by_number (λ m. get_or (said c a) (m - 1) [] ≡ get_or (said c b) (m - 1) []) gs (λ x k. own a x i k ∙ sym (own b x j k)))

      -- a good column's table, where it closes that round
      module _ (a : Good) (i : Among a gs) (x : Closing (opened s a.number run a.own) a.last a.calls [] (round_number c)) (rows : Rows) (told : List ℕ)
          (t : Table x.before (vector_in c x.before) rows told) where
        p : Proper s a.number run a.own x.before
        p = proper group a i x.to

        mine : vector_in c x.before ≡ said c a
        mine = said_on a i x.to (omega (arith, x.in_round))

        -- a good column's row is its vector, and tells at most as many places as there are bad columns
        row_said : (b : Good) → Among b gs → (get_or rows (b.number - 1) [] ≡ said c b) × (get_or told (b.number - 1) 0 ≤ bad_count s gs)
        row_said b j = one_or_two group a b i j itself another
          where
            itself : a ≡ b → (get_or rows (b.number - 1) [] ≡ said c b) × (get_or told (b.number - 1) 0 ≤ bad_count s gs)
            itself e =
                let own = ap (λ (k : ℕ). get_or told (k - 1) 0) (sym p.number) ∙ t.own_told in
                rw (← e) (ap (λ (k : ℕ). get_or rows (k - 1) []) (sym p.number) ∙ t.own_row ∙ mine, omega arith)

            another : (a.number ≡ b.number → ⊥) → (get_or rows (b.number - 1) [] ≡ said c b) × (get_or told (b.number - 1) 0 ≤ bad_count s gs)
            another d =
                let g = got group a b i j d (round_number c) x (omega (arith, low c)) (high c) in
                let row = t.others b.number (opens group b j).low (rw p.settings (opens group b j).high) (λ e. d (sym p.number ∙ sym e)) in
                let near = said_near a b i j in
                let bad = bad_le_t in
                let sent =
                row_of_sender s (said c a) (said c b) g.x (get_or rows (b.number - 1) []) (get_or told (b.number - 1) 0) group.fine (said_vector a b i j d)
                (said_vector b a j i (λ e. d (sym e))) (said_checks b j g.on g.in_round g.x g.operand) (omega arith)
                (row_alike (get_or rows (b.number - 1) []) (get_or told (b.number - 1) 0) p.settings mine g.stands row) in
                (sent.0, omega (arith, sent.1))

        pub carries : Carries s (numbers gs) (of_number [] (said c) gs) rows
        carries =
            record {
              many = t.many ∙ ap (λ (u : Settings). u.n) p.settings;
              row =
                  by_number (λ m. get_or rows (m - 1) [] ≡ of_number [] (said c) gs m) gs
                  (λ b j. (row_said b j).0 ∙ sym (of_number_is [] (said c) group.conditions.different j));
            }

        told_inside : (b : Good) → Among b gs → get_or told (b.number - 1) told_missing ≡ get_or told (b.number - 1) 0
        told_inside b j =
            get_or_inside told (b.number - 1) told_missing 0
            (omega (arith, t.told_many ∙ ap (λ (u : Settings). u.n) p.settings, (opens group b j).low, (opens group b j).high))

        pub tells : (b : Good) → Among b gs → FewTold (bad_count s gs) told a.number b.number
        tells b j =
            let same = told_inside b j in
            let few = (row_said b j).1 in
            let bad = bad_le_t in
            let t_few = sizes s group.fine in
            record {
              itself = told_inside a i ∙ ap (λ (k : ℕ). get_or told (k - 1) 0) (sym p.number) ∙ t.own_told;
              not_missing = λ e. absurd (omega arith);
              not_none = λ e. absurd (omega arith);
              few = omega arith;
            }
