-- Levelling of the calls as built. A good column that has finished was not refused its result, and by the agreement of good columns it holds
-- every good own value at confidence 2; with w = 4 no line of the level's refusals applies. So all good columns' levels are halfway by one and
-- the same good height, and the numbers alone say the rest. Assumes nothing.
use mathlib.Core.Path.{◌≡◌, refl, sym, ◌∙◌, ap}
use mathlib.Core.Bool.{Bool, true, false, not}
use mathlib.Core.List.{List, [], map}
use mathlib.Core.Logic.{◌≢◌}
use Prim.Native.Nat.{ℕ, zero, suc, ◌-◌, ◌<◌}
use native.Mathlib.Omega.{arith}
use lib.Dec.{eqb}
use lib.IntN.{ℤ}
use lib.ListN.{length, get_or}
use borrow.Author.Tests.{eq-eqb, eqb-true, eqb-false}
use Rattle.arrays.proofs.Bytes.{Bytes, byte_at}
use Rattle.code.specs.Settings.{Settings, settings}
use Rattle.code.proofs.Tests.{bytes_of}
use Rattle.grading.specs.Value.{Value}
use Rattle.grading.specs.Held.{Held, held_as}
use Rattle.grading.specs.Promise.{member, Numbered}
use Rattle.record.specs.Record.{who_as}
use Rattle.record.specs.View.{settings_of, who_in, view}
use Rattle.record.proofs.Refusal.{line_passed, first_of_next, first_of_last}
use Rattle.gradecast.specs.Promise.{Good, Among, numbers, none_held, Conditions, holds, Gradecast}
use Rattle.gradecast.specs.Built.{Built, BuiltConditions, defined}
use Rattle.gradecast.proofs.Goods.{among_map, each_map, of_number, of_number_is, by_number}
use Rattle.gradecast.proofs.Handed.{group_of, numbered}
use Rattle.gradecast.proofs.Gradecast.{gradecast}
use Rattle.gradecast.proofs.Built.{conditions_follow, same_settings, round_four, asks_fine}
use Rattle.level.specs.Level.{bits, height, Short, level_of, correction_of, width_refusal, blank_columns_refusal, level_refusal}
use Rattle.level.specs.declared.answer.Level.{Level}
use Rattle.level.proofs.Integers.{signed_short}
use Rattle.level.proofs.Left.{held_columns}
use Rattle.levelling.specs.Spread.{lowest, highest, spread}
use Rattle.levelling.specs.Promise.{Between, Together, StayInside, ComeNear, Repeated, LevelsOut, ShortLevelsOut, StaysBetween}
use Rattle.levelling.specs.Built.{own_heights, LevelAnswers, BuiltLevelling, AtLevel, BuiltRepeated, BuiltLevelled, BuiltLevelsOut, BuiltShortLevelsOut, BuiltStaysBetween}
use Rattle.levelling.proofs.Ends.{lowest_under, highest_over, among_some}
use Rattle.levelling.proofs.Slots.{Shows}
use Rattle.levelling.proofs.Half.{Halfway, halfway_over, halfway_under, halfway_near}
use Rattle.levelling.proofs.Left.{mid, not_refused, halfway}
use Rattle.levelling.proofs.Steps.{levels_out, short_levels_out, stays_between}

module _ (s : Settings) (run : ℕ) (bs : List Built) (c : BuiltConditions s run bs) where
  -- the good columns as defined, their numbers, and their own values by number
  goods : List Good
  goods = map defined bs

  follows : Conditions s run goods
  unfolding goods
  follows = conditions_follow s run bs c

  ns : List ℕ
  ns = numbers goods

  own : ℕ → Value
  own = of_number [] (λ a. a.own) goods

  -- a good column's own height is between the lowest and the highest of them
  own_between : (m : ℕ) → member m ns ≡ true → Between (own_heights bs) (height (own m))
  unfolding ns own goods own_heights defined
  own_between =
      by_number (λ m. Between (own_heights bs) (height (own m))) goods
      (each_map defined (λ (a : Good). Between (own_heights bs) (height (own a.number))) bs
      (λ b i.
      (let same = ap height (of_number_is [] (λ a. a.own) follows.different (among_map defined i)) in
      let here = among_map (λ b. height b.own) i in
      (rw same (lowest_under here), rw same (highest_over here)))))

  -- one that has finished
  module _ (g : Built) (i : Among g bs) (finished : g.last.round ≡ 4) where
    held : List Held
    held = (view g.last).found.held

    numbers_fine : Numbered s ns
    unfolding ns goods
    numbers_fine = numbered (group_of follows (defined g) (among_map defined i))

    room : length held ≡ s.n
    unfolding held settings_of settings
    room = held_columns g.last (asks_fine s run g (c.ran g i) finished) ∙ ap (λ (u : Settings). u.n) (same_settings s run g (c.ran g i))

    own_held : (m : ℕ) → member m ns ≡ true → get_or held (m - 1) none_held ≡ held_as (own m) 2
    unfolding ns own goods held Gradecast holds defined
    own_held =
        by_number (λ m. get_or held (m - 1) none_held ≡ held_as (own m) 2) goods
        (λ x j.
        (gradecast s run goods (defined g) (defined g) x follows (among_map defined i) (among_map defined i) j (round_four s run g (c.ran g i) finished)
        (round_four s run g (c.ran g i) finished)).own_value.0
        ∙ ap (λ (v : Value). held_as v 2) (sym (of_number_is [] (λ a. a.own) follows.different j)))

    shows : Shows ns own held 1
    shows m k e l f = let back : k ≡ m - 1 = omega arith in rw back (own_held m f)

    level_halfway : Halfway (lowest (own_heights bs)) (mid s ns own) (highest (own_heights bs)) (level_of s held)
    level_halfway =
        halfway s ns own numbers_fine held room shows (lowest (own_heights bs)) (highest (own_heights bs)) (λ m e. (own_between m e).0)
        (λ m e. (own_between m e).1)

    -- with w = 4 no line of the level's refusals applies
    module _ (four : s.w ≡ 4) where
      settings_same : (view g.last).who.settings ≡ s
      unfolding view who_in who_as
      settings_same = same_settings s run g (c.ran g i)

      level_fine : level_refusal (view g.last) ≡ 0
      unfolding level_refusal width_refusal held
      level_fine =
          first_of_next _ (asks_fine s run g (c.ran g i) finished)
          (first_of_next _ (line_passed 21 _ (ap not (eq-eqb _ 4 (ap (λ (u : Settings). u.w) settings_same ∙ four))))
          (first_of_last _
          ∙ ap (λ (u : Settings). blank_columns_refusal u held) settings_same
          ∙ not_refused s ns own numbers_fine held room shows))

      level_same : level_of (view g.last).who.settings (view g.last).found.held ≡ level_of s held
      unfolding held
      level_same = ap (λ (u : Settings). level_of u held) settings_same

      -- what `level` answers to it
      module _ (p : Level) (says : LevelAnswers g p) where
        answer_fine : p.answer ≡ 0
        answer_fine = says.answered ∙ level_fine

        answer_halfway : Halfway (lowest (own_heights bs)) (mid s ns own) (highest (own_heights bs)) p.level
        answer_halfway = rw (says.level_done answer_fine ∙ level_same) level_halfway

      -- it has an answer: the level of what it holds
      pub level_answer : (p : Level) × LevelAnswers g p × (p.level ≡ level_of s (view g.last).found.held)
      unfolding held
      level_answer = (
        record { answer = 0; level = level_of s held; correction = correction_of (view g.last) },
        record {
          answered = sym level_fine;
          level_done = λ z. sym level_same;
          correction_done = λ z. refl;
          level_refused = λ z. absurd (z refl);
          correction_refused = λ z. absurd (z refl);
        },
        refl,
      )

pub built_levelling : BuiltLevelling
unfolding BuiltLevelling spread
built_levelling s run bs g h c four i j e f p q says also =
    let y = answer_halfway s run bs c g i e four p says in
    let z = answer_halfway s run bs c h j f four q also in (
      answer_fine s run bs c g i e four p says,
      answer_fine s run bs c h j f four q also,
      record {
        between = ((halfway_over y, halfway_under y), (halfway_over z, halfway_under z));
        near = (halfway_near y z, halfway_near z y);
      },
    )

-- two heights that are levels
pub levels_together :
    (s : Settings) (run : ℕ) (bs : List Built) (y z : ℤ) → BuiltConditions s run bs → s.w ≡ 4 → AtLevel bs y → AtLevel bs z →
    Together (own_heights bs) y z
unfolding BuiltLevelling
levels_together s run bs y z c four a b =
    rw (a.moved, b.moved)
    (built_levelling s run bs a.column b.column c four a.good b.good a.finished b.finished a.answer b.answer a.says b.says).2

pub built_levelled : BuiltLevelled
unfolding BuiltLevelled own_heights
built_levelled s run old new m = (λ z i. (both z z i i).between.0, λ y z i j. (both y z i j).near)
  where
    both : (y z : ℤ) → Among y (own_heights new) → Among z (own_heights new) → Together (own_heights old) y z
    both y z i j =
        each_map (λ b. height b.own) (λ (y : ℤ). Together (own_heights old) y z) new
        (λ a k.
        each_map (λ b. height b.own) (λ (z : ℤ). Together (own_heights old) (height a.own) z) new
        (λ b l. levels_together s run old _ _ m.conditions m.four (m.at_level a k) (m.at_level b l)) z j)
        y i

-- repeated exchanges
module _ (s : ℕ → Settings) (run : ℕ → ℕ) (bs : ℕ → List Built) where
  heights : ℕ → List ℤ
  heights j = own_heights (bs j)

  come_near : (k : ℕ) → BuiltRepeated k s run bs → Repeated k ComeNear heights
  unfolding heights BuiltLevelled
  come_near k m j h = (built_levelled (s j) (run j) (bs j) (bs (suc j)) (m j h)).1

  stay_inside : (k : ℕ) → BuiltRepeated k s run bs → Repeated k StayInside heights
  unfolding heights BuiltLevelled
  stay_inside k m j h = (built_levelled (s j) (run j) (bs j) (bs (suc j)) (m j h)).0

  -- whoever stands at a level was not alone before
  some_before : (k : ℕ) → BuiltRepeated k s run bs → (b : Built) → Among b (bs k) → (j : ℕ) → j < k → 0 < length (heights j)
  unfolding heights own_heights
  some_before zero m b i j h = absurd (omega arith)
  some_before (suc k) m b i j h =
      let last = (m k (omega arith)).at_level b i in
      go (eqb j k) refl (among_some (among_map (λ b. height b.own) last.good))
      (some_before k (λ l low. m l (omega arith)) last.column last.good j)
    where
      go : (q : Bool) → eqb j k ≡ q → 0 < length (own_heights (bs k)) → (j < k → 0 < length (own_heights (bs j))) → 0 < length (own_heights (bs j))
      go true e here before = rw (eqb-true j k e) here
      go false e here before = before (let n : j ≢ k = eqb-false j k e in omega arith)

pub built_levels_out : BuiltLevelsOut
unfolding BuiltLevelsOut LevelsOut heights
built_levels_out k m s run bs moved h = levels_out k m (heights s run bs) (come_near s run bs k moved) h

pub built_short_levels_out : BuiltShortLevelsOut
unfolding BuiltShortLevelsOut ShortLevelsOut heights own_heights height bits
built_short_levels_out s run bs bytes moved =
    short_levels_out (heights s run bs)
    (each_map (λ b. height b.own) Short (bs 0) (λ b i. height_short b.own (bytes_of b.own (bytes b i)))) (come_near s run bs 32 moved)
  where
    height_short : (v : Value) → Bytes v → Short (height v)
    height_short v b = signed_short (bits v) (omega (arith, byte_at v 0 b, byte_at v 1 b, byte_at v 2 b, byte_at v 3 b))

pub built_stays_between : BuiltStaysBetween
unfolding BuiltStaysBetween StaysBetween heights own_heights
built_stays_between k s run bs moved b i =
    stays_between k (heights s run bs) (stay_inside s run bs k moved) (λ j low h. some_before s run bs k moved b i j h) (height b.own)
    (among_map (λ b. height b.own) i)
