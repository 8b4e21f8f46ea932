-- Every starred case holds: antt works each of them out, by tests with doublings where powers would take too long. A repair is shown by
-- the codeword near, whose checks need not be those received; "none" by a locator that tells no error; and planes side by side by each of
-- them alone, as one of values of one byte. Assumes nothing.
use mathlib.Core.Path.{◌≡◌, refl, ◌∙◌, ap, ap₂}
use mathlib.Core.Bool.{true, false, cond}
use mathlib.Core.List.{List, [], ◌∷◌, ◌++◌}
use mathlib.Core.Logic.{inl, inr}
use mathlib.Core.Option.{Option, some}
use Prim.Native.Nat.{ℕ, zero, suc, ◌+◌, ◌≤◌, ◌<◌}
use native.Mathlib.Omega.{arith}
use lib.Dec.{ltb, leb, eqb}
use lib.IntN.{ℤ}
use lib.ListN.{length, get_or, drop, replicate}
use borrow.Author.Tests.{eqb-true, leb-true}
use Rattle.arrays.proofs.Zeros.{zeros_at}
use Rattle.field.specs.Field.{plus, xor_from, doubled, times, times_from, power, inverse}
use Rattle.field.proofs.Power.{doublings, power_doublings}
use Rattle.code.specs.Settings.{Settings, settings, settings_refusal, check_count, value_size}
use Rattle.code.specs.Polynomial.{root, eval, added, scaled, times_factor, generator}
use Rattle.code.specs.Plane.{byte_list}
use Rattle.code.specs.Vector.{plane, each_long, is_vector, are_checks, same, differ_values, cut}
use Rattle.code.specs.Repair.{Near, Repaired, changed_places, NoRepair, last_difference, Tried}
use Rattle.code.specs.Entry.{values_in}
use Rattle.code.proofs.Codewords.Quick.{quick_summed, quick_zero_from, quick_word, quick_planes_from, quick_checks, checks_quick}
use Rattle.code.proofs.Tests.{all_from}
use Rattle.code.proofs.Vectors.Planes.{Checked, checks_back, checked_of, plane_differ}
use Rattle.locator.specs.Locator.{massey, start, changed, longer, as_long, against, raised, quotient, value}
use Rattle.locator.specs.Errors.{place_exponent}
use Rattle.record.specs.Frame.{checks_in}
use Rattle.record.specs.Record.{Rec, who_as, found_as, taken_at, counted, next_round}
use Rattle.rounds.specs.Exchange.{Closed}
use Rattle.rounds.proofs.Rows.{closed_unique}
use Rattle.gradecast.specs.Promise.{holds}
use Rattle.gradecast.proofs.Cases.{three_refused, four_opens, alone_holds, alone_finishes, alone_ends_in_four}
use Rattle.exchanges.proofs.Testing.NoneNear.{quick_sum, right_at, plane_none, none_from, quick_none, none_quick}
use Rattle.exchanges.proofs.Testing.Table.{row_of, told_of, row_test, table_row, table_of, told_at, told_by, table_test, table_tested}
use Rattle.grading.specs.Value.{Vector, is_blank, entries}
use Rattle.grading.specs.Held.{Held, held_as}
use Rattle.record.proofs.Refusal.{line_passed, first_of_next, first_of_last}
use Rattle.level.specs.Level.{bits, signed, height, confident, placed, ascending, blank_columns, dropped, without_ends, left, halved, middle, level_of, width_refusal, blank_columns_refusal, level_refusal}
use Rattle.starred_cases.proofs.Size.{near_sized, tried_sized}
use Rattle.starred_cases.specs.Cases.{product, generator_is, checks_are, repaired_is, opening, alone_ends, none_near, planes_tried, told_in_two, level_is, StarredCases, starred, AllHold, Alone, Finishes, in_round_two, Holds, single, held_bytes, held_blank}

-- the first two roots, by doublings, and the generator by them
root_first : root 0 ≡ 225
unfolding root doublings doubled plus xor_from
root_first = power_doublings 120 ∙ refl

root_second : root 1 ≡ 69
unfolding root doublings doubled plus xor_from
root_second = power_doublings 121 ∙ refl

factors : times_factor 69 (times_factor 225 (1 ∷ [])) ≡ 102 ∷ 164 ∷ 1 ∷ []
unfolding times_factor added scaled times times_from doubled plus xor_from
factors = refl

generator_case : Holds (generator_is 2 (102 ∷ 164 ∷ 1 ∷ []))
unfolding Holds generator
generator_case = ap₂ (λ (a b : ℕ). times_factor b (times_factor a (1 ∷ []))) root_first root_second ∙ factors

product_case : (a b c : ℕ) → times a b ≡ c → Holds (product a b c)
unfolding Holds
product_case a b c e = e

checks_case :
    (n t : ℕ) (vs cs : List ℕ) → quick_checks (settings n t 1) (single vs) (single cs) ≡ true → Holds (checks_are n t vs cs)
unfolding Holds
checks_case n t vs cs e = checks_quick (settings n t 1) (single vs) (single cs) ∙ e

-- bytes as values of one byte have themselves for their plane
plane_single : (bs : List ℕ) → plane 0 (single bs) ≡ bs
unfolding plane single
plane_single [] = refl
plane_single (b ∷ bs) = ap (◌∷◌ b) (plane_single bs)

-- a codeword us, ds that is near
repaired_case :
    (n t : ℕ) (vs cs us ds : List ℕ) (m k : ℕ) → is_vector (settings n t 1) (single us) ≡ true → quick_checks (settings n t 1) (single us) (single ds) ≡ true →
    changed_places (single vs) (single cs) (single us) (single ds) ≡ m → m ≤ (settings n t 1).t → k ≡ last_difference (vs ++ cs) (us ++ ds) →
    Holds (repaired_is n t vs cs us m k)
unfolding Holds Tried changed_places value_size settings
repaired_case n t vs cs us ds m k u e d l last =
    ((single ds, repair, d), inl (us, ds, rw (plane_single vs, plane_single cs, plane_single us, plane_single ds) at (repair.planes 0 (omega arith)), last))
  where
    s : Settings
    s = settings n t 1

    checked : Checked s (single us) (single ds)
    checked = checked_of s (single us) (single ds) (checks_quick s (single us) (single ds) ∙ e)

    near : (p : ℕ) → p < value_size s → Near s (plane p (single vs)) (plane p (single cs)) (plane p (single us)) (plane p (single ds))
    near p h =
        record {
          codeword = checked.planes p h;
          within = omega (arith, d, l, plane_differ p (single vs) (single us), plane_differ p (single cs) (single ds));
        }

    repair : Repaired s (single vs) (single cs) (single us) (single ds)
    repair = record { vector = u; checks = checks_back s (single ds) checked.many checked.values; planes = near }

-- "none" for values of one byte is none near their bytes
none_single : (n t : ℕ) (vs cs : List ℕ) → NoRepair (settings n t 1) (single vs) (single cs) → (us ds : List ℕ) → Near (settings n t 1) vs cs us ds → ⊥
unfolding value_size settings
none_single n t vs cs none us ds near =
    let one : none.at_plane ≡ 0 = omega (arith, none.inside) in none.none_near us ds (rw (one, plane_single vs, plane_single cs) near)

-- checks that repair nothing
none_case :
    (n t : ℕ) (vs cs : List ℕ) (k : ℕ) → settings_refusal (settings n t 1) ≡ 0 → quick_none (settings n t 1) (single vs) (single cs) ≡ true →
    k ≡ n + check_count (settings n t 1) → Holds (none_near n t vs cs k)
unfolding Holds Tried settings
none_case n t vs cs k r e all =
    let none = none_quick (settings n t 1) (single vs) (single cs) r e in (none, inr (none_single n t vs cs none, all))

-- two planes that are worked out by themselves: none near the first, and a codeword near the second
planes_case :
    (n t : ℕ) (vs cs : List (List ℕ)) (us : List ℕ) (m k l : ℕ) → Holds (none_near n t (plane 0 vs) (plane 0 cs) k) →
    Holds (repaired_is n t (plane 1 vs) (plane 1 cs) us m l) → Holds (planes_tried n t 2 vs cs (k ∷ l ∷ replicate 6 0))
unfolding Holds value_size settings
planes_case n t vs cs us m k l first second = (none, record { long = refl; each = each; others = others })
  where
    none : NoRepair (settings n t 2) vs cs
    none =
        record {
          at_plane = 0;
          inside = omega arith;
          none_near = λ xs ys near. none_single n t (plane 0 vs) (plane 0 cs) first.0 xs ys (near_sized n t 2 1 (plane 0 vs) (plane 0 cs) xs ys near);
        }

    each : (p : ℕ) → p < 2 → Tried (settings n t 2) (plane p vs) (plane p cs) (get_or (k ∷ l ∷ replicate 6 0) p 0)
    each zero h = tried_sized n t 1 2 (plane 0 vs) (plane 0 cs) k first.1
    each (suc zero) h = tried_sized n t 1 2 (plane 1 vs) (plane 1 cs) l second.1
    each (suc (suc p)) h = absurd (omega arith)

    others : (p : ℕ) → 2 ≤ p → get_or (k ∷ l ∷ replicate 6 0) p 0 ≡ 0
    others zero h = absurd (omega arith)
    others (suc zero) h = absurd (omega arith)
    others (suc (suc p)) h = zeros_at 6 p

-- the rows that columns 2, 3 and 4 give column 1 of the exchange of 004
rows_in_two : ℕ → Option Vector
rows_in_two k =
    some
    (single
    (cond (eqb k 2) (241 ∷ 86 ∷ 35 ∷ 35 ∷ []) (cond (eqb k 3) (241 ∷ 86 ∷ 35 ∷ 40 ∷ []) (241 ∷ 49 ∷ 35 ∷ 35 ∷ []))))

-- a table of round two that passes the test, and no other
told_case :
    (n t k : ℕ) (vs : List ℕ) (fs : List (Option (List ℕ))) (ms : List ℕ) (claims : ℕ → Option Vector) → settings_refusal (settings n t 1) ≡ 0 →
    leb 1 k ≡ true → leb k n ≡ true → eqb (length (single vs)) n ≡ true → table_test (in_round_two n t k vs fs) (single vs) claims ≡ true →
    told_by (in_round_two n t k vs fs) (single vs) claims ≡ ms → Holds (told_in_two n t k vs fs ms)
unfolding Holds Closed in_round_two who_as found_as next_round settings
told_case n t k vs fs ms claims fine low high many tested told =
    (first, λ q c. ap (λ (z : Rec). z.found.told_two) (closed_unique 2 r q first.0 fine (leb-true 1 k low) (λ e. eqb-true _ _ many) (λ e. absurd (omega arith)) c first.1) ∙ told)
  where
    r : Rec
    r = in_round_two n t k vs fs

    first : (q : Rec) × Closed 2 r q
    first = (_, (_, _, table_tested r (single vs) claims fine (leb-true 1 k low) (leb-true k n high) tested, refl))

opens_case : Holds (opening 4 1 1 (7 ∷ []) 0)
unfolding Holds is_blank
opens_case = four_opens 1 1 (7 ∷ []) (omega arith) (omega arith) (omega arith) (omega arith) refl refl

refused_case : Holds (opening 3 1 1 (7 ∷ []) 2)
unfolding Holds
refused_case = three_refused 1 1 (7 ∷ [])

alone_case : Holds (alone_ends (7 ∷ []) 2)
unfolding Holds Finishes Alone holds
alone_case run = ((_, _, (alone_finishes run, alone_ends_in_four run)), λ calls last a. alone_holds run calls last a.0 a.1)

-- not too many are blank, and the heights left give the level
level_case :
    (n t : ℕ) (held : List Held) (hs : List ℤ) (l : ℤ) → confident held ≡ hs → ltb t (blank_columns held) ≡ false → level_of (settings n t 4) held ≡ l →
    Holds (level_is n t held hs l)
unfolding Holds level_refusal width_refusal blank_columns_refusal settings
level_case n t held hs l heights few level = (
  heights,
  level,
  λ r s h asked. first_of_next _ asked (first_of_next _ (line_passed 21 _ (rw s refl)) (first_of_last _ ∙ line_passed 22 _ (rw (s, h, few) refl))),
)

pub starred_cases : StarredCases
unfolding StarredCases starred AllHold single changed_places times times_from doubled plus xor_from doublings settings check_count value_size last_difference quick_checks quick_planes_from
    quick_word quick_zero_from quick_summed quick_none none_from plane_none right_at quick_sum all_from massey start changed longer as_long
    against raised quotient value place_exponent eval added scaled power inverse are_checks each_long byte_list plane settings_refusal is_vector same differ_values
    held_bytes held_blank held_as bits signed height confident placed ascending blank_columns dropped without_ends left halved middle level_of
    rows_in_two in_round_two who_as found_as taken_at counted checks_in values_in cut row_of told_of row_test table_row table_of told_at told_by table_test entries
starred_cases = (product_case _ _ _ refl, (generator_case, (checks_case _ _ _ _ refl, (checks_case _ _ _ _ refl, (checks_case _ _ _ _ refl, repair_cases)))))
  where
    third_wrong : Holds (repaired_is 4 1 (241 ∷ 86 ∷ 35 ∷ 35 ∷ []) (0 ∷ 136 ∷ []) (241 ∷ 86 ∷ 129 ∷ 35 ∷ []) 1 3)
    third_wrong = repaired_case _ _ _ _ _ (0 ∷ 136 ∷ []) _ _ refl refl refl (omega arith) refl

    nothing_near : Holds (none_near 4 1 (241 ∷ 86 ∷ 35 ∷ 35 ∷ []) (22 ∷ 77 ∷ []) 6)
    nothing_near = none_case _ _ _ _ _ refl refl refl

    column_cases : AllHold (drop 13 starred)
    column_cases = (
      told_case _ _ _ _ _ _ rows_in_two refl refl refl refl refl refl,
      (
        opens_case,
        (
          refused_case,
          (
            alone_case,
            (
              level_case _ _ _ _ _ refl refl refl,
              (level_case _ _ _ _ _ refl refl refl, tt),
            ),
          ),
        ),
      ),
    )

    tried_cases : AllHold (drop 8 starred)
    tried_cases = (
      repaired_case _ _ _ _ _ (39 ∷ 78 ∷ []) _ _ refl refl refl (omega arith) refl,
      (
        repaired_case _ _ _ _ _ (39 ∷ 78 ∷ []) _ _ refl refl refl (omega arith) refl,
        (
          repaired_case _ _ _ _ _ (16 ∷ 65 ∷ 58 ∷ 215 ∷ []) _ _ refl refl refl (omega arith) refl,
          (
            repaired_case _ _ _ _ _ (16 ∷ 65 ∷ 58 ∷ 215 ∷ []) _ _ refl refl refl (omega arith) refl,
            (planes_case _ _ _ _ _ _ _ _ nothing_near third_wrong, column_cases),
          ),
        ),
      ),
    )

    repair_cases : AllHold (drop 5 starred)
    repair_cases = (third_wrong, (repaired_case _ _ _ _ _ (22 ∷ 61 ∷ []) _ _ refl refl refl (omega arith) refl, (nothing_near, tried_cases)))
