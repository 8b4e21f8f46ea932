-- The cases of 01 that concern a column alone: n = 4, t = 1 opens, n = 3, t = 1 is refused 2, and a column by itself, n = 1, t = 0, with
-- own value 7, holds 7 at confidence 2 after any list that has finished, by demand 3; three closings finish it. Assumes nothing.
use mathlib.Core.Path.{◌≡◌, refl, sym}
use mathlib.Core.Bool.{false, cond}
use mathlib.Core.List.{List, [], ◌∷◌}
use Prim.Native.Nat.{ℕ, zero, suc, ◌≤◌}
use native.Mathlib.Omega.{arith}
use lib.Dec.{leb}
use lib.ListN.{length}
use borrow.Author.Tests.{eq-eqb, le-leb}
use Rattle.code.specs.Settings.{settings, settings_refusal, value_size}
use Rattle.code.specs.Vector.{same}
use Rattle.grading.specs.Value.{Value, Vector, blank, is_blank, bytes_before, entries}
use Rattle.grading.specs.Held.{held_as}
use Rattle.grading.specs.Count.{agreed_least, sure_least, found, better_by, better, next_best, most_from, most, agreed_at, agreed_vector, held_of, held_at, held_list}
use Rattle.record.specs.Record.{Rec, who_as, found_as, opened, next_round}
use Rattle.record.specs.Refusal.{line, first_of, number_refusal, size_refusal, blank_refusal, round_refusal, open_refusal, record_refusal, close_refusal}
use Rattle.rounds.specs.Exchange.{Table, heard_at, heard_vector, Closed}
use Rattle.column.specs.Call.{Call, closing, Leads, AfterClose, Run, no_call, one_call}
use Rattle.grading.specs.Promise.{member, all_different}
use Rattle.gradecast.specs.Promise.{Good, numbers, Among, first, other, Ran, holds, Gradecast}
use Rattle.gradecast.proofs.Gradecast.{gradecast}

-- n = 3, t = 1
pub three_refused : (w k : ℕ) (v : Value) → open_refusal (settings 3 1 w) k v ≡ 2
unfolding open_refusal first_of settings settings_refusal
three_refused w k v = refl

-- n = 4, t = 1
pub four_opens : (w k : ℕ) (v : Value) → 1 ≤ w → w ≤ 8 → 1 ≤ k → k ≤ 4 → length v ≡ w → is_blank v ≡ false → open_refusal (settings 4 1 w) k v ≡ 0
unfolding open_refusal first_of line settings settings_refusal number_refusal size_refusal blank_refusal
four_opens w k v a b c d e f =
    rw (le-leb 1 w a, le-leb w 8 b) (rw (le-leb 1 k c, le-leb k 4 d) (rw (eq-eqb (length v) w e) (rw f refl)))

-- n = 1, t = 0, own 7
only_among : {g : Good} (P : Good → Type 0) (a : Good) → P g → Among a (g ∷ []) → P a
only_among P a p (first gs) = p
only_among {g = g} P a p (other _ _ x3) = elim x3 [ ]

pub alone_holds :
    (run : ℕ) (cs : List Call) (last : Rec) → Run (opened (settings 1 0 1) 1 run (7 ∷ [])) cs last → last.round ≡ 4 →
    holds (record { number = 1; own = 7 ∷ []; calls = cs; last = last }) 1 ≡ held_as (7 ∷ []) 2
unfolding Gradecast settings settings_refusal numbers member all_different open_refusal first_of line number_refusal size_refusal blank_refusal is_blank
alone_holds run cs last runs e =
    (gradecast (settings 1 0 1) run (g ∷ []) g g g
    (record {
      different = refl;
      enough = omega arith;
      ran = λ a i. only_among (Ran (settings 1 0 1) run) a (record { opens = refl; leads = runs }) i;
      fair = λ a b i j d. absurd (d (only_among (λ x. x.number ≡ b.number) a (only_among (λ y. 1 ≡ y.number) b refl j) i));
    })
    (first []) (first []) (first []) e e).own_value.0
  where
    g : Good
    g = record { number = 1; own = 7 ∷ []; calls = cs; last = last }

-- its records, each closing with the table of its own row
unfoldable pub alone : (m run : ℕ) → Rec
alone zero run = opened (settings 1 0 1) 1 run (7 ∷ [])
alone (suc m) run =
    next_round (alone m run)
    (found_as ((7 ∷ []) ∷ []) (cond (leb 1 m) ((7 ∷ []) ∷ []) []) (cond (leb 2 m) (held_as (7 ∷ []) 2 ∷ []) []) (cond (leb 1 m) (0 ∷ []) [])
    (cond (leb 2 m) (0 ∷ []) []))

own_table : (r : Rec) (v : Vector) → r.who.settings.n ≡ 1 → r.who.number ≡ 1 → Table r v (v ∷ []) (0 ∷ [])
own_table r v e f =
    record { many = sym e; told_many = sym e; own_row = rw f refl; own_told = rw f refl; others = λ k a b other. absurd (other (let one : k ≡ r.who.number = omega arith in one)) }

pub alone_finishes : (run : ℕ) → Run (opened (settings 1 0 1) 1 run (7 ∷ [])) (closing ∷ closing ∷ closing ∷ []) (alone 3 run)
unfolding alone Leads AfterClose Closed close_refusal record_refusal first_of line settings settings_refusal number_refusal blank_refusal round_refusal is_blank opened who_as found_as next_round heard_vector heard_at entries agreed_vector agreed_at held_list held_at held_of held_as most most_from next_best better better_by found same blank value_size bytes_before agreed_least sure_least
alone_finishes run =
    one_call (alone 0 run) (alone 1 run) (alone 3 run) closing _ refl
    (one_call (alone 1 run) (alone 2 run) (alone 3 run) closing _ (((7 ∷ []) ∷ []) ∷ [], 0 ∷ [], own_table (alone 1 run) ((7 ∷ []) ∷ []) refl refl, refl)
    (one_call (alone 2 run) (alone 3 run) (alone 3 run) closing _ (((7 ∷ []) ∷ []) ∷ [], 0 ∷ [], own_table (alone 2 run) ((7 ∷ []) ∷ []) refl refl, refl) (no_call (alone 3 run))))

pub alone_ends_in_four : (run : ℕ) → (alone 3 run).round ≡ 4
unfolding alone next_round opened
alone_ends_in_four run = refl
