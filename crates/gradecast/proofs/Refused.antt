-- Whose frames were refused, over lists of calls. By induction over the list each count is the number of the answers that are a frame's fault,
-- or its top, and below their tops the counts add up to all of them. Assumes nothing.
use mathlib.Core.Path.{◌≡◌, refl, sym, ◌∙◌, ap, subst}
use mathlib.Core.Bool.{Bool, true, false, cond, ◌&&◌}
use mathlib.Core.List.{List, [], ◌∷◌}
use mathlib.Core.Logic.{◌⊎◌, inl, inr}
use Prim.Native.Nat.{ℕ, zero, suc, ◌+◌, ◌-◌, ◌≤◌, ◌<◌, min}
use native.Mathlib.Nat.{zero-add}
use native.Mathlib.Omega.{arith}
use lib.Dec.{eqb, ltb}
use lib.ListN.{length, get_or, set, replicate}
use lib.Seq.{set-get_or}
use borrow.Author.Tests.{eqb-true, eqb-false, ltb-false, lt-ltb, le-ltb}
use Rattle.code.specs.Settings.{settings}
use Rattle.code.specs.Size.{most_columns}
use Rattle.record.specs.Record.{who_as, count_top, raised, count_at, one_more}
use Rattle.record.specs.Refusal.{frame_fault}
use Rattle.record.specs.View.{settings_of, who_in, view}
use Rattle.record.specs.Stored.{identity, opened_column}
use Rattle.record.specs.declared.Identity.{Identity}
use Rattle.record.specs.declared.Column.{Column}
use Rattle.record.proofs.FrameFaults.{Neighbour}
use Rattle.record.proofs.View.{count_there}
use Rattle.column.specs.Call.{Call}
use Rattle.gradecast.specs.Built.{BuiltRun, no_step, one_step}
use Rattle.gradecast.specs.Refused.{faults, hands_in, faults_of, sum, refused_of, NoneAtTop, RefusedCounted, ShortBelowTop, TopStays}
use Rattle.gradecast.proofs.Counting.{Counting, keeps, raises, step_counting, step_who, Counts, elsewhere, step_count, step_counts}

-- one count
top_more : (q : Bool) (m rest : ℕ) → m ≤ count_top → min (cond q (raised m) m + rest) count_top ≡ min (m + (cond q 1 0 + rest)) count_top
unfolding raised
top_more false m rest h = omega arith
top_more true m rest h = go (ltb m count_top) refl
  where
    go : (q : Bool) → ltb m count_top ≡ q → min (cond q (suc m) m + rest) count_top ≡ min (m + (1 + rest)) count_top
    go true e = omega arith
    go false e = omega (arith, ltb-false m count_top e)

run_count :
    {c e : Column} {xs : List Call} {answers : List ℕ} → BuiltRun c xs answers e → Counts c → (k : ℕ) →
    refused_of e k ≡ min (refused_of c k + faults_of k xs answers) count_top
unfolding faults_of
run_count (no_step c) counts k = omega (arith, counts.fit k)
run_count (one_step c d e x xs a answers step rest) counts k =
    let counting = step_counting step in
    run_count rest (step_counts counting counts) k
    ∙ ap (λ (m : ℕ). min (m + faults_of k xs answers) count_top) (step_count counting counts k)
    ∙ top_more (hands_in k x && frame_fault a) (refused_of c k) (faults_of k xs answers) (counts.fit k)

-- the sum: a count that is below its top was so before
sum_set : (cs : List ℕ) (i v : ℕ) → i < length cs → sum (set cs i v) + get_or cs i 0 ≡ sum cs + v
unfolding sum
sum_set [] i v h = absurd (omega arith)
sum_set (c ∷ cs) zero v h = omega arith
sum_set (c ∷ cs) (suc i) v h = omega (arith, sum_set cs i v (omega arith))

sum_more : (cs : List ℕ) (k : ℕ) → 1 ≤ k → k ≤ length cs → count_at cs k < count_top → sum (one_more cs k) ≡ sum cs + 1
unfolding one_more raised
sum_more cs k low high below =
    let one : raised (count_at cs k) ≡ count_at cs k + 1 = rw (lt-ltb _ _ below) (omega arith) in
    let added = sum_set cs (k - 1) (raised (count_at cs k)) (omega arith) in
    omega (arith, one, added, count_there cs k low)

step_sum :
    {c d : Column} {x : Call} {a : ℕ} → Counting c d x a → Counts c → ((k : ℕ) → Neighbour (view c) k → refused_of c k < count_top) →
    sum d.refused ≡ sum c.refused + cond (frame_fault a) 1 0
step_sum {c} (keeps x a fine same w) counts below = rw (fine, same) (omega arith)
step_sum {c} (raises j a bs fault neighbour same w) counts below =
    let high : j ≤ length c.refused = omega (arith, neighbour.high, neighbour.few, counts.long) in
    rw (fault, same) (sum_more c.refused j neighbour.low high (below j neighbour))

below_before :
    {c e : Column} {xs : List Call} {answers : List ℕ} → BuiltRun c xs answers e → Counts c → (k : ℕ) → refused_of e k < count_top →
    refused_of c k < count_top
below_before run counts k below = omega (arith, run_count run counts k)

run_sum :
    {c e : Column} {xs : List Call} {answers : List ℕ} → BuiltRun c xs answers e → Counts c → NoneAtTop c.who.n e →
    sum e.refused ≡ sum c.refused + faults answers
unfolding faults view who_in who_as settings_of settings
run_sum (no_step c) counts below = omega arith
run_sum (one_step c d e x xs a answers step rest) counts below =
    let counting = step_counting step in
    let more = run_sum rest (step_counts counting counts) (subst (λ (i : Identity). NoneAtTop i.n e) (sym (step_who counting)) below) in
    let here =
    step_sum counting counts
    (λ k neighbour. below_before (one_step c d e x xs a answers step rest) counts k (below k neighbour.low neighbour.high)) in
    omega (arith, more, here)

-- the count of a slot that is no neighbour's
abbrev Nobody : Identity → (slot : ℕ) → Type 0
Nobody i k = (k ≡ i.number) ⊎ (i.n < k)

step_nobody : {c d : Column} {x : Call} {a : ℕ} → Counting c d x a → (k : ℕ) → Nobody c.who k → refused_of d k ≡ refused_of c k
unfolding view who_in who_as settings_of settings
step_nobody (keeps x a fine e w) k nobody = ap (λ (cs : List ℕ). count_at cs k) e
step_nobody {c} (raises j a bs fault neighbour e w) k nobody =
    ap (λ (cs : List ℕ). count_at cs k) e ∙ elsewhere c.refused j k neighbour.low (apart nobody)
  where
    apart : Nobody c.who k → j ≡ k → ⊥
    apart (inl own) same = neighbour.other (same ∙ own)
    apart (inr above) same = omega (arith, neighbour.high)

run_nobody :
    {c e : Column} {xs : List Call} {answers : List ℕ} → BuiltRun c xs answers e → (k : ℕ) → Nobody c.who k → refused_of e k ≡ refused_of c k
run_nobody (no_step c) k nobody = refl
run_nobody (one_step c d e x xs a answers step rest) k nobody =
    let counting = step_counting step in
    run_nobody rest k (subst (λ (i : Identity). Nobody i k) (sym (step_who counting)) nobody) ∙ step_nobody counting k nobody

-- a count at its top
top_kept : (cs : List ℕ) (j k : ℕ) → 1 ≤ j → count_at cs k ≡ count_top → count_at (one_more cs j) k ≡ count_top
unfolding one_more raised
top_kept cs j k low top = go (eqb j k) refl
  where
    go : (q : Bool) → eqb j k ≡ q → count_at (one_more cs j) k ≡ count_top
    go true e =
        let here : count_at cs j ≡ count_top = rw (eqb-true j k e) top in
        rw (le-ltb (count_at cs j) count_top (omega (arith, here)), count_there cs j low, set-get_or cs (j - 1) 0) top
    go false e = elsewhere cs j k low (eqb-false j k e) ∙ top

step_top : {c d : Column} {x : Call} {a : ℕ} → Counting c d x a → (k : ℕ) → refused_of c k ≡ count_top → refused_of d k ≡ count_top
step_top (keeps x a fine e w) k top = ap (λ (cs : List ℕ). count_at cs k) e ∙ top
step_top {c} (raises j a bs fault neighbour e w) k top = ap (λ (cs : List ℕ). count_at cs k) e ∙ top_kept c.refused j k neighbour.low top

pub top_stays : TopStays
unfolding TopStays
top_stays c d calls answers (no_step e) k top = top
top_stays c d calls answers (one_step e f g x xs a more step rest) k top = top_stays f g xs more rest k (step_top (step_counting step) k top)

-- from an opening on
zeros_at : (many k : ℕ) → count_at (replicate many 0) k ≡ 0
unfolding count_at
zeros_at many zero = refl
zeros_at zero (suc k) = refl
zeros_at (suc many) (suc zero) = refl
zeros_at (suc many) (suc (suc k)) = zeros_at many (suc k)

pub refused_counted : RefusedCounted
unfolding RefusedCounted opened_column identity sum
refused_counted s run b ran =
    record {
      by_slot = λ k. rw (fresh k, zero-add (faults_of k b.calls b.answers)) at (run_count ran.steps counts k);
      nobody = λ k nobody. run_nobody ran.steps k (rw first nobody) ∙ fresh k;
      total =
          λ below.
          run_sum ran.steps counts (rw first below) ∙ ap (λ (m : ℕ). m + faults b.answers) nothing ∙ zero-add (faults b.answers);
    }
  where
    first : b.first ≡ opened_column (identity s.n s.t s.w b.number run b.own)
    first = ran.opening.done refl

    fresh : (k : ℕ) → refused_of b.first k ≡ 0
    fresh k = rw first (zeros_at most_columns k)

    nothing : sum b.first.refused ≡ 0
    nothing = rw first refl

    counts : Counts b.first
    counts = record { long = rw first refl; fit = λ k. rw (fresh k) (omega arith) }

-- a list with fewer calls than a count can count
faults_few : (k : ℕ) (xs : List Call) (answers : List ℕ) → faults_of k xs answers ≤ length xs
unfolding faults_of
faults_few k [] answers = omega arith
faults_few k (x ∷ xs) [] = omega arith
faults_few k (x ∷ xs) (a ∷ answers) = omega (arith, faults_few k xs answers, go (hands_in k x && frame_fault a))
  where
    go : (q : Bool) → cond q 1 0 ≤ 1
    go true = omega arith
    go false = omega arith

pub short_below_top : ShortBelowTop
unfolding ShortBelowTop RefusedCounted
short_below_top s run b ran short k low high = omega (arith, faults_few k b.calls b.answers, (refused_counted s run b ran).by_slot k)
