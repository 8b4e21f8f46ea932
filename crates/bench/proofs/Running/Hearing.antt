-- What a good column hears in a slot, and the calls of a round slot by slot: what is heard in a slot and the calls behind it are one run.
-- Lists of columns and frames that are filled one by one. Assumes nothing.
use mathlib.Core.Path.{◌≡◌, refl, sym, subst}
use mathlib.Core.Bool.{Bool, true, false}
use mathlib.Core.List.{List, [], ◌++◌}
use mathlib.Core.Option.{Option, none, some}
use Prim.Native.Nat.{ℕ, suc, ◌+◌, ◌-◌, ◌≤◌, ◌<◌}
use native.Mathlib.Numerals.{add-one}
use native.Mathlib.Omega.{arith}
use lib.Dec.{eqb}
use lib.ListN.{length, get_or, set}
use lib.Seq.{get_or-set_same, get_or-set_other}
use borrow.Author.Tests.{eqb-true, eqb-false, eq-eqb, ne_eqb}
use Rattle.record.specs.Frame.{header}
use Rattle.record.specs.Record.{Rec}
use Rattle.column.specs.Call.{Call, taking, closing, Leads, Run, no_call, one_call}
use Rattle.bench_file.specs.Scenario.{Scenario, is_good, message_of}
use Rattle.bench.specs.Group.{bench_run, framed, heard_in, taking_first, calls_from}
use Rattle.bench.specs.Steps.Running.{AfterHearing}

-- what is heard
module _ (f : Scenario) (frames : ℕ → List ℕ) (m l k : ℕ) where
  pub heard_own : k ≡ l → heard_in f frames m l k ≡ none
  unfolding heard_in
  heard_own e = rw (eq-eqb k l e) refl

  pub heard_good : (k ≡ l → ⊥) → is_good f k ≡ true → heard_in f frames m l k ≡ some (frames k)
  unfolding heard_in
  heard_good h e = rw (ne_eqb k l h, e) refl

  pub heard_missing : (k ≡ l → ⊥) → is_good f k ≡ false → message_of f.messages m k l ≡ none → heard_in f frames m l k ≡ none
  unfolding heard_in framed
  heard_missing h e g = rw (ne_eqb k l h, e, g) refl

  pub heard_message :
      (x : List ℕ) → (k ≡ l → ⊥) → is_good f k ≡ false → message_of f.messages m k l ≡ some x →
      heard_in f frames m l k ≡ some (header m k bench_run ++ x)
  unfolding heard_in framed
  heard_message x h e g = rw (ne_eqb k l h, e, g) refl

-- a slot, and the calls behind it
pub hear_more : (k : ℕ) (o : Option (List ℕ)) (r q z : Rec) (cs : List Call) → AfterHearing k o r q → Run q cs z → Run r (taking_first k o cs) z
unfolding AfterHearing taking_first Leads
hear_more k none r q z cs h run = subst (λ (x : Rec). Run x cs z) h run
hear_more k (some bs) r q z cs h run = one_call r q z (taking k bs) cs h run

pub calls_next :
    (heard : ℕ → Option (List ℕ)) (n k : ℕ) → k ≤ n →
    calls_from heard (n + 1 - k) k ≡ taking_first k (heard k) (calls_from heard (n + 1 - (k + 1)) (k + 1))
unfolding calls_from
calls_next heard n k h =
    let e : n + 1 - k ≡ suc (n + 1 - (k + 1)) = omega arith in
    rw (e, add-one k) refl

pub close_last : (heard : ℕ → Option (List ℕ)) (many k : ℕ) (r q : Rec) → many ≡ 0 → Leads closing r q → Run r (calls_from heard many k) q
unfolding calls_from
close_last heard many k r q e h = rw e (one_call r q q closing [] h (no_call q))

-- a list filled one by one
pub set_cases :
    {A : Type 0} (l : List A) (d x : A) (number k : ℕ) (P : ℕ → A → Type 0) → 1 ≤ number → number - 1 < length l → 1 ≤ k → k < number + 1 →
    P number x → (k < number → P k (get_or l (k - 1) d)) → P k (get_or (set l (number - 1) x) (k - 1) d)
set_cases l d x number k P low fits first less new old = go (eqb number k) refl
  where
    go : (q : Bool) → eqb number k ≡ q → P k (get_or (set l (number - 1) x) (k - 1) d)
    go true e =
        let same : k ≡ number = sym (eqb-true number k e) in
        rw (same, get_or-set_same l (number - 1) x d fits) new
    go false e =
        let other = eqb-false number k e in
        rw (get_or-set_other l (number - 1) (k - 1) x d (λ z. other (omega arith))) (old (before other))
      where
        before : (number ≡ k → ⊥) → k < number
        before h = omega arith
