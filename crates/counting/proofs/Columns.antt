-- All columns while the rows are gone through, one after the other for each row: the columns that are reached stand as after the row,
-- and the others as before it. They are settled at last, when the rows are all gone through or no column is live any more.
-- Assumes nothing.
use mathlib.Core.Path.{◌≡◌, refl, sym, ◌∙◌, ap}
use mathlib.Core.Bool.{Bool, true, false}
use mathlib.Core.List.{List}
use Prim.Native.Nat.{ℕ, ◌+◌, ◌≤◌, ◌<◌}
use native.Mathlib.Omega.{arith}
use lib.ListN.{length, get_or, take, replicate, get_or-replicate}
use lib.Seq.{get_or-take, length-take-le}
use Rattle.std.specs.List.{list_all}
use Rattle.std.proofs.lemmas.List.Recursion.{and_at}
use Rattle.code.specs.Size.{most_columns}
use Rattle.counting.specs.Steps.Table.{Planes}
use Rattle.counting.specs.declared.leaders.Standing.{Standing}
use Rattle.counting.specs.Steps.Tally.{Settled, unweighed, Weighed, AllWeighed, AllSettled}
use Rattle.counting.proofs.Settling.{live_start, settled_last}

-- the first k columns after row c and the others before it
pub record WeighedBelow (n w least c : ℕ) (x : Planes) (k : ℕ) (standings : List Standing) : Type 0 where
  pub long : length standings ≡ most_columns
  pub reached : (j : ℕ) → j < k → Weighed n w least (c + 1) x j (get_or standings j unweighed)
  pub ahead : (j : ℕ) → k ≤ j → j < n → Weighed n w least c x j (get_or standings j unweighed)

-- the first n of them, as they are tested
pub all_settled : (n : ℕ) (standings : List Standing) → n ≤ length standings → list_all (λ s. s.settled) (take n standings) ≡ true →
    (k : ℕ) → k < n → (get_or standings k unweighed).settled ≡ true
all_settled n standings fits e k h =
    ap (λ (s : Standing). s.settled) (sym (get_or-take n standings k unweighed h))
    ∙ and_at (list_all (λ s. s.settled)) (λ s. s.settled) refl (λ _ _. refl) (take n standings) k unweighed (omega (arith, length-take-le n standings fits)) e

module _ (n w least : ℕ) (x : Planes) where
  pub all_start : n ≤ most_columns → AllWeighed n w least 0 x (replicate most_columns unweighed)
  all_start fits k h =
      rw (get_or-replicate {A = Standing} most_columns k unweighed unweighed (omega arith))
      (record { going = λ _. live_start n w x k h; stays = λ e. (cc) })

  module _ (c : ℕ) (standings : List Standing) where
    -- no column is live any more
    pub all_closed : AllWeighed n w least c x standings → ((k : ℕ) → k < n → (get_or standings k unweighed).settled ≡ true) → AllSettled n w least x standings
    all_closed a none k h = (a k h).stays (none k h)

    -- the rows are all gone through
    pub all_last : 1 ≤ least → c ≡ n → AllWeighed n w least c x standings → AllSettled n w least x standings
    all_last some e a k h = go (get_or standings k unweighed) (a k h)
      where
        go : (s : Standing) → Weighed n w least c x k s → Settled n w least x k s.leads.row s.leads.times
        go s b = by s.settled refl
          where
            by : (q : Bool) → s.settled ≡ q → Settled n w least x k s.leads.row s.leads.times
            by true f = b.stays f
            by false f = settled_last n w least x k some c _ _ e (b.going f)
