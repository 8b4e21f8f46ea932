-- Lists of calls, one behind the other: what the first passes through the whole list does. Of a round's calls, what is heard in a slot is
-- taken there, before the round is closed, and every frame that is taken was heard in its slot. Assumes nothing.
use mathlib.Core.Path.{◌≡◌, refl, sym, ◌∙◌, ap}
use mathlib.Core.List.{List, [], ◌∷◌, ◌++◌}
use mathlib.Core.Logic.{◌⊎◌, inl, inr}
use mathlib.Core.Option.{Option, none, some}
use Prim.Native.Nat.{ℕ, zero, suc, ◌+◌, ◌≤◌, ◌<◌}
use native.Mathlib.Nat.{eq-or-lt_of_le}
use native.Mathlib.Omega.{arith}
use Rattle.record.specs.Record.{Rec}
use Rattle.column.specs.Call.{Call, taking, sending, closing, asking, Leads, Run, no_call, one_call, Passes, here, later}
use Rattle.column.proofs.Step.{after_take_round}
use Rattle.bench.specs.Group.{taking_first, calls_from}
use Rattle.bench.proofs.Running.Exchanged.{run_head}

-- one list behind another
pub passes_run : {r z : Rec} {cs : List Call} → Passes r cs z [] → Run r cs z
passes_run (here r cs) = no_call r
passes_run (later r q z c cs rest l p) = one_call r q z c cs l (passes_run p)

pub passes_join : {r q z : Rec} {cs ds rest : List Call} → Passes r cs q ds → Passes q ds z rest → Passes r cs z rest
passes_join (here r cs) b = b
passes_join (later r q z c cs rest l p) b = later r q _ c cs _ l (passes_join p b)

pub passes_more : {r z : Rec} {cs rest : List Call} (more : List Call) → Passes r cs z rest → Passes r (cs ++ more) z (rest ++ more)
passes_more more (here r cs) = here r (cs ++ more)
passes_more more (later r q z c cs rest l p) = later r q z c (cs ++ more) (rest ++ more) l (passes_more more p)

-- what is heard in a slot is taken in the round
pub record Taken (r : Rec) (cs : List Call) (k : ℕ) (bs : List ℕ) : Type 0 where
  pub at : Rec
  pub rest : List Call
  pub passes : Passes r cs at (taking k bs ∷ rest)
  pub in_round : at.round ≡ r.round

taken_later : (r q : Rec) (j : ℕ) (xs : List ℕ) (cs : List Call) (k : ℕ) (bs : List ℕ) → Leads (taking j xs) r q → Taken q cs k bs → Taken r (taking j xs ∷ cs) k bs
unfolding Leads
taken_later r q j xs cs k bs l t =
    record {
      at = t.at;
      rest = t.rest;
      passes = later r q t.at (taking j xs) cs _ l t.passes;
      in_round = t.in_round ∙ ap (λ (z : Rec). z.round) l ∙ after_take_round r j xs;
    }

pub heard_taken :
    (heard : ℕ → Option (List ℕ)) (k : ℕ) (bs : List ℕ) → heard k ≡ some bs → (many slot : ℕ) (r z : Rec) → slot ≤ k → k < slot + many →
    Run r (calls_from heard many slot) z → Taken r (calls_from heard many slot) k bs
unfolding calls_from taking_first
heard_taken heard k bs e zero slot r z low high run = absurd (omega arith)
heard_taken heard k bs e (suc n) slot r z low high run =
    go (eq-or-lt_of_le low) (λ q more further. heard_taken heard k bs e n (suc slot) q z more (omega arith) further) (heard slot) refl run
  where
    Further : Rec → Type 0
    Further q = suc slot ≤ k → Run q (calls_from heard n (suc slot)) z → Taken q (calls_from heard n (suc slot)) k bs

    go :
        (slot ≡ k) ⊎ (slot < k) → ((q : Rec) → Further q) → (x : Option (List ℕ)) → heard slot ≡ x → Run r (taking_first slot x (calls_from heard n (suc slot))) z →
        Taken r (taking_first slot x (calls_from heard n (suc slot))) k bs
    go (inl same) further x g way =
        let here_heard : x ≡ some bs = sym g ∙ ap heard same ∙ e in
        rw (here_heard, same) (record { at = r; rest = _; passes = here r _; in_round = refl })
    go (inr less) further none g way = further r less way
    go (inr less) further (some xs) g way =
        let first = run_head way (taking slot xs) _ refl in
        taken_later r first.0 slot xs _ k bs first.1 (further first.0 less first.2)

-- every frame that is taken
abbrev pub TakesOnly : (ℕ → List ℕ → Type 0) → List Call → Type 0
TakesOnly P [] = Unit {0}
TakesOnly P (taking k bs ∷ cs) = P k bs × TakesOnly P cs
TakesOnly P (sending n ∷ cs) = TakesOnly P cs
TakesOnly P (closing ∷ cs) = TakesOnly P cs
TakesOnly P (asking ∷ cs) = TakesOnly P cs

pub takes_both : (P : ℕ → List ℕ → Type 0) (cs ds : List Call) → TakesOnly P cs → TakesOnly P ds → TakesOnly P (cs ++ ds)
takes_both P [] ds a b = b
takes_both P (taking k bs ∷ cs) ds a b = (a.0, takes_both P cs ds a.1 b)
takes_both P (sending n ∷ cs) ds a b = takes_both P cs ds a b
takes_both P (closing ∷ cs) ds a b = takes_both P cs ds a b
takes_both P (asking ∷ cs) ds a b = takes_both P cs ds a b

takes_rest : (P : ℕ → List ℕ → Type 0) (c : Call) (cs : List Call) → TakesOnly P (c ∷ cs) → TakesOnly P cs
takes_rest P (taking k bs) cs a = a.1
takes_rest P (sending n) cs a = a
takes_rest P closing cs a = a
takes_rest P asking cs a = a

pub takes_at : (P : ℕ → List ℕ → Type 0) (k : ℕ) (bs : List ℕ) {r z : Rec} {cs rest : List Call} → Passes r cs z (taking k bs ∷ rest) → TakesOnly P cs → P k bs
takes_at P k bs (here r cs) a = a.0
takes_at P k bs (later r q z c cs rest l p) a = takes_at P k bs p (takes_rest P c cs a)

pub takes_heard :
    (P : ℕ → List ℕ → Type 0) (heard : ℕ → Option (List ℕ)) → ((k : ℕ) (bs : List ℕ) → heard k ≡ some bs → P k bs) → (many slot : ℕ) →
    TakesOnly P (calls_from heard many slot)
unfolding calls_from taking_first
takes_heard P heard h zero slot = tt
takes_heard P heard h (suc n) slot = go (heard slot) refl (takes_heard P heard h n (suc slot))
  where
    go : (x : Option (List ℕ)) → heard slot ≡ x → TakesOnly P (calls_from heard n (suc slot)) → TakesOnly P (taking_first slot x (calls_from heard n (suc slot)))
    go none e a = a
    go (some bs) e a = (h slot bs e, a)
