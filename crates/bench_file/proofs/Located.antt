-- Places read as a scenario: whether bytes stand at a place is whether there is one, and with one place more in its slot of the list all
-- other places are as before. The slots of two messages are the same only if round and columns are. Assumes nothing.
use mathlib.Core.Path.{◌≡◌, refl, sym, ◌∙◌, ap}
use mathlib.Core.Bool.{Bool, true, false, cond, ◌&&◌}
use mathlib.Core.List.{List, ◌∷◌}
use mathlib.Core.Option.{Option, none, some}
use Rattle.std.specs.Prelude.{Option as Place, Some, None, is_some}
use Prim.Native.Nat.{ℕ, zero, suc, ◌+◌, ◌*◌, ◌-◌, ◌≤◌, ◌<◌}
use native.Mathlib.Omega.{arith}
use lib.Dec.{eqb}
use lib.ListN.{length, get_or, set, take, drop, replicate}
use lib.Seq.{get_or-set_same, get_or-set_other}
use borrow.Author.Tests.{eqb-true, eqb-false, eq-eqb}
use Rattle.arrays.proofs.Bool.{and_split, true_not_false}
use Rattle.code.specs.Settings.{Settings, settings, settings_refusal}
use Rattle.code.specs.Size.{most_columns}
use Rattle.record.specs.Refusal.{open_refusal}
use Rattle.record.specs.Record.{is_taken}
use Rattle.bench_file.specs.Scenario.{Scenario, Own, Message, own_of, message_of}
use Rattle.bench_file.specs.Steps.Places.{BytesAt, message_index, MessageRange, Located}
use Rattle.bench_file.specs.declared.places.Places.{Places}

pub bytes_at_taken : (file : List ℕ) (size : ℕ) (at : Place ℕ) (x : Option (List ℕ)) → BytesAt file size at x → is_some at ≡ is_taken x
unfolding BytesAt is_taken
bytes_at_taken file size None none h = refl
bytes_at_taken file size (Some at) (some x) h = refl
bytes_at_taken file size None (some x) h = absurd h
bytes_at_taken file size (Some at) none h = absurd h

pub bytes_at_none : (file : List ℕ) (size : ℕ) (x : Option (List ℕ)) → BytesAt file size None x → x ≡ none
unfolding BytesAt
bytes_at_none file size none s = refl
bytes_at_none file size (some x) s = absurd s

pub bytes_at_some :
    (file : List ℕ) (size at : ℕ) (x : Option (List ℕ)) → BytesAt file size (Some at) x → (at + size ≤ length file) × (x ≡ some (take size (drop at file)))
unfolding BytesAt
bytes_at_some file size at none s = absurd s
bytes_at_some file size at (some x) s = (s.0, ap some s.1)

-- no place is kept yet
abbrev no_place : Place ℕ
no_place = None

pub none_at : (many i : ℕ) → get_or (replicate many no_place) i None ≡ no_place
none_at zero i = refl
none_at (suc many) zero = refl
none_at (suc many) (suc i) = none_at many i

-- the slots of two messages
rounds_apart : (a b x y : ℕ) → x < most_columns * most_columns → y < most_columns * most_columns → a * (most_columns * most_columns) + x ≡ b * (most_columns * most_columns) + y → (a ≡ b) × (x ≡ y)
rounds_apart a b x y h l e = let same : a ≡ b = omega arith in (same, omega arith)

senders_apart : (a b x y : ℕ) → x < most_columns → y < most_columns → a * most_columns + x ≡ b * most_columns + y → (a ≡ b) × (x ≡ y)
senders_apart a b x y h l e = let same : a ≡ b = omega arith in (same, omega arith)

below_round : (m k l : ℕ) → MessageRange m k l → (k - 1) * most_columns + (l - 1) < most_columns * most_columns
below_round m k l r = omega (arith, r.from_low, r.from_high, r.to_low, r.to_high)

from_one : (a b : ℕ) → 1 ≤ a → 1 ≤ b → a - 1 ≡ b - 1 → a ≡ b
from_one a b h l e = omega arith

pub index_apart :
    (m k l p i j : ℕ) → MessageRange m k l → MessageRange p i j → message_index m k l ≡ message_index p i j → (m ≡ p) × (k ≡ i) × (l ≡ j)
unfolding message_index
index_apart m k l p i j a b e =
    let outer = rounds_apart (m - 1) (p - 1) _ _ (below_round m k l a) (below_round p i j b) e in
    let inner = senders_apart (k - 1) (i - 1) (l - 1) (j - 1) (omega (arith, a.to_low, a.to_high)) (omega (arith, b.to_low, b.to_high)) outer.1 in
    (from_one m p a.round_low b.round_low outer.0, from_one k i a.from_low b.from_low inner.0, from_one l j a.to_low b.to_low inner.1)

-- one own value more
pub own_more :
    (file : List ℕ) (size at column : ℕ) (v : List ℕ) (owns : List Own) (places : List (Place ℕ)) → column - 1 < length places → 1 ≤ column →
    BytesAt file size (Some at) (some v) → ((k : ℕ) → 1 ≤ k → k ≤ most_columns → BytesAt file size (get_or places (k - 1) None) (own_of owns k)) →
    (k : ℕ) → 1 ≤ k → k ≤ most_columns →
    BytesAt file size (get_or (set places (column - 1) (Some at)) (k - 1) None) (cond (eqb column k) (some v) (own_of owns k))
own_more file size at column v owns places fits low new old k l h = go (eqb column k) refl
  where
    go : (q : Bool) → eqb column k ≡ q → BytesAt file size (get_or (set places (column - 1) (Some at)) (k - 1) None) (cond q (some v) (own_of owns k))
    go true e =
        let same : k ≡ column = sym (eqb-true column k e) in
        rw (same, get_or-set_same places (column - 1) (Some at) None fits) new
    go false e =
        let other = eqb-false column k e in
        rw (get_or-set_other places (column - 1) (k - 1) (Some at) None (λ z. other (omega arith))) (old k l h)

-- nothing is no value
pub none_some : {A B : Type 0} {x : A} → none ≡ some x → B
none_some {x = x} e = absurd (let z : ◌≡◌ {A = ℕ} 0 1 = cc in omega arith)

-- every own value can be opened with
pub own_opens :
    (s : Settings) (column : ℕ) (v : List ℕ) (owns : List Own) → open_refusal s column v ≡ 0 →
    ((k : ℕ) (u : List ℕ) → own_of owns k ≡ some u → open_refusal s k u ≡ 0) → (k : ℕ) (u : List ℕ) →
    cond (eqb column k) (some v) (own_of owns k) ≡ some u → open_refusal s k u ≡ 0
own_opens s column v owns new old k u = go (eqb column k) refl
  where
    go : (q : Bool) → eqb column k ≡ q → cond q (some v) (own_of owns k) ≡ some u → open_refusal s k u ≡ 0
    go true e f =
        let same : u ≡ v = cc in
        rw (sym (eqb-true column k e), same) new
    go false e f = old k u f

-- one message more
pub message_more :
    (file : List ℕ) (sizes : ℕ → ℕ) (at : ℕ) (x : Message) (messages : List Message) (places : List (Place ℕ)) →
    MessageRange x.round x.from x.to → message_index x.round x.from x.to < length places →
    BytesAt file (sizes x.round) (Some at) (some x.operand) → (m k l : ℕ) → MessageRange m k l →
    BytesAt file (sizes m) (get_or places (message_index m k l) None) (message_of messages m k l) →
    BytesAt file (sizes m) (get_or (set places (message_index x.round x.from x.to) (Some at)) (message_index m k l) None) (message_of (x ∷ messages) m k l)
unfolding message_of
message_more file sizes at x messages places range fits new m k l other old = go (eqb x.round m && (eqb x.from k && eqb x.to l)) refl
  where
    go :
        (q : Bool) → (eqb x.round m && (eqb x.from k && eqb x.to l)) ≡ q →
        BytesAt file (sizes m) (get_or (set places (message_index x.round x.from x.to) (Some at)) (message_index m k l) None)
        (cond q (some x.operand) (message_of messages m k l))
    go true e =
        let outer = and_split (eqb x.round m) _ e in
        let inner = and_split (eqb x.from k) _ outer.1 in
        let round : m ≡ x.round = sym (eqb-true x.round m outer.0) in
        let from : k ≡ x.from = sym (eqb-true x.from k inner.0) in
        let to : l ≡ x.to = sym (eqb-true x.to l inner.1) in
        rw
        (round, from, to, get_or-set_same places (message_index x.round x.from x.to) (Some at) None fits)
        new
    go false e =
        rw
        (get_or-set_other places (message_index x.round x.from x.to) (message_index m k l) (Some at) None
        (λ z.
        let same = index_apart m k l x.round x.from x.to other range z in
        let tests : (eqb x.round m && (eqb x.from k && eqb x.to l)) ≡ true = rw (same.0, same.1, same.2, eq-eqb x.round x.round refl, eq-eqb x.from x.from refl, eq-eqb x.to x.to refl) refl in
        true_not_false (sym tests ∙ e)))
        old

-- the settings of what was said are allowed
pub located_fine : (file : List ℕ) (p : Places) (f : Scenario) → Located file p f → settings_refusal f.settings ≡ 0
unfolding settings
located_fine file p f h = rw h.settings p.settings.allowed
