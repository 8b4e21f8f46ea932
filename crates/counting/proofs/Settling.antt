-- A column while the rows are gone through. One more row leads to the better of its value and the one that leads. A row whose value is
-- found so often that the rows left for any other are fewer than `least` settles the column: no other value is found `least` times,
-- so the leader is m if it is, and else m is not. When the rows are all gone through, the leader is m. Assumes nothing.
use mathlib.Core.Path.{◌≡◌, refl, sym, ◌∙◌, ap}
use mathlib.Core.Bool.{Bool, true, false, cond}
use Prim.Native.Nat.{ℕ, ◌+◌, ◌≤◌, ◌<◌}
use native.Mathlib.Omega.{arith}
use lib.ListN.{drop, replicate}
use borrow.Author.Tests.{ne_eqb}
use Rattle.code.specs.Settings.{settings, value_size}
use Rattle.code.specs.Vector.{same}
use Rattle.code.proofs.Vectors.Planes.{same_equal}
use Rattle.grading.specs.Value.{Value, Rows, blank, is_blank}
use Rattle.grading.specs.Count.{found, better_by, next_best, most, most_from}
use Rattle.grading.proofs.Value.{zeros_blank, differ_of_not_same}
use Rattle.grading.proofs.Count.{found_entry, found_le, found_two}
use Rattle.grading.proofs.Most.{Leading, next_takes, better_filled, most_found}
use Rattle.counting.specs.Steps.Table.{Planes, value_in, rows_in}
use Rattle.counting.specs.declared.leaders.Standing.{Standing}
use Rattle.counting.specs.Steps.Tally.{counted, best_in, leading, Live, Settled, Weighed}
use Rattle.counting.proofs.Planes.{rows_length, value_at, rows_none, most_on}
use Rattle.counting.proofs.Best.{better_counted, next_by}

-- how often a value is counted
module _ (k : ℕ) (v : Value) (rows : Rows) where
  pub counted_filled : is_blank v ≡ false → counted k v rows ≡ found k v rows
  unfolding counted
  counted_filled e = rw e

  counted_blank : is_blank v ≡ true → counted k v rows ≡ 0
  unfolding counted
  counted_blank e = rw e

  pub counted_some : 1 ≤ counted k v rows → is_blank v ≡ false
  counted_some h = go (is_blank v) refl
    where
      go : (q : Bool) → is_blank v ≡ q → is_blank v ≡ false
      go true e = absurd (omega (arith, counted_blank e))
      go false e = e

-- what leads a column is a row's value where it is found at all
pub leading_found : (w : ℕ) (x : Planes) (k row times : ℕ) → 1 ≤ times → leading w x k row times ≡ value_in w x row k
unfolding leading
leading_found w x k row times h = rw (ne_eqb times 0 (λ e. absurd (omega arith)))

module _ (n w : ℕ) (x : Planes) (k : ℕ) (inside : k < n) where
  pub found_some : (c : ℕ) → c < n → 1 ≤ found k (value_in w x c k) (rows_in n w x)
  found_some c h = rw (value_at n w x c k h inside) at (found_entry k (rows_in n w x) c (rw (rows_length n w x) h))

  pub found_fits : (v : Value) → found k v (rows_in n w x) ≤ n
  found_fits v = rw (rows_length n w x) at (found_le k v (rows_in n w x))

  pub live_start : Live n w 0 x k 0 0
  unfolding leading best_in most blank settings value_size
  live_start = record { inside = omega arith; count = sym (counted_blank k (replicate w 0) (rows_in n w x) (zeros_blank w)); rest = refl }

  pub live_filled : (c row times : ℕ) → Live n w c x k row times → 1 ≤ times → is_blank (value_in w x row k) ≡ false
  live_filled c row times a h =
      rw (leading_found w x k row times h) at (counted_some k (leading w x k row times) (rows_in n w x) (omega (arith, a.count)))

  -- the value that leads after one more row
  pub record Next (c row times row_now times_now : ℕ) : Type 0 where
    pub goes_on : Live n w (c + 1) x k row_now times_now
    pub value : leading w x k row_now times_now ≡ next_best k (rows_in n w x) (value_in w x c k) (leading w x k row times)

  module _ (c row times count : ℕ) (h : c < n) (a : Live n w c x k row times) (e : count ≡ found k (value_in w x c k) (rows_in n w x)) where
    by : (q : Bool) → q ≡ better_by count times (value_in w x c k) (leading w x k row times) →
        next_best k (rows_in n w x) (value_in w x c k) (leading w x k row times) ≡ cond q (value_in w x c k) (leading w x k row times)
    by q f = next_by k (rows_in n w x) _ _ q (f ∙ better_counted k (rows_in n w x) _ _ count times e a.count)

    on : (v : Value) → next_best k (rows_in n w x) (value_in w x c k) (leading w x k row times) ≡ v →
        most_from k (rows_in n w x) (drop (c + 1) (rows_in n w x)) v ≡ best_in n w x k
    on v f = ap (most_from k _ _) (sym f) ∙ sym (most_on n w x k (rows_in n w x) _ c inside h) ∙ a.rest

    pub taken : true ≡ better_by count times (value_in w x c k) (leading w x k row times) → Next c row times c count
    taken f =
        record {
          goes_on =
              record {
                inside = h;
                count = rw here (e ∙ sym (counted_filled k (value_in w x c k) (rows_in n w x) filled));
                rest = rw here (on _ (by true f));
              };
          value = here ∙ sym (by true f);
        }
      where
        here : leading w x k c count ≡ value_in w x c k
        here = leading_found w x k c count (rw e (found_some c h))

        filled : is_blank (value_in w x c k) ≡ false
        filled = better_filled k (rows_in n w x) _ _ (sym (f ∙ better_counted k (rows_in n w x) _ _ count times e a.count))

    pub passed : false ≡ better_by count times (value_in w x c k) (leading w x k row times) → Next c row times row times
    passed f = record { goes_on = record { inside = a.inside; count = a.count; rest = on _ (by false f) }; value = sym (by false f) }

-- when a column is settled
module _ (n w least : ℕ) (x : Planes) (k : ℕ) (some : 1 ≤ least) where
  settled_by : (row times : ℕ) → row < n → times ≡ counted k (leading w x k row times) (rows_in n w x) →
      (least ≤ times → leading w x k row times ≡ best_in n w x k) → (times < least → counted k (best_in n w x k) (rows_in n w x) < least) →
      Settled n w least x k row times
  settled_by row times h e often seldom =
      record {
        inside = h;
        value = λ l. sym (leading_found w x k row times (omega arith)) ∙ often l;
        count = λ l. e ∙ ap (λ (v : Value). counted k v (rows_in n w x)) (often l);
        seldom = seldom;
      }

  -- all rows are gone through
  pub settled_last : (c row times : ℕ) → c ≡ n → Live n w c x k row times → Settled n w least x k row times
  unfolding most_from
  settled_last c row times h a =
      settled_by row times a.inside a.count (λ l. m) (λ l. rw (← m, ← a.count) l)
    where
      m : leading w x k row times ≡ best_in n w x k
      m = rw (rows_none n w x c h) at a.rest

  -- a value after whose rows fewer than `least` are left
  module _ (v b : Value) (fewer : n < least + found k v (rows_in n w x)) (leads : is_blank v ≡ false → Leading k (rows_in n w x) v b) where
    abbrev m : Value
    m = best_in n w x k

    other : (u : Value) → (v ≡ u → ⊥) → found k u (rows_in n w x) < least
    other u d = omega (arith, rw (rows_length n w x) at (found_two k v u (rows_in n w x) d))

    often_one : (u : Value) → least ≤ found k u (rows_in n w x) → v ≡ u
    often_one u h = go (same v u) refl
      where
        go : (q : Bool) → same v u ≡ q → v ≡ u
        go true e = same_equal v u e
        go false e = absurd (omega (arith, other u (differ_of_not_same v u e)))

    settle_often : least ≤ counted k b (rows_in n w x) → b ≡ m
    unfolding best_in
    settle_often h =
        let filled = counted_some k b (rows_in n w x) (omega arith) in
        let times = counted_filled k b (rows_in n w x) filled in
        let more = (most_found (settings 0 0 w) k (rows_in n w x) b filled (omega arith)).often in
        sym (often_one b (omega arith)) ∙ often_one m (omega arith)

    settle_seldom : counted k b (rows_in n w x) < least → counted k m (rows_in n w x) < least
    settle_seldom h = go (is_blank m) refl
      where
        here : is_blank m ≡ false → (q : Bool) → same v m ≡ q → found k m (rows_in n w x) < least
        here f false e = other m (differ_of_not_same v m e)
        here f true e =
            let one = same_equal v m e in
            let a = leads (rw one f) in
            omega (arith, a.often, counted_filled k b (rows_in n w x) a.filled, ap (λ (u : Value). found k u (rows_in n w x)) one)

        go : (q : Bool) → is_blank m ≡ q → counted k m (rows_in n w x) < least
        go true e = rw (counted_blank k m (rows_in n w x) e) (omega arith)
        go false e = rw (counted_filled k m (rows_in n w x) e) (here e (same v m) refl)

  -- after one more row, a column is settled or goes on
  pub weighed_next : (inside : k < n) (c row times : ℕ) (s : Standing) → Next n w x k inside c row times s.leads.row s.leads.times →
      (s.settled ≡ true → n < least + found k (value_in w x c k) (rows_in n w x)) → Weighed n w least (c + 1) x k s
  weighed_next inside c row times s a fewer =
      record { going = λ d. a.goes_on; stays = λ d. settled (fewer d) }
    where
      b : Value
      b = leading w x k s.leads.row s.leads.times

      leads : is_blank (value_in w x c k) ≡ false → Leading k (rows_in n w x) (value_in w x c k) b
      leads e = rw a.value (next_takes k (rows_in n w x) (value_in w x c k) (leading w x k row times) e)

      settled : n < least + found k (value_in w x c k) (rows_in n w x) → Settled n w least x k s.leads.row s.leads.times
      settled f =
          let e = a.goes_on.count in
          settled_by s.leads.row s.leads.times a.goes_on.inside e (λ l. settle_often (value_in w x c k) b f leads (omega arith))
          (λ l. settle_seldom (value_in w x c k) b f leads (omega arith))
