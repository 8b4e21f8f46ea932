-- A table is tested row by row, so that examples can be computed. Of each slot it is claimed which vector its row is, where the checks
-- received must be those of the vector, which is near enough; or that it is blank, where no frame must have come, or one that "none"
-- answers. What it tells follows. Assumes nothing.
use mathlib.Core.Path.{◌≡◌, refl, sym, ◌∙◌, ap, subst₂}
use mathlib.Core.Bool.{Bool, true, false, cond, ◌&&◌, ◌||◌}
use mathlib.Core.List.{List, []}
use mathlib.Core.Logic.{inl, inr}
use mathlib.Core.Option.{Option, none, some}
use Prim.Native.Nat.{ℕ, ◌+◌, ◌-◌, ◌≤◌}
use native.Mathlib.Omega.{arith}
use lib.Dec.{eqb, leb}
use lib.ListN.{get_or}
use borrow.Author.Tests.{leb-true, eq-eqb, ne_eqb}
use Rattle.arrays.proofs.Bool.{and_split, true_not_false}
use Rattle.code.specs.Settings.{Settings, settings_refusal}
use Rattle.code.specs.Vector.{is_vector, differ_values}
use Rattle.code.specs.Promise.{Repairs}
use Rattle.code.proofs.Tests.{all_from, all_below_at}
use Rattle.code.proofs.Vectors.Planes.{repairs}
use Rattle.code.proofs.Codewords.Quick.{quick_checks, checks_quick}
use Rattle.grading.specs.Value.{Vector, Rows, blanks, entries}
use Rattle.grading.proofs.Value.{entries_length, entries_at}
use Rattle.record.specs.Frame.{checks_in}
use Rattle.record.specs.Record.{Rec, told_missing, told_none, counted}
use Rattle.rounds.specs.Exchange.{Row, Table}
use Rattle.exchanges.proofs.Testing.NoneNear.{quick_none, none_quick}

-- a row that is claimed: a vector, or blank
unfoldable pub row_of : Settings → Option Vector → Vector
row_of s none = blanks s
row_of s (some us) = us

-- what it tells: how many values differ, or, where it is blank, by whether a frame came
unfoldable pub told_of : (vs : Vector) → (claim : Option Vector) → (frame : Option (List ℕ)) → ℕ
told_of vs none none = told_missing
told_of vs none (some x) = told_none
told_of vs (some us) f = differ_values vs us

-- the test of it
unfoldable pub row_test : Settings → (vs : Vector) → (claim : Option Vector) → (frame : Option (List ℕ)) → Bool
row_test s vs none none = true
row_test s vs none (some x) = quick_none s vs (checks_in s x)
row_test s vs (some us) none = false
row_test s vs (some us) (some x) =
    quick_checks s us (checks_in s x) && ((is_vector s vs && is_vector s us) && leb (differ_values vs us) s.t)

row_tested :
    (s : Settings) (vs : Vector) (c : Option Vector) (f : Option (List ℕ)) → settings_refusal s ≡ 0 → row_test s vs c f ≡ true →
    Row s vs f (row_of s c) (told_of vs c f)
unfolding row_test row_of told_of Row Repairs
row_tested s vs none none fine e = (refl, refl)
row_tested s vs none (some x) fine e = inr (none_quick s vs (checks_in s x) fine e, refl, refl)
row_tested s vs (some us) none fine e = true_not_false (sym e)
row_tested s vs (some us) (some x) fine e =
    let checks = and_split (quick_checks s us (checks_in s x)) _ e in
    let near = and_split (is_vector s vs && is_vector s us) _ checks.1 in
    let vectors = and_split (is_vector s vs) (is_vector s us) near.0 in
    let repair =
    repairs s vs us (checks_in s x) fine vectors.0 vectors.1 (checks_quick s us (checks_in s x) ∙ checks.0)
    (leb-true (differ_values vs us) s.t near.1) in
    inl (checks_in s x, repair.0, sym repair.1)

-- the table of a column whose own row is this vector, and the rows of the other slots are claimed
unfoldable pub table_row : Rec → (own : Vector) → (claims : ℕ → Option Vector) → (slot : ℕ) → Vector
table_row r vs claims k = cond (eqb k r.who.number) vs (row_of r.who.settings (claims k))

unfoldable pub table_of : Rec → (own : Vector) → (claims : ℕ → Option Vector) → Rows
table_of r vs claims = entries r.who.settings.n 1 (table_row r vs claims)

-- and what it tells of each slot
unfoldable pub told_at : Rec → (own : Vector) → (claims : ℕ → Option Vector) → (slot : ℕ) → ℕ
told_at r vs claims k = cond (eqb k r.who.number) 0 (told_of vs (claims k) (counted r k))

unfoldable pub told_by : Rec → (own : Vector) → (claims : ℕ → Option Vector) → List ℕ
told_by r vs claims = entries r.who.settings.n 1 (told_at r vs claims)

unfoldable pub table_test : Rec → (own : Vector) → (claims : ℕ → Option Vector) → Bool
table_test r vs claims =
    all_from r.who.settings.n 0 (λ j. eqb (1 + j) r.who.number || row_test r.who.settings vs (claims (1 + j)) (counted r (1 + j)))

module _ (r : Rec) (vs : Vector) (claims : ℕ → Option Vector) where
  row_at : (k : ℕ) → 1 ≤ k → k ≤ r.who.settings.n → get_or (table_of r vs claims) (k - 1) [] ≡ table_row r vs claims k
  unfolding table_of
  row_at k low high =
      entries_at r.who.settings.n 1 (k - 1) (table_row r vs claims) [] (omega arith)
      ∙ ap (table_row r vs claims) (let back : 1 + (k - 1) ≡ k = omega arith in back)

  told_is : (k : ℕ) → 1 ≤ k → k ≤ r.who.settings.n → get_or (told_by r vs claims) (k - 1) 0 ≡ told_at r vs claims k
  unfolding told_by
  told_is k low high =
      entries_at r.who.settings.n 1 (k - 1) (told_at r vs claims) 0 (omega arith)
      ∙ ap (told_at r vs claims) (let back : 1 + (k - 1) ≡ k = omega arith in back)

  pub table_tested :
      settings_refusal r.who.settings ≡ 0 → 1 ≤ r.who.number → r.who.number ≤ r.who.settings.n → table_test r vs claims ≡ true →
      Table r vs (table_of r vs claims) (told_by r vs claims)
  unfolding table_of table_row told_by told_at table_test
  table_tested fine low high e =
      record {
        many = entries_length r.who.settings.n 1 _;
        told_many = entries_length r.who.settings.n 1 _;
        own_told = told_is r.who.number low high ∙ rw (eq-eqb r.who.number r.who.number refl) refl;
        own_row = row_at r.who.number low high ∙ rw (eq-eqb r.who.number r.who.number refl) refl;
        others =
            λ k a b other.
            (let differs = ne_eqb k r.who.number other in
            let row : table_row r vs claims k ≡ row_of r.who.settings (claims k) = rw differs refl in
            let told : told_at r vs claims k ≡ told_of vs (claims k) (counted r k) = rw differs refl in
            subst₂ (Row r.who.settings vs (counted r k)) (sym (row_at k a b ∙ row)) (sym (told_is k a b ∙ told))
            (row_tested r.who.settings vs (claims k) (counted r k) fine (rw differs at (tested k a b))));
      }
    where
      test : ℕ → Bool
      test k = eqb k r.who.number || row_test r.who.settings vs (claims k) (counted r k)

      tested : (k : ℕ) → 1 ≤ k → k ≤ r.who.settings.n → test k ≡ true
      tested k a b =
          let back : 1 + (k - 1) ≡ k = omega arith in
          ap test (sym back) ∙ all_below_at r.who.settings.n (λ j. test (1 + j)) e (k - 1) (omega arith)
