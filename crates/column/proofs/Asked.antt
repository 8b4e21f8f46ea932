-- What `result` answers: the values and confidences of the record, and what rounds two and three told, cut to the columns that there are
-- and zeros behind them. Read again they are what the column holds. Byte for byte, by lists that agree at every place. Assumes nothing.
use mathlib.Core.Path.{◌≡◌, refl, sym, ◌∙◌, ap, ap₂, subst}
use mathlib.Core.List.{List, []}
use Prim.Native.Nat.{ℕ, ◌*◌, ◌≤◌, ◌<◌}
use native.Mathlib.Omega.{arith}
use lib.ListN.{length, get_or, take, drop, replicate}
use lib.Seq.{get_or-take, length-take-le, take_at, ext_get_or}
use Rattle.arrays.specs.Array.{in_front, padded}
use Rattle.arrays.proofs.Padded.{padded_at}
use Rattle.code.specs.Settings.{Settings, settings, value_size}
use Rattle.code.specs.Size.{most_columns, vector_room}
use Rattle.code.specs.Vector.{cut, glued}
use Rattle.code.specs.Entry.{values_in}
use Rattle.code.proofs.Vectors.Cut.{cut_length, glued_cut}
use Rattle.grading.specs.Value.{Vector, entries}
use Rattle.grading.specs.Held.{Held, held_as, held_in, held_values}
use Rattle.counting.specs.Stored.{StoresHeld}
use Rattle.grading.proofs.Value.{entries_length, entries_of, entries_alike}
use Rattle.counting.proofs.Placed.{held_values_entries, held_confidences_entries}
use Rattle.record.specs.Record.{who_as}
use Rattle.record.specs.Refusal.{ask_refusal}
use Rattle.record.specs.View.{settings_of, who_in, view}
use Rattle.record.specs.Stored.{no_holdings}
use Rattle.record.specs.declared.Column.{Column}
use Rattle.record.specs.declared.Holdings.{Holdings}
use Rattle.std.specs.Prelude.{Ok}
use Rattle.column.specs.Answer.{holdings_of}
use Rattle.column.specs.declared.holdings.Verdict.{Verdict}
use Rattle.record.proofs.Front.{cut_front}
use Rattle.record.proofs.Refusal.{ask_round}
use Rattle.record.proofs.View.{found_held, found_two, found_three}
use Rattle.column.specs.Entry.{ResultSays}
use Rattle.column.specs.Steps.Holdings.{Fronts}

-- the first entries of a list
entries_take : {A : Type 0} (n : ℕ) (xs : List A) (d : A) → n ≤ length xs → entries n 0 (λ j. get_or xs j d) ≡ take n xs
entries_take n xs d h =
    ext_get_or d (entries n 0 (λ j. get_or xs j d)) (take n xs) (entries_length n 0 _ ∙ sym (length-take-le n xs h))
    (λ j l. (let k : j < n = rw (entries_length n 0 (λ i. get_or xs i d)) at l in entries_of n j _ d k ∙ sym (get_or-take n xs j d k)))

-- values cut to so many bytes, zeros behind
cut_padded : (n w : ℕ) (vs : List ℕ) → n * w ≤ length vs → cut n w (padded vector_room (take (n * w) vs)) ≡ cut n w vs
unfolding padded in_front
cut_padded n w vs h =
    let front = take (n * w) vs in
    let rest = drop (length front) (replicate {A = ℕ} vector_room 0) in
    sym (cut_front n w _) ∙ ap (cut n w) (take_at front rest (n * w) (length-take-le (n * w) vs h)) ∙ cut_front n w vs

module _ (s : Settings) (vs cs : List ℕ) (room : s.n * value_size s ≤ length vs) (many : s.n ≤ length cs) where
  values_back : held_values (held_in s vs cs) ≡ values_in s s.n vs
  unfolding held_in held_as values_in
  values_back =
      held_values_entries s.n 0 _
      ∙ ext_get_or [] (entries s.n 0 (λ j. get_or (cut s.n (value_size s) vs) j [])) (cut s.n (value_size s) vs)
      (entries_length s.n 0 _ ∙ sym (cut_length s.n (value_size s) vs))
      (λ j l. entries_of s.n j _ [] (rw (entries_length s.n 0 (λ i. get_or (cut s.n (value_size s) vs) i [])) at l))

  pub result_stores : StoresHeld s (held_in s vs cs) (padded vector_room (take (s.n * value_size s) vs)) (padded most_columns (take s.n cs))
  unfolding held_in held_as values_in
  result_stores =
      record {
        value_bytes = ap (padded vector_room) (sym (ap glued values_back ∙ glued_cut s.n (value_size s) vs room));
        confidence_bytes = ap (padded most_columns) (sym (held_confidences_entries s.n 0 _ ∙ entries_take s.n cs 0 many));
        reads =
            entries_alike s.n 0 _ _
            (λ j l. (let k : j < s.n = omega arith in
            ap₂ held_as (ap (λ (us : Vector). get_or us j []) (cut_padded s.n (value_size s) vs room))
            (padded_at most_columns (take s.n cs) j ∙ get_or-take s.n cs j 0 k)));
      }

-- answers of the same bytes
pub same_holdings :
    (a b : Holdings) → a.answer ≡ b.answer → a.values ≡ b.values → a.confidences ≡ b.confidences → a.told_two ≡ b.told_two →
    a.told_three ≡ b.told_three → a ≡ b
same_holdings a b e f g h k =
    let whole : (x : Holdings) → Holdings =
    λ x. record { answer = x.answer; values = x.values; confidences = x.confidences; told_two = x.told_two; told_three = x.told_three } in
    let same : whole a ≡ whole b = cc in
    same

stores_alike :
    {s : Settings} {hs gs : List Held} {vs us cs ks : List ℕ} → hs ≡ gs → vs ≡ us → cs ≡ ks → StoresHeld s gs us ks → StoresHeld s hs vs cs
stores_alike {s} {hs} {gs} {vs} {us} {cs} {ks} e f g x =
    subst (λ (y : List Held). StoresHeld s y vs cs) (sym e)
    (subst (λ (y : List ℕ). StoresHeld s gs y cs) (sym f) (subst (λ (y : List ℕ). StoresHeld s gs us y) (sym g) x))

-- refused, nothing is handed out
pub refused_says : (c : Column) (a : ℕ) → a ≡ ask_refusal (view c) → (a ≡ 0 → ⊥) → ResultSays c (no_holdings a)
unfolding no_holdings
refused_says c a e z =
    record { answered = e; done = λ f. absurd (z f); two = λ f. absurd (z f); three = λ f. absurd (z f); refused = λ f. refl }

-- in round four, what the column has found
pub done_says :
    (c : Column) (v : Verdict) → ask_refusal (view c) ≡ 0 → c.who.n * c.who.w ≤ length c.found.values →
    c.who.n ≤ length c.found.confidences → Fronts c.found (c.who.n * c.who.w) c.who.n v → ResultSays c (holdings_of (Ok v))
unfolding Fronts view who_in who_as settings_of settings value_size
done_says c v e room many fronts =
    let s = settings_of c.who in
    let f = c.found in
    let four = ask_round (view c) e in
    record {
      answered = sym e;
      done = λ z.
          stores_alike (found_held s c.round f (omega arith))
          (ap (λ (x : Verdict). x.values) fronts) (ap (λ (x : Verdict). x.confidences) fronts)
          (result_stores s f.values f.confidences room many);
      two = λ z. ap (λ (x : Verdict). x.told_two) fronts ∙ ap (padded most_columns) (sym (found_two s c.round f (omega arith)));
      three = λ z. ap (λ (x : Verdict). x.told_three) fronts ∙ ap (padded most_columns) (sym (found_three s c.round f (omega arith)));
      refused = λ z. absurd (z refl);
    }
