-- The own check values in an array: its first bytes, cut into values again, are the check values that were put there.
-- Assumes nothing.
use mathlib.Core.Path.{◌≡◌, refl, sym, ◌∙◌, ap, ap₂, subst}
use mathlib.Core.Bool.{true}
use mathlib.Core.List.{List, [], ◌∷◌}
use mathlib.Mathlib.Data.Bool.Basic.{and_intro}
use Prim.Native.Nat.{ℕ, zero, suc, ◌*◌}
use native.Mathlib.Omega.{arith}
use native.Mathlib.Nat.{suc-mul}
use lib.ListN.{length, take, drop, length-append}
use lib.Seq.{take_at, drop_at}
use borrow.Author.Tests.{eq-eqb}
use Rattle.arrays.specs.Array.{in_front}
use Rattle.code.specs.Settings.{settings, check_count, value_size}
use Rattle.code.specs.Vector.{is_vector, are_checks, has_checks, cut, glued}
use Rattle.code.specs.Entry.{values_in, ChecksPut}
use Rattle.arrays.proofs.Bytes.{Bytes}
use Rattle.code.proofs.Vectors.Cut.{cut_length, cut_values}
use Rattle.code.proofs.Vectors.Planes.{Values, values_back, vector_back, checked_of}

glued_length : (n w : ℕ) (vs : List (List ℕ)) → length vs ≡ n → Values w vs → length (glued vs) ≡ n * w
unfolding glued
glued_length zero w [] e v = omega arith
glued_length zero w (x ∷ vs) e v = absurd (omega arith)
glued_length (suc n) w [] e v = absurd (omega arith)
glued_length (suc n) w (x ∷ vs) e v =
    omega (arith, length-append x (glued vs), v.0, glued_length n w vs (omega arith) v.2, suc-mul n w)

cut_glued : (n w : ℕ) (vs : List (List ℕ)) → length vs ≡ n → Values w vs → cut n w (glued vs) ≡ vs
unfolding cut glued
cut_glued zero w [] e v = refl
cut_glued zero w (x ∷ vs) e v = absurd (omega arith)
cut_glued (suc n) w [] e v = absurd (omega arith)
cut_glued (suc n) w (x ∷ vs) e v =
    ap₂ ◌∷◌ (take_at x (glued vs) w v.0) (ap (cut n w) (drop_at x (glued vs) w v.0) ∙ cut_glued n w vs (omega arith) v.2)

pub own_checks :
    (n t w : ℕ) (vector out now : List ℕ) → ChecksPut (settings n t w) vector out now →
    has_checks (settings n t w) (values_in (settings n t w) n vector) (values_in (settings n t w) (2 * t) (take (2 * t * w) now)) ≡ true
unfolding ChecksPut in_front values_in settings check_count value_size
own_checks n t w vector out now put =
    let checked = checked_of (settings n t w) (cut n w vector) put.0 put.1 in
    let front = take_at (glued put.0) (drop (length (glued put.0)) out) (2 * t * w) (glued_length (2 * t) w put.0 checked.many checked.values) in
    subst (λ (cs : List (List ℕ)). has_checks (settings n t w) (cut n w vector) cs ≡ true)
    (sym (ap (cut (2 * t) w) (ap (take (2 * t * w)) put.2 ∙ front) ∙ cut_glued (2 * t) w put.0 checked.many checked.values)) put.1

pub is_vector_in : (n t w : ℕ) (vector : List ℕ) → length vector ≡ n * w → Bytes vector → is_vector (settings n t w) (values_in (settings n t w) n vector) ≡ true
unfolding settings value_size values_in
is_vector_in n t w vector l b =
    vector_back (settings n t w) (cut n w vector) (record { many = cut_length n w vector; values = cut_values n w vector (omega arith) b })

pub are_checks_in : (n t w : ℕ) (checks : List ℕ) → length checks ≡ 2 * t * w → Bytes checks → are_checks (settings n t w) (values_in (settings n t w) (2 * t) checks) ≡ true
unfolding settings value_size check_count values_in are_checks
are_checks_in n t w checks l b =
    and_intro (eq-eqb _ _ (cut_length (2 * t) w checks)) (values_back w (cut (2 * t) w checks) (cut_values (2 * t) w checks (omega arith) b))
