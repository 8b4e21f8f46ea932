-- The lines of opening and of a record: the group's first, then those of the own value, whose zeros are tested byte by byte. Assumes
-- nothing.
use mathlib.Core.Path.{◌≡◌, sym}
use mathlib.Core.Bool.{not}
use mathlib.Core.List.{List, [], ◌∷◌}
use Prim.Native.Nat.{ℕ}
use lib.Dec.{eqb}
use lib.ListN.{length, take}
use Rattle.arrays.specs.Array.{all_zero}
use Rattle.code.specs.Settings.{settings, settings_refusal, value_size}
use Rattle.grading.proofs.Value.{all_zero_blank}
use Rattle.record.specs.Record.{who_as}
use Rattle.record.specs.Refusal.{line, first_of, number_refusal, size_refusal, blank_refusal, open_refusal, record_refusal}
use Rattle.record.specs.View.{settings_of, who_in}
use Rattle.record.specs.declared.Identity.{Identity}
use Rattle.record.proofs.Refusal.{first_of_group}

pub open_tests :
    (n t w k : ℕ) (v : List ℕ) →
    open_refusal (settings n t w) k v
    ≡ first_of
    (first_of (settings_refusal (settings n t w) ∷ number_refusal n k ∷ []) ∷ line 5 (not (eqb (length v) w)) ∷ line 6 (all_zero v) ∷ [])
unfolding open_refusal size_refusal blank_refusal settings
open_tests n t w k v = rw (all_zero_blank v) (sym (first_of_group (settings_refusal (settings n t w) ∷ number_refusal n k ∷ []) _))

pub record_tests :
    (i : Identity) →
    record_refusal (who_in i)
    ≡ first_of
    (first_of (settings_refusal (settings i.n i.t i.w) ∷ number_refusal i.n i.number ∷ []) ∷ line 6 (all_zero (take i.w i.own)) ∷ [])
unfolding record_refusal blank_refusal who_in who_as settings_of settings value_size
record_tests i = rw (all_zero_blank (take i.w i.own)) (sym (first_of_group (settings_refusal (settings i.n i.t i.w) ∷ number_refusal i.n i.number ∷ []) _))
