-- What settings that are not turned down say of their numbers, and that arrays have room for values within these bounds. Assumes
-- nothing.
use mathlib.Core.Path.{◌≡◌, refl}
use mathlib.Core.Bool.{Bool, true, false, ◌&&◌, not, cond}
use Prim.Native.Nat.{ℕ, ◌+◌, ◌*◌, ◌≤◌}
use native.Mathlib.Omega.{arith}
use native.Mathlib.Nat.{mul-le-mul}
use lib.Dec.{ltb, leb}
use borrow.Author.Tests.{ltb-false, leb-true}
use Rattle.code.specs.Size.{most_columns, most_checks, value_room, vector_room, checks_room}
use Rattle.lanes.specs.Lanes.{row_width}
use Rattle.code.specs.Settings.{Settings, settings, settings_refusal}
use Rattle.arrays.proofs.Bool.{and_split}

-- settings that are not turned down
pub record Sizes (s : Settings) : Type 0 where
  pub some_columns : 1 ≤ s.n
  pub few_columns : s.n ≤ most_columns
  pub few_bad : 3 * s.t + 1 ≤ s.n
  pub some_bytes : 1 ≤ s.w
  pub few_bytes : s.w ≤ value_room

none_applies : (a b c : Bool) → ◌≡◌ {A = ℕ} (cond (not a) 1 (cond b 2 (cond c 0 3))) 0 → (a ≡ true) × (b ≡ false) × (c ≡ true)
none_applies true false true e = (refl, refl, refl)
none_applies true false false e = absurd (omega arith)
none_applies true true c e = absurd (omega arith)
none_applies false b c e = absurd (omega arith)

pub sizes : (s : Settings) → settings_refusal s ≡ 0 → Sizes s
unfolding settings_refusal
sizes s e =
    let tests = none_applies (leb 1 s.n && leb s.n 32) (ltb s.n (3 * s.t + 1)) (leb 1 s.w && leb s.w 8) e in
    let columns = and_split (leb 1 s.n) (leb s.n 32) tests.0 in
    let bytes = and_split (leb 1 s.w) (leb s.w 8) tests.2 in
    record {
      some_columns = leb-true _ _ columns.0;
      few_columns = leb-true _ _ columns.1;
      few_bad = ltb-false _ _ tests.1;
      some_bytes = leb-true _ _ bytes.0;
      few_bytes = leb-true _ _ bytes.1;
    }

-- a row has room for a value
pub value_in_row : (s : Settings) → Sizes s → s.w ≤ row_width
value_in_row s z = omega arith

-- all bounds, by the numbers
pub bounds : (n t w : ℕ) → settings_refusal (settings n t w) ≡ 0 → (n ≤ most_columns) × (3 * t + 1 ≤ n) × (w ≤ value_room) × (w ≤ row_width)
unfolding settings
bounds n t w e = let z = sizes (settings n t w) e in (z.few_columns, z.few_bad, z.few_bytes, value_in_row (settings n t w) z)

-- and an array for the values, or for the check values
pub values_fit : (n w : ℕ) → n ≤ most_columns → w ≤ value_room → n * w ≤ vector_room
values_fit n w h l = mul-le-mul h l

pub check_room : (t w : ℕ) → 2 * t ≤ most_checks → w ≤ value_room → 2 * t * w ≤ checks_room
check_room t w h l = mul-le-mul h l
