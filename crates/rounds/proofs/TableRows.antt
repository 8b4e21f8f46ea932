-- The rows of a table as they are put in. The own row goes in first, and the own checks give it; after that each slot's row in turn. What is
-- put in stays as it is while later rows are, the last repair's too, which stands behind or is the own one. Assumes nothing.
use mathlib.Core.Path.{◌≡◌, refl, sym, ◌∙◌, ap}
use mathlib.Core.Bool.{Bool, true, false}
use mathlib.Core.List.{List, [], ◌∷◌}
use mathlib.Core.Logic.{◌⊎◌, inl, inr, ⊎_elim}
use mathlib.Core.Option.{some}
use Prim.Native.Nat.{ℕ, zero, suc, ◌+◌, ◌*◌, ◌-◌, ◌≤◌, ◌<◌}
use native.Mathlib.Omega.{arith}
use lib.Dec.{eqb}
use lib.ListN.{length, get_or, take, set, replicate, length-set, get_or-replicate}
use lib.Seq.{get_or-set_same, get_or-set_other, get_or-take, length-take-le}
use borrow.Author.Count.{below_more}
use borrow.Author.Tests.{eqb-true, eqb-false}
use Rattle.arrays.proofs.Front.{front_kept}
use Rattle.arrays.proofs.Zeros.{zeros_at}
use Rattle.code.specs.Settings.{Settings, settings, settings_refusal, value_size}
use Rattle.code.specs.Size.{most_columns, value_room, checks_room}
use Rattle.code.specs.Vector.{is_vector, has_checks}
use Rattle.code.specs.Entry.{values_in}
use Rattle.code.specs.Promise.{Repairs}
use Rattle.code.proofs.Vectors.Planes.{differ_values_self, repairs}
use Rattle.grading.specs.Value.{Vector, blank, blanks, entries}
use Rattle.grading.proofs.Value.{entries_alike}
use Rattle.counting.specs.Steps.Table.{Planes, Shaped, written_plane, RowPut, byte_in, value_in, row_in}
use Rattle.counting.proofs.Planes.{zero_plane, row_written, row_put_others}
use Rattle.record.specs.Frame.{checks_in}
use Rattle.record.specs.declared.Slot.{Slot}
use Rattle.rounds.specs.Exchange.{Row}
use Rattle.rounds.specs.Steps.Senders.{coded_settings, coded_vector, BlankRows, checks_size, told_of, row_of, LastRow, EmptyRow, SlotPut, SlotRow, SlotsTold}
use Rattle.record.specs.Steps.Due.{slot_past}
use Rattle.rounds.specs.declared.coded.Coded.{Coded}
use Rattle.rounds.specs.declared.senders.Last.{Last}
use Rattle.rounds.proofs.Rows.{checked_vector}
use Rattle.rounds.proofs.SenderRow.{cut_sized}

-- the own checks give the own row, with no place changed
own_checked :
    (s : Settings) (vs : Vector) (x : List ℕ) → settings_refusal s ≡ 0 → is_vector s vs ≡ true → has_checks s vs (checks_in s x) ≡ true →
    Row s vs (some x) vs 0
unfolding Row Repairs
own_checked s vs x fine v e =
    let none = differ_values_self vs in
    let repair = repairs s vs vs (checks_in s x) fine v v e (omega arith) in
    inl (checks_in s x, repair.0, sym (repair.1 ∙ none))

-- what is put in so far: the own row, the first slots' rows and what they tell, blanks ahead, and the last repair, whose row is behind or
-- the own one
pub record Put (own : Coded) (number : ℕ) (slots : List Slot) (old : List ℕ) (i : ℕ) (x : Planes) (told : List ℕ) (last : Last) (row : List ℕ) : Type 0 where
  pub shape : Shaped x
  pub told_long : length told ≡ length old
  pub own_row : row_of (coded_settings own) x (number - 1) ≡ coded_vector own
  pub own_told : get_or told (number - 1) 0 ≡ 0
  pub rows :
      (j : ℕ) → j < i → (j + 1 ≡ number → ⊥) →
      SlotRow (coded_settings own) (coded_vector own) false (get_or slots j slot_past) (row_of (coded_settings own) x j) (get_or told j 0)
  pub ahead : (j : ℕ) → i ≤ j → j < own.settings.n → (j + 1 ≡ number → ⊥) → row_of (coded_settings own) x j ≡ blanks (coded_settings own)
  pub told_ahead : (j : ℕ) → own.settings.n ≤ j → get_or told j 0 ≡ get_or old j 0
  pub memo : LastRow (coded_settings own) (coded_vector own) last x
  pub at : (last.at < i) ⊎ (last.at + 1 ≡ number)
  pub empty : EmptyRow (coded_settings own) row

-- the number is a column's, and each column has a place for what it tells
pub record InRange (own : Coded) (number : ℕ) (array : List ℕ) : Type 0 where
  pub low : 1 ≤ number
  pub high : number ≤ own.settings.n
  pub room : own.settings.n ≤ length array

module _ (own : Coded) (number : ℕ) (slots : List Slot) (array : List ℕ) (range : InRange own number array) where
  abbrev s : Settings
  s = coded_settings own

  -- the array for what is told, where the own row's 0 stands
  abbrev old : List ℕ
  old = set array (number - 1) 0

  old_long : length old ≡ length array
  old_long = length-set array (number - 1) 0

  -- the own row alone: as if the last repair had been by the own checks
  pub put_own :
      (x x_now : Planes) (row : List ℕ) (last : Last) → own.settings.n * own.settings.w ≤ length own.vector → length own.checks ≡ checks_room →
      BlankRows s x → RowPut own.settings.w (number - 1) (written_plane own.settings.n own.settings.w own.vector x (number - 1)) x x_now →
      last.checks ≡ own.checks → last.answer.answer ≡ 0 → last.answer.changed ≡ 0 → last.at ≡ number - 1 → EmptyRow s row →
      Put own number slots old 0 x_now old last row
  unfolding coded_vector coded_settings settings value_size values_in told_of
  put_own x x_now row last long checks_long blank put checks answer changed at empty =
      record {
        shape = put.shape;
        told_long = refl;
        own_row = mine;
        own_told = get_or-set_same array (number - 1) 0 0 (omega arith);
        rows = λ j h. absurd (omega arith);
        ahead = λ j h l d. row_put_others own.settings.n own.settings.w (number - 1) x x_now _ put j (omega arith) ∙ blank j l;
        told_ahead = λ j h. refl;
        memo =
            record {
              long = rw checks checks_long;
              few = rw changed (omega arith);
              row =
                  rw (checks, at, mine, answer, changed)
                  (own_checked s (coded_vector own) (take (checks_size s) own.checks) own.settings.allowed
                  (checked_vector s (coded_vector own) _ own.checked (cut_sized s own.vector long)) own.checked);
            };
        at = inr (omega arith);
        empty = empty;
      }
    where
      mine : row_of s x_now (number - 1) ≡ coded_vector own
      mine = row_written own.settings.n own.settings.w (number - 1) x x_now own.vector put long

  module _ (i : ℕ) (x : Planes) (told : List ℕ) (last : Last) (row : List ℕ) (put : Put own number slots old i x told last row) where
    -- the last repair's row is not the one that comes next
    pub last_apart : (i + 1 ≡ number → ⊥) → last.at ≡ i → ⊥
    last_apart other e = ⊎_elim (λ h. omega arith) (λ h. other (omega arith)) put.at

    pub last_inside : i ≤ own.settings.n → last.at < own.settings.n
    last_inside h = ⊎_elim (λ l. omega arith) (λ l. omega arith) put.at

    -- the own slot is passed over
    pub put_passed : i + 1 ≡ number → Put own number slots old (i + 1) x told last row
    put_passed e =
        record {
          shape = put.shape;
          told_long = put.told_long;
          own_row = put.own_row;
          own_told = put.own_told;
          rows = λ j h d. put.rows j (omega arith) d;
          ahead = λ j h l d. put.ahead j (omega arith) l d;
          told_ahead = put.told_ahead;
          memo = put.memo;
          at = ⊎_elim (λ h. inl (omega arith)) (λ h. inr h) put.at;
          empty = put.empty;
        }

    -- another slot's row
    pub put_slot :
        (i + 1 ≡ number → ⊥) → i < own.settings.n → (last_now : Last) (tells : ℕ) (row_now : List ℕ) (x_now : Planes) →
        SlotPut s (coded_vector own) (get_or slots i slot_past) i last last_now tells row_now x x_now →
        Put own number slots old (i + 1) x_now (set told i tells) last_now row_now
    put_slot other inside last_now tells row_now x_now r =
        record {
          shape = r.shape;
          told_long = length-set told i tells ∙ put.told_long;
          own_row = r.others (number - 1) (omega arith) ∙ put.own_row;
          own_told = get_or-set_other told i (number - 1) tells 0 (omega arith) ∙ put.own_told;
          rows =
              below_more
              (λ j. ((j + 1 ≡ number → ⊥) → SlotRow s (coded_vector own) false (get_or slots j slot_past) (row_of s x_now j) (get_or (set told i tells) j 0))) i
              (λ j h d. rw (r.others j (omega arith), get_or-set_other told i j tells 0 (omega arith)) (put.rows j h d))
              (λ d. rw (get_or-set_same told i tells 0 (omega (arith, put.told_long, old_long))) r.here);
          ahead = λ j h l d. r.others j (omega arith) ∙ put.ahead j (omega arith) l d;
          told_ahead = λ j h. get_or-set_other told i j tells 0 (omega arith) ∙ put.told_ahead j h;
          memo = r.memo;
          at = ⊎_elim (λ e. ⊎_elim (λ h. inl (omega arith)) (λ h. inr (omega arith)) put.at) (λ e. inl (omega arith)) r.at;
          empty = r.empty;
        }

  -- all slots
  pub put_all :
      (x : Planes) (told : List ℕ) (last : Last) (row : List ℕ) → Put own number slots old own.settings.n x told last row →
      SlotsTold s (coded_vector own) number slots x array told
  unfolding SlotsTold SlotRow coded_settings settings
  put_all x told last row put = (
    take own.settings.n told,
    record {
      many = length-take-le own.settings.n told (omega (arith, put.told_long, old_long));
      each = λ j h. rw (get_or-take own.settings.n told j 0 h) (each j h (eqb (j + 1) number) refl);
    },
    front_kept own.settings.n array told (put.told_long ∙ old_long) range.room (λ j h. put.told_ahead j h ∙ get_or-set_other array (number - 1) j 0 0 (omega arith)),
  )
    where
      each : (j : ℕ) → j < own.settings.n → (q : Bool) → eqb (j + 1) number ≡ q → SlotRow s (coded_vector own) q (get_or slots j slot_past) (row_of s x j) (get_or told j 0)
      each j h true e = let here : j ≡ number - 1 = omega (arith, eqb-true (j + 1) number e) in rw here (put.own_row, put.own_told)
      each j h false e = put.rows j h (eqb-false (j + 1) number e)

-- a table as it is made
entries_alone : {A : Type 0} (n i : ℕ) (x : A) → entries n i (λ k. x) ≡ replicate n x
unfolding entries
entries_alone zero i x = refl
entries_alone (suc n) i x = ap (λ (xs : List _). x ∷ xs) (entries_alone n (suc i) x)

pub blank_table : (s : Settings) → s.n ≤ most_columns → value_size s ≤ value_room → BlankRows s (replicate value_room zero_plane)
unfolding row_in value_in byte_in blanks blank
blank_table s few small j h =
    entries_alike s.n 0 _ _ (λ k l. entries_alike (value_size s) 0 _ _ (λ p m. byte p k (omega arith)) ∙ entries_alone (value_size s) 0 0)
    ∙ entries_alone s.n 0 (replicate (value_size s) 0)
  where
    byte : (p k : ℕ) → p < value_room → get_or (get_or (get_or (replicate value_room zero_plane) p []) j []) k 0 ≡ 0
    byte p k g =
        ap (λ (rows : List (List ℕ)). get_or (get_or rows j []) k 0) (get_or-replicate {A = List (List ℕ)} value_room p zero_plane [] g)
        ∙ ap (λ (bs : List ℕ). get_or bs k 0) (get_or-replicate {A = List ℕ} most_columns j (replicate most_columns 0) [] (omega arith)) ∙ zeros_at most_columns k
