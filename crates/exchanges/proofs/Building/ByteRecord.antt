-- Records of bytes. Where the own value and the frames that are taken are bytes, so are V and Y all along a list of calls: each of their
-- values is the own one, one taken, one of a repaired vector, or blank. Assumes nothing.
use mathlib.Core.Path.{◌≡◌, refl, sym, subst}
use mathlib.Core.Bool.{Bool, true, false, cond, ◌&&◌}
use mathlib.Core.List.{List, [], ◌∷◌}
use mathlib.Core.Logic.{◌⊎◌, inl, inr}
use mathlib.Core.Option.{Option, none, some}
use Prim.Native.Nat.{ℕ, zero, suc, ◌+◌, ◌<◌, ◌≤◌}
use native.Mathlib.Nat.{eq-or-lt_of_le}
use native.Mathlib.Omega.{arith}
use lib.Dec.{eqb}
use lib.ListN.{length, get_or, get_or-replicate}
use Rattle.arrays.proofs.Bool.{and_split}
use Rattle.code.specs.Settings.{Settings, value_size}
use Rattle.code.specs.Plane.{byte_list}
use Rattle.code.specs.Vector.{is_vector}
use Rattle.arrays.proofs.Bytes.{Bytes, bytes_drop, bytes_zeros}
use Rattle.code.proofs.Tests.{bytes_of}
use Rattle.code.proofs.Vectors.Planes.{Values, vector_of, vector_back}
use Rattle.grading.specs.Value.{Value, Vector, Rows, blank, blanks}
use Rattle.grading.specs.Count.{agreed_at, agreed_vector}
use Rattle.grading.proofs.Value.{entries_at}
use Rattle.record.specs.Frame.{header_size, round_in, operand_in}
use Rattle.record.specs.Record.{Rec, who_as, opened, taken_at, counted, with_frame}
use Rattle.rounds.specs.Exchange.{value_or_blank, heard_at, heard_vector, Row, Table}
use Rattle.column.specs.Call.{Call, taking, sending, closing, asking}
use Rattle.record.proofs.Refusal.{Opens}
use Rattle.record.proofs.FrameRefusal.{taken_of}
use Rattle.record.proofs.There.{each_with}
use Rattle.rounds.proofs.Rows.{Sized, table_rows}
use Rattle.column.proofs.Step.{Unchanged, Closes, Step, stays, takes, closes}
use Rattle.grading.proofs.Grade.{agreed_is}
use Rattle.gradecast.proofs.Proper.{Proper, none_there}

-- values of bytes
abbrev pub ByteValues : (many : ℕ) → Vector → Type 0
ByteValues n vs = (j : ℕ) → j < n → Bytes (get_or vs j [])

values_bytes : (w : ℕ) (vs : Vector) → Values w vs → ByteValues (length vs) vs
values_bytes w [] l j h = absurd (omega arith)
values_bytes w (v ∷ vs) l zero h = l.1
values_bytes w (v ∷ vs) l (suc j) h = values_bytes w vs l.2 j (omega arith)

bytes_values : (w : ℕ) (vs : Vector) → ((j : ℕ) → j < length vs → length (get_or vs j []) ≡ w) → ByteValues (length vs) vs → Values w vs
bytes_values w [] h b = tt
bytes_values w (v ∷ vs) h b =
    (h 0 (omega arith), b 0 (omega arith), bytes_values w vs (λ j l. h (suc j) (omega arith)) (λ j l. b (suc j) (omega arith)))

vector_bytes : (s : Settings) (vs : Vector) → is_vector s vs ≡ true → ByteValues s.n vs
vector_bytes s vs e j h = let v = vector_of s vs e in values_bytes (value_size s) vs v.values j (rw v.many h)

pub bytes_vector : (s : Settings) (vs : Vector) → Sized s vs → ByteValues s.n vs → is_vector s vs ≡ true
bytes_vector s vs z b =
    vector_back s vs
    (record {
      many = z.many;
      values = bytes_values (value_size s) vs (λ j h. z.each j (rw z.many at h)) (λ j h. b j (rw z.many at h));
    })

blank_bytes : (s : Settings) → Bytes (blank s)
unfolding blank
blank_bytes s = bytes_zeros (value_size s)

blanks_bytes : (s : Settings) → ByteValues s.n (blanks s)
unfolding blanks
blanks_bytes s j h = subst Bytes (sym (get_or-replicate s.n j (blank s) [] h)) (blank_bytes s)

-- a row of a table
row_bytes : (s : Settings) (vs : Vector) (f : Option (List ℕ)) (row : Vector) (m : ℕ) → Row s vs f row m → ByteValues s.n row
unfolding Row
row_bytes s vs none row m r = rw r.0 (blanks_bytes s)
row_bytes s vs (some x) row m (inl r) = vector_bytes s row r.1.vector
row_bytes s vs (some x) row m (inr r) = rw r.1 (blanks_bytes s)

-- operands of bytes
abbrev pub ByteOperands : List (Option (List ℕ)) → Type 0
ByteOperands fs = (j : ℕ) (x : List ℕ) → taken_at fs j ≡ some x → Bytes x

-- a record of bytes
pub record ByteRecord (s : Settings) (r : Rec) : Type 0 where
  pub own : Bytes r.who.own
  pub operands : ByteOperands r.frames
  pub early_operands : ByteOperands r.early
  pub heard : 2 ≤ r.round → ByteValues s.n r.found.heard
  pub agreed : 3 ≤ r.round → ByteValues s.n r.found.agreed

heard_bytes :
    (r : Rec) → Bytes r.who.own → ByteOperands r.frames → ByteValues r.who.settings.n (heard_vector r)
unfolding heard_vector heard_at value_or_blank counted
heard_bytes r own operands j h =
    subst Bytes (sym (entries_at r.who.settings.n 1 j (heard_at r) [] h)) (go (eqb (1 + j) r.who.number) (taken_at r.frames (1 + j)) refl)
  where
    go : (q : Bool) (f : Option (List ℕ)) → taken_at r.frames (1 + j) ≡ f → Bytes (cond q r.who.own (value_or_blank r.who.settings f))
    go true f g = own
    go false none g = blank_bytes r.who.settings
    go false (some x) g = operands (1 + j) x g

agreed_bytes :
    (r : Rec) (rows : Rows) (told : List ℕ) → 1 ≤ r.who.number → ByteValues r.who.settings.n r.found.heard → Table r r.found.heard rows told →
    ByteValues r.who.settings.n (agreed_vector r.who.settings rows)
unfolding agreed_vector
agreed_bytes r rows told low b t j h =
    subst Bytes (sym (entries_at r.who.settings.n 0 j (agreed_at r.who.settings rows) [] h))
    (agreed_is Bytes r.who.settings rows (0 + j) (blank_bytes r.who.settings)
    (λ i l.
    table_rows (λ k row m. ByteValues r.who.settings.n row) r r.found.heard rows told low t b
    (λ k row m l d x. row_bytes r.who.settings r.found.heard _ row m x) i
    (rw t.many at l) (0 + j) (omega arith)))

-- calls with frames of bytes
unfoldable pub byte_frames : List Call → Bool
byte_frames [] = true
byte_frames (taking k bs ∷ xs) = byte_list bs && byte_frames xs
byte_frames (sending room ∷ xs) = byte_frames xs
byte_frames (closing ∷ xs) = byte_frames xs
byte_frames (asking ∷ xs) = byte_frames xs

unfoldable pub ByteCall : Call → Type 0
ByteCall (taking k bs) = Bytes bs
ByteCall (sending room) = Unit {0}
ByteCall closing = Unit {0}
ByteCall asking = Unit {0}

pub first_call : (x : Call) (xs : List Call) → byte_frames (x ∷ xs) ≡ true → ByteCall x × (byte_frames xs ≡ true)
unfolding byte_frames ByteCall
first_call (taking k bs) xs e = let both = and_split (byte_list bs) (byte_frames xs) e in (bytes_of bs both.0, both.1)
first_call (sending room) xs e = (tt, e)
first_call closing xs e = (tt, e)
first_call asking xs e = (tt, e)

-- each step keeps it
module _ (s : Settings) (k run : ℕ) (v : Value) (o : Opens s k v) where
  pub open_bytes : byte_list v ≡ true → ByteRecord s (opened s k run v)
  unfolding opened who_as
  open_bytes e =
      record {
        own = bytes_of v e;
        operands = λ j x f. none_there s _ j x refl f;
        early_operands = λ j x f. none_there s _ j x refl f;
        heard = λ h. absurd (omega arith);
        agreed = λ h. absurd (omega arith);
      }

  unchanged_bytes : (r q : Rec) → ByteRecord s r → Unchanged r q → ByteRecord s q
  unchanged_bytes r q b u =
      record {
        own = rw u.who b.own;
        operands = rw u.frames b.operands;
        early_operands = rw u.early b.early_operands;
        heard = λ h. rw u.found (b.heard (omega (arith, u.round)));
        agreed = λ h. rw u.found (b.agreed (omega (arith, u.round)));
      }

  takes_bytes : (r : Rec) (m j : ℕ) (y : List ℕ) → ByteRecord s r → 1 ≤ j → Bytes y → ByteRecord s (with_frame r m j y)
  unfolding with_frame
  takes_bytes r m j y b low f =
      record {
        own = b.own;
        operands = each_with Bytes _ r.frames j y low (λ e. f) b.operands;
        early_operands = each_with Bytes _ r.early j y low (λ e. f) b.early_operands;
        heard = b.heard;
        agreed = b.agreed;
      }

  closes_bytes : (r q : Rec) → Proper s k run v r → ByteRecord s r → Closes r q → ByteRecord s q
  closes_bytes r q p b x =
      record {
        own = rw x.who b.own;
        operands = rw x.frames b.early_operands;
        early_operands = λ j y e. none_there r.who.settings q.early j y x.early e;
        heard = λ h. heard (eq-or-lt_of_le x.low);
        agreed = λ h. agreed (eq-or-lt_of_le (let two : 2 ≤ r.round = omega (arith, x.round) in two));
      }
    where
      by_settings : (vs : Vector) → ByteValues r.who.settings.n vs → ByteValues s.n vs
      by_settings vs = subst (λ (u : Settings). ByteValues u.n vs) p.settings

      heard : (1 ≡ r.round) ⊎ (1 < r.round) → ByteValues s.n q.found.heard
      heard (inl e) = rw (x.one (sym e)) (by_settings (heard_vector r) (heard_bytes r b.own b.operands))
      heard (inr e) = rw (x.heard_kept e) (b.heard e)

      agreed : (2 ≡ r.round) ⊎ (2 < r.round) → ByteValues s.n q.found.agreed
      agreed (inl e) =
          let t = x.two (sym e) in
          rw t.2 (by_settings (agreed_vector r.who.settings t.0) (agreed_bytes r t.0 q.found.told_two (rw p.number o.low) (rw p.settings (b.heard (omega (arith, e)))) t.1))
      agreed (inr e) = rw (x.agreed_kept e) (b.agreed e)

  pub step_bytes : (c : Call) (r q : Rec) → Proper s k run v r → ByteRecord s r → ByteCall c → Step r q c → ByteRecord s q
  unfolding ByteCall operand_in
  step_bytes c r q p b f (stays d u) = unchanged_bytes r q b u
  step_bytes c r q p b f (takes j bs e g) =
      subst (ByteRecord s) (sym g) (takes_bytes r (round_in bs) j (operand_in bs) b (taken_of r j bs e).low (bytes_drop header_size bs f))
  step_bytes c r q p b f (closes x) = closes_bytes r q p b x
