-- Good columns as defined, whose values and frames are bytes, have columns as built that run the same lists, read as the same, and have
-- a result to answer. So a group that meets the conditions of `Gradecast` gives one that meets those of `BuiltGradecast`.
-- Assumes nothing.
use mathlib.Core.Path.{◌≡◌, refl, sym, ap, ap₂, subst}
use mathlib.Core.Bool.{Bool, true, ◌&&◌}
use mathlib.Core.List.{List, [], ◌∷◌, map}
use Prim.Native.Nat.{ℕ, suc, ◌+◌, ◌≤◌}
use native.Mathlib.Omega.{arith}
use lib.ListN.{length}
use Rattle.arrays.proofs.Bool.{and_split}
use Rattle.code.specs.Settings.{Settings, settings}
use Rattle.code.specs.Plane.{byte_list}
use Rattle.record.specs.Record.{Rec, opened}
use Rattle.record.specs.View.{view}
use Rattle.record.specs.Stored.{identity, opened_column}
use Rattle.record.specs.declared.Column.{Column}
use Rattle.record.proofs.Refusal.{Opens, opens_of}
use Rattle.record.proofs.View.{view_opened}
use Rattle.gradecast.specs.Promise.{Good, Among, first, other, Ran, Conditions}
use Rattle.gradecast.specs.Built.{BuiltRun, Built, BuiltRan, BuiltConditions, defined}
use Rattle.gradecast.proofs.Proper.{proper_open}
use Rattle.exchanges.proofs.Building.Following.{Stored, run_built}
use Rattle.exchanges.proofs.Building.ByteRecord.{byte_frames}
use Rattle.exchanges.proofs.Building.Sending.{sendable}

-- a good column whose own value and frames are bytes
unfoldable pub of_bytes : Good → Bool
of_bytes g = byte_list g.own && byte_frames g.calls

-- a column as built that reads as a good column
pub record Followed (s : Settings) (run : ℕ) (g : Good) : Type 0 where
  pub built : Built
  pub ran : BuiltRan s run built
  pub same : defined built ≡ g
  pub stored : Stored built.last

opened_stored : (s : Settings) (run : ℕ) (g : Good) → Stored (opened_column (identity s.n s.t s.w g.number run g.own))
unfolding Stored opened_column
opened_stored s run g e = absurd (omega arith)

pub followed : (s : Settings) (run : ℕ) (g : Good) → Ran s run g → of_bytes g ≡ true → Followed s run g
unfolding defined settings of_bytes
followed s run g r e =
    record {
      built = record { number = g.number; own = g.own; first = start; calls = g.calls; answers = end.1; last = end.0 };
      ran =
          record {
            opening = record { answered = sym r.opens; done = λ z. refl; refused = λ z. absurd (z refl) };
            steps = end.2;
          };
      same = ap (λ (z : Rec). record { number = g.number; own = g.own; calls = g.calls; last = z }) end.3;
      stored = end.4;
    }
  where
    o : Opens s g.number g.own
    o = opens_of s g.number g.own r.opens

    start : Column
    start = opened_column (identity s.n s.t s.w g.number run g.own)

    reads : view start ≡ opened s g.number run g.own
    reads = view_opened s.n s.t s.w g.number run g.own o

    bytes : (byte_list g.own ≡ true) × (byte_frames g.calls ≡ true)
    bytes = and_split (byte_list g.own) (byte_frames g.calls) e

    end : (d : Column) × (answers : List ℕ) × BuiltRun start g.calls answers d × (view d ≡ g.last) × Stored d
    end =
        run_built s g.number run g.own o start reads (proper_open s g.number run g.own o) (opened_stored s run g)
        (sendable s g.number run g.own o g.calls bytes.0 bytes.1) r.leads

-- a list of them
module _ (s : Settings) (run : ℕ) where
  unfoldable pub builts : (gs : List Good) → ((g : Good) → Among g gs → Followed s run g) → List Built
  builts [] f = []
  builts (g ∷ gs) f = (f g (first gs)).built ∷ builts gs (λ a i. f a (other g gs i))

  builts_same : (gs : List Good) (f : (g : Good) → Among g gs → Followed s run g) → map defined (builts gs f) ≡ gs
  unfolding builts
  builts_same [] f = refl
  builts_same (g ∷ gs) f = ap₂ ◌∷◌ (f g (first gs)).same (builts_same gs (λ a i. f a (other g gs i)))

  builts_length : (gs : List Good) (f : (g : Good) → Among g gs → Followed s run g) → length (builts gs f) ≡ length gs
  unfolding builts
  builts_length [] f = refl
  builts_length (g ∷ gs) f = ap suc (builts_length gs (λ a i. f a (other g gs i)))

  builts_each :
      (gs : List Good) (f : (g : Good) → Among g gs → Followed s run g) (b : Built) → Among b (builts gs f) →
      BuiltRan s run b × Among (defined b) gs × Stored b.last
  unfolding builts
  builts_each (g ∷ gs) f b (first bs) =
      let x = f g (first gs) in (x.ran, subst (λ (a : Good). Among a (g ∷ gs)) (sym x.same) (first gs), x.stored)
  builts_each (g ∷ gs) f b (other a bs i) =
      let x = builts_each gs (λ c j. f c (other g gs j)) b i in (x.0, other g gs x.1, x.2)
  builts_each [] f b x' = elim x' [ ]

  builts_at :
      (gs : List Good) (f : (g : Good) → Among g gs → Followed s run g) (g : Good) → Among g gs → (b : Built) × Among b (builts gs f) × (defined b ≡ g)
  unfolding builts
  builts_at (g ∷ gs) f a (first hs) = ((f g (first gs)).built, first _, (f g (first gs)).same)
  builts_at (g ∷ gs) f a (other h hs i) =
      let x = builts_at gs (λ c j. f c (other g gs j)) a i in (x.0, other _ _ x.1, x.2)
  builts_at [] f a x' = elim x' [ ]

-- a group as built
module _ (s : Settings) (run : ℕ) (gs : List Good) (conditions : Conditions s run gs) (bytes : (g : Good) → Among g gs → of_bytes g ≡ true) where
  unfoldable pub built_group : List Built
  built_group = builts s run gs (λ g i. followed s run g (conditions.ran g i) (bytes g i))

  pub group_same : map defined built_group ≡ gs
  unfolding built_group
  group_same = builts_same s run gs _

  pub group_each : (b : Built) → Among b built_group → BuiltRan s run b × Among (defined b) gs × Stored b.last
  unfolding built_group
  group_each = builts_each s run gs _

  pub group_at : (g : Good) → Among g gs → (b : Built) × Among b built_group × (defined b ≡ g)
  unfolding built_group
  group_at = builts_at s run gs _

  enough : s.n ≤ length built_group + s.t
  unfolding built_group
  enough = rw (builts_length s run gs (λ g i. followed s run g (conditions.ran g i) (bytes g i))) conditions.enough

  pub group_conditions : BuiltConditions s run built_group
  unfolding defined
  group_conditions =
      record {
        different = rw group_same conditions.different;
        enough = enough;
        ran = λ a i. (group_each a i).0;
        fair = λ a b i j. conditions.fair (defined a) (defined b) (group_each a i).1 (group_each b j).1;
      }
