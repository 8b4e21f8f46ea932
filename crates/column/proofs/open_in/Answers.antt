-- `open_in` meets its contract: who the column is stands in the empty record, in round one. Assumes nothing.
use mathlib.Core.Path.{refl, sym, ◌∙◌, ap}
use mathlib.Core.List.{List, ◌++◌}
use Prim.Native.Nat.{ℕ, ◌≤◌}
use native.Mathlib.Omega.{arith}
use lib.ListN.{length, drop, replicate}
use lib.Seq.{length-take-le}
use Rattle.arrays.specs.Array.{padded, in_front}
use Rattle.code.specs.Settings.{settings}
use Rattle.code.proofs.ValidSettings.{sizes}
use Rattle.code.specs.Size.{value_room}
use Rattle.record.specs.Stored.{identity, no_column, opened_column}
use Rattle.record.specs.declared.Identity.{Identity}
use Rattle.record.specs.declared.Column.{Column}
use Rattle.record.proofs.Refusal.{Opens, opens_of}
use Rattle.column.proofs.open_in.Goals as goal
use Rattle.column.proofs.open_in.Goals.{In_ok-check_open}

opens : (c : In_ok-check_open) → Opens (settings c.args.n c.args.t c.args.w) c.args.number c.args.own.now
opens c = opens_of _ _ _ (sym c.in_ok-check_open.ensures)

own_fits : (c : In_ok-check_open) → length c.args.own.now ≤ value_room
unfolding settings
own_fits c = omega (arith, (opens c).size, sizes _ (opens c).fine)

pub slice_bounds-value-end : goal.slice_bounds-value-end
slice_bounds-value-end c = own_fits (goal.at.slice_bounds-value-end c).In_ok-check_open

pub slice_bounds-copy_from_slice-end : goal.slice_bounds-copy_from_slice-end
slice_bounds-copy_from_slice-end c =
    sym (length-take-le (length c.args.own.now) (replicate {A = ℕ} value_room _) (own_fits (goal.at.slice_bounds-copy_from_slice-end c).In_ok-check_open))

pub copy_from_slice-requires : goal.copy_from_slice-requires
copy_from_slice-requires c =
    length-take-le (length c.args.own.now) (replicate {A = ℕ} value_room _) (own_fits (goal.at.copy_from_slice-requires c).In_ok-check_open)

-- the empty record with another column in round one
abbrev begun : Column → Identity → Column
begun c i = record { who = i; slots = c.slots; early = c.early; found = c.found; round = 1; refused = c.refused }

pub returns : goal.returns
unfolding no_column opened_column identity padded in_front
returns c empty =
    let a = c.args in
    let who : (own : List ℕ) → Identity = λ own. record { n = a.n; t = a.t; w = a.w; number = a.number; run = a.run; own = own } in
    let rest = drop (length a.own.now) (replicate {A = ℕ} value_room 0) in
    record {
      answered = c.in_ok-check_open.ensures;
      done =
          λ z.
          ap (λ (q : Column). begun q (who (c.copy_from_slice.new.self ++ rest))) empty
          ∙ ap (λ (bs : List ℕ). begun no_column (who (bs ++ rest))) c.copy_from_slice.ensures.after;
      refused = λ z. absurd (z refl);
    }
