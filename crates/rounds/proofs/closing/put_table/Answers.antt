-- `put_table` meets its contract: the rows of the vector's own checks and settings are the table of the column. Assumes nothing.
use mathlib.Core.Path.{◌≡◌, sym, ap, subst}
use native.Mathlib.Omega.{arith}
use Rattle.code.specs.Settings.{Settings, settings}
use Rattle.record.specs.View.{settings_of}
use Rattle.rounds.specs.Steps.Senders.{coded_settings, coded_vector, BlankRows, SlotRows, SlotsTold}
use Rattle.rounds.specs.Steps.Closing.{TableTold}
use Rattle.rounds.proofs.AfterRound.{inside, rows_table}
use Rattle.rounds.proofs.closing.put_table.Goals as goal

pub put_table-requires : goal.put_table-requires
unfolding settings_of coded_settings settings
put_table-requires c =
    let able = inside _ c.requires.inside.0 in
    let same : c.args.own.now.settings.n ≡ c.args.who.now.n = ap (λ (s : Settings). s.n) c.requires.inside.1 in record {
      in_range = (able.number_low, omega (arith, able.number_high), omega (arith, c.requires.room.0));
      shaped = (c.requires.room.1, subst (λ (s : Settings). BlankRows s c.args.table.now) (sym c.requires.inside.1) c.requires.room.2);
    }

pub returns : goal.returns
unfolding SlotsTold TableTold
returns c =
    let put = c.put_table in
    let who = c.args.who.now in
    let slots = c.args.slots.now in
    let own = coded_vector c.args.own.now in
    let x = put.new.table in
    let read = put.ensures in
    let told = read.0 in
    let rows = subst (λ (s : Settings). SlotRows s own who.number slots x told) c.requires.inside.1 read.1 in
    (told, rows_table who c.args.round slots own x told (inside _ c.requires.inside.0) c.requires.inside.2 rows, read.2)
