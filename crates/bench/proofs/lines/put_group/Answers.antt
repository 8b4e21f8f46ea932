-- `put_group` meets its contract: the word, the three settings, the line feed. Assumes nothing.
use mathlib.Core.Path.{ap}
use mathlib.Core.List.{append_assoc}
use Prim.Native.Nat.{ℕ, ◌≤◌}
use native.Mathlib.Omega.{arith}
use lib.ListN.{length, length-append}
use Rattle.bench.specs.Listing.{group_line}
use Rattle.bench_file.proofs.OneCommand.Faults.{small_settings}
use Rattle.bench.proofs.Listing.Decimal.{one_short, two_short}
use Rattle.bench.proofs.lines.put_group.Goals as goal
use Rattle.bench.proofs.lines.put_group.Goals.{After-put_decimal, After-put_marked, After-put_marked-2}

pub put_bytes-requires : goal.put_bytes-requires
put_bytes-requires c = omega (arith, ap length c.requires)

pub put_decimal-requires : goal.put_decimal-requires
put_decimal-requires c =
    let s = small_settings c.args.settings in
    omega (arith, s.0, ap length c.requires, length-append {A = ℕ}, ap length c.put_bytes.ensures, two_short c.args.settings.n (omega (arith, s.0)))

-- how long the text is behind each number
columns_end : (d : After-put_decimal) → length d.put_decimal.new.self ≤ 8
columns_end d =
    let s = small_settings d.args.settings in
    omega (arith, ap length d.requires, length-append {A = ℕ}, ap length d.put_bytes.ensures, ap length d.put_decimal.ensures, two_short d.args.settings.n (omega (arith, s.0)))

pub put_marked-requires : goal.put_marked-requires
put_marked-requires c =
    let s = small_settings c.args.settings in
    omega (arith, s.1, columns_end (goal.at.put_marked-requires c).After-put_decimal, two_short c.args.settings.t (omega (arith, s.1)))

bad_end : (d : After-put_marked) → length d.put_marked.new.self ≤ 11
bad_end d =
    let s = small_settings d.args.settings in
    omega (arith, columns_end (goal.at.After-put_marked d).After-put_decimal, length-append {A = ℕ}, ap length d.put_marked.ensures, two_short d.args.settings.t (omega (arith, s.1)))

pub put_marked-requires-2 : goal.put_marked-requires-2
put_marked-requires-2 c =
    let s = small_settings c.args.settings in
    omega (arith, s.2, bad_end (goal.at.put_marked-requires-2 c).After-put_marked, one_short c.args.settings.w (omega (arith, s.2)))

size_end : (d : After-put_marked-2) → length d.put_marked-2.new.self ≤ 13
size_end d =
    let s = small_settings d.args.settings in
    omega (arith, bad_end (goal.at.After-put_marked-2 d).After-put_marked, length-append {A = ℕ}, ap length d.put_marked-2.ensures, one_short d.args.settings.w (omega (arith, s.2)))

pub put_byte-requires : goal.put_byte-requires
put_byte-requires c = omega (arith, size_end (goal.at.put_byte-requires c).After-put_marked-2)

pub returns-clause-put : goal.returns-clause-put
unfolding group_line
returns-clause-put c =
    rw (c.put_byte.ensures, c.put_marked-2.ensures, c.put_marked.ensures, c.put_decimal.ensures, c.put_bytes.ensures, c.requires) (simp append_assoc)

pub returns-clause-within : goal.returns-clause-within
returns-clause-within c = omega (arith, size_end (goal.at.returns-clause-within c).After-put_marked-2, length-append {A = ℕ}, ap length c.put_byte.ensures)
