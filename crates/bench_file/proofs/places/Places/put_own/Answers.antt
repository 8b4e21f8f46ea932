-- `put_own` meets its contract: one place more. Assumes nothing.
use mathlib.Core.Path.{◌≡◌}
use native.Mathlib.Omega.{arith}
use lib.ListN.{length}
use borrow.Author.Rules.{rules}
use Rattle.code.specs.Size.{most_columns}
use Rattle.bench_file.specs.Scenario.{with_own, own_of}
use Rattle.bench_file.proofs.Located.{own_more, own_opens}
use Rattle.bench_file.proofs.places.Places.put_own.Goals as goal

pub returns : goal.returns
unfolding with_own own_of
returns c file f v h stored good =
    let a = c.args in
    let p = a.self.now in
    let long : length p.owns ≡ most_columns = search rules in
    record {
      settings = h.settings;
      owns = own_more file p.settings.w a.at a.column v f.owns p.owns (omega arith) c.requires.0 stored h.owns;
      messages = h.messages;
      late = h.late;
      opens = λ k u. own_opens f.settings a.column v f.owns good h.opens k u;
    }
