-- `put_message` meets its contract: one place more. Assumes nothing.
use mathlib.Core.Path.{◌≡◌, refl}
use native.Mathlib.Omega.{arith}
use lib.ListN.{length}
use borrow.Author.Rules.{rules}
use Rattle.record.specs.Frame.{operand_size}
use Rattle.bench_file.specs.Scenario.{message, with_message}
use Rattle.bench_file.specs.Command.{no_message}
use Rattle.bench_file.specs.Steps.Places.{most_messages}
use Rattle.bench_file.proofs.Located.{message_more}
use Rattle.bench_file.proofs.places.Places.put_message.Goals as goal

pub returns : goal.returns
unfolding with_message no_message message
returns c file f x h stored =
    let a = c.args in
    let p = a.self.now in
    let long : length p.messages ≡ most_messages = search rules in
    let at = c.index_of_message.ensures in
    record {
      settings = h.settings;
      owns = h.owns;
      messages =
          λ m k l range.
          rw at.0
          (message_more file (operand_size f.settings) a.at (message a.round a.from a.to x) f.messages p.messages c.requires
          (omega (arith, at.0, at.1)) stored m k l range (h.messages m k l range));
      late = refl;
      opens = h.opens;
    }
