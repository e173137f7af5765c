use Rattle.std.proofs.Common.{◌≡◌, length}
use Rattle.std.specs.Vec.Iter.{into_iter_items, into_iter_len}
use Rattle.script_reader.proofs.Adding.{IsAdding}
use Rattle.script_reader.proofs.reader.Reader.add_commands.Given as goal

abbrev pub invariant-loop-command : goal.invariant-loop-command
invariant-loop-command l = record {
  adding : IsAdding l.initial.self.tally l.initial.self.sessions.items (into_iter_items l.initial.command-iterator) l.self.tally l.self.sessions.items l.self.watches.items (into_iter_items l.command-iterator);
  counts : l.self.counts ≡ l.initial.self.counts;
  watches : l.self.watches ≡ l.initial.self.watches;
  count : into_iter_len l.command-iterator ≡ length (into_iter_items l.command-iterator);
}
