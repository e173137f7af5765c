use Rattle.std.proofs.Common.{ap, sym, ◌∙◌}
use Rattle.std.proofs.lemmas.Result.{IfOk-weaker}
use Rattle.script_reader.specs.Coordinates.{degree_counts}
use Rattle.script_reader.specs.Limits.{named}
use Rattle.script_reader.proofs.Tallies.{commands_leave}
use Rattle.script_reader.proofs.reader.Reader.add.Goals as goal

pub returns-in-Commands-clause-counted : goal.returns-in-Commands-clause-counted
returns-in-Commands-clause-counted c =
    IfOk-weaker c.add_commands.result _ _ (λ done added.
    ap (λ counts. counts.items) c.add_commands.ensures.counts ∙ c.requires.counted
    ∙ ap (λ shape. degree_counts (named shape)) (sym (ap (λ tally. tally.shape) added.0 ∙ commands_leave c.args.self.now.tally c.in-Commands.commands))) c.add_commands.ensures.added
