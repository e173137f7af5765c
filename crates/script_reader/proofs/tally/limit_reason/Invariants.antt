use Rattle.std.proofs.Common.{◌≡◌, drop}
use Rattle.script_reader.specs.Limits.{limit_reason}
use Rattle.script_reader.specs.Reading.{IsTally}
use Rattle.script_reader.proofs.tally.limit_reason.Given as goal

abbrev pub invariant-loop-command : goal.invariant-loop-command
invariant-loop-command l = record {
  kept : IsTally l.tally;
  ahead : limit_reason l.tally (drop l.command-index l.commands) ≡ limit_reason l.before l.commands;
}
