use Rattle.std.proofs.Common.{ap}
use Rattle.std.specs.Option.{unwrap_or}
use Rattle.std.specs.Prelude.{[]}
use Rattle.lie_bracket.proofs.EntryLaws.{pairs-apart}
use Rattle.lie_bracket.proofs.entries.store.Goals as goal

pub returns-clause-others : goal.returns-clause-others
returns-clause-others c = λ x y apart. ap (λ o. unwrap_or o []) (c.in_ok-insert.ensures.updates.2 (x, y) (pairs-apart c.args.a c.args.b x y apart))
