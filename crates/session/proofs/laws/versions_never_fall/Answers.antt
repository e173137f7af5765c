use Rattle.session.proofs.VersionLaws.{never-fall}
use Rattle.session.proofs.laws.versions_never_fall.Goals as goal

pub returns : goal.returns
returns c capacity order = never-fall capacity c.args.script.now order c.versions_never_fall.ensures
