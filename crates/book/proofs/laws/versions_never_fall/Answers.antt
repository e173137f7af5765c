use Rattle.book.proofs.SeenLaws.{versions-rise}
use Rattle.book.proofs.laws.versions_never_fall.Goals as goal

pub returns : goal.returns
returns c = versions-rise
