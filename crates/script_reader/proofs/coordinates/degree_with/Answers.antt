use Rattle.std.proofs.Common.{sym, ◌∙◌}
use Rattle.script_reader.proofs.Degrees.{found-some}
use Rattle.script_reader.proofs.coordinates.degree_with.Goals as goal

pub returns-clause-some : goal.returns-clause-some
returns-clause-some c =
    found-some c.args.shape c.args.counts.now c.args.coordinates c.in_ok-place.place c.depth-depth.ensures.shape c.requires (sym c.place_of.ensures.value ∙ c.in_ok-place.was)
