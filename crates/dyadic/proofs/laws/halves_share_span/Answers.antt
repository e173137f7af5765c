use Rattle.dyadic.proofs.Spans.{halves-share}
use Rattle.dyadic.proofs.laws.halves_share_span.Goals as goal

pub returns : goal.returns
returns c =
    let share = halves-share c.args.node.now c.requires in
    record { begins = share.begins; meets = share.meets; ends = share.ends }
