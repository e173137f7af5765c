use Rattle.std.proofs.Common.{rules}
use Rattle.std.proofs.lemmas.List.Sorted.{IsPartitionPoint-from_clause}
use Rattle.definitions.specs.Order.{precedes}
use Rattle.hall_set.proofs.Searches.{list-IsHall, precedes-partitions}
use Rattle.hall_set.proofs.search.place_of.Goals as goal

pub returns : goal.returns
returns c =
    IsPartitionPoint-from_clause (precedes c.args.n c.args.i c.args.j) c.args.members.now c.partition_point.result c.partition_point.ensures.partitioned
    (precedes-partitions c.requires.0.depth c.args.members.now (list-IsHall c.args.members.now c.requires) c.args.n c.args.i c.args.j) (λ a r f' k. search rules)
